-- What is used of each of two journals: laws of lawful journals that don't speak of limits.
use Rattle.std.proofs.Common.{◌≡◌, ℕ, ◌<◌, true, ◌||◌, Some, None, List, ◌≢◌, is_some}
use Rattle.std.specs.List.{list_any}
use Rattle.ada_events.specs.declared.event.Event.{Event}
use Rattle.ada_events.specs.declared.names.TaskNo.{TaskNo}
use Rattle.ada_events.specs.declared.names.Master.{Master}
use Rattle.ada_events.specs.declared.names.Master.TheVariants.{Body, Block}
use Rattle.ada_events.specs.Search.{is_some_and, event_at}
use Rattle.ada_events.specs.Says.{Start, Wait, start_in}
use Rattle.ada_events.specs.Tasks.{task_count}
use Rattle.ada_events.specs.Masters.{same_master, reaches, depends_on}
use Rattle.ada_events.specs.Phases.{lists_task}
use Rattle.ada_events.specs.Nests.{nest}
use Rattle.ada_events.specs.Waits.{tail_due}
use Rattle.ada_events.specs.Forced.{met_at, passed_at}
use Rattle.ada_laws.specs.Calls.{IsWaitAt}
use Rattle.ada_laws.specs.Masters.{parent_of, IsKnown}
use Rattle.ada_laws.specs.Suspension.{IsSuspendedAt}
use Rattle.ada_events.specs.Holders.{is_block}
use Rattle.ada_standing.specs.StandsIn.{is_live}

-- the master is the body of a live task, or a block in the nest of one
pub data IsLivedIn (journal : List Event) : Master → Type 0 where
  body : (t : TaskNo) → is_live journal t.0 ≡ true → IsLivedIn journal (Body t)
  block : (task p : ℕ) → is_live journal task ≡ true → list_any (is_block p) (nest journal task) ≡ true → IsLivedIn journal (Block p)

-- from the master one comes by parents to one that has none
pub data IsClimb (journal : List Event) : Master → Type 0 where
  top : (x : Master) → parent_of journal x ≡ None → IsClimb journal x
  up : (x z : Master) → parent_of journal x ≡ Some z → IsClimb journal z → IsClimb journal x

pub record IsOrderly (journal : List Event) : Type 0 where
  pub exist : (task position : ℕ) → IsSuspendedAt journal task position → task < task_count journal
  pub once : (task p q : ℕ) → IsSuspendedAt journal task p → IsSuspendedAt journal task q → p ≡ q
  pub reach : (x y : Master) → IsKnown journal x
      → reaches journal x y ≡ (same_master x y || is_some_and (parent_of journal x) (λ (z : Master). reaches journal z y))
  pub depend : (t : TaskNo) (y : Master)
      → depends_on journal t.0 y ≡ is_some_and (parent_of journal (Body t)) (λ (z : Master). reaches journal z y)
  pub climb : (x : Master) → IsKnown journal x → IsClimb journal x
  pub masters : (u : ℕ) (x : Master) → is_live journal u ≡ true → depends_on journal u x ≡ true → IsLivedIn journal x
  pub parents : (p : ℕ) (z : Master) → IsLivedIn journal (Block p) → parent_of journal (Block p) ≡ Some z → IsLivedIn journal z
  pub starts : (p task : ℕ) (e : Event) (s : Start) → event_at journal p ≡ Some e → start_in e ≡ Some s → lists_task task s.tasks ≡ true
      → task < task_count journal
  pub meets : (p q : ℕ) (w v : Wait) (x y : Event) → IsWaitAt journal w p → IsWaitAt journal v q → met_at journal p w ≡ Some x
      → met_at journal q v ≡ Some y → p ≡ q
  pub passes : (p q : ℕ) (w v : Wait) (x y : Event) → IsWaitAt journal w p → IsWaitAt journal v q → passed_at journal p w ≡ Some x
      → passed_at journal q v ≡ Some y → p ≢ q → is_some (tail_due w.tail) ≡ true
