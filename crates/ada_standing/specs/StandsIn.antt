-- When a second journal may stand in for a first one: all that can still matter of the first is alike in the second.
use Rattle.std.specs.Prelude.{◌≡◌, ℕ, ◌<◌, ◌≤◌, Bool, true, false, not, ◌&&◌, Option, Some, List, length, map}
use Rattle.std.specs.Option.{option_map, option_and_then}
use Rattle.std.specs.Bool.{then_some}
use Rattle.std.specs.List.{list_any}
use Rattle.ada_events.specs.declared.event.Event.{Event}
use Rattle.ada_events.specs.declared.names.Master.{Master}
use Rattle.ada_events.specs.declared.names.Master.TheVariants.{Body, Block}
use Rattle.ada_events.specs.Says.{Creation}
use Rattle.ada_events.specs.Tasks.{has_task, creation_of, families_of, moment}
use Rattle.ada_events.specs.Phases.{has_start, is_started, is_elaborated, is_completed, is_terminated, has_ended, is_abnormal, is_suspended}
use Rattle.ada_events.specs.Nests.{nest}
use Rattle.ada_events.specs.Holders.{is_block}
use Rattle.ada_events.specs.Termination.{is_complete, is_abandoned}
use Rattle.ada_events.specs.Outcomes.{outcome_of}
use Rattle.ada_events.specs.Forced.{task_no}
use Rattle.ada_laws.specs.Masters.{parent_of}
use Rattle.ada_laws.specs.Suspension.{IsSuspendedAt}
use Rattle.ada_standing.specs.Renaming.{Renaming, renamed_master, renamed_member, renamed_outcome, renamed_parent}
use Rattle.ada_standing.specs.Holds.{IsSameHold, is_same_kind}

-- the task exists and isn't terminated
abbrev pub is_live : List Event → ℕ → Bool
is_live journal task = has_task journal task && not (is_terminated journal task)

-- who may still activate the task (9.3): its maker, while that isn't terminated and no start names the task
unfoldable pub activator_of : List Event → ℕ → Option ℕ
activator_of journal task =
    option_and_then (λ (c : Creation). then_some (not (has_start journal task) && not (is_terminated journal c.by)) c.by) (creation_of journal task)

-- what the task was made within (9.3); the main program within nothing
abbrev pub made_within : List Event → ℕ → Option Master
made_within journal task = option_map (λ (c : Creation). c.under) (creation_of journal task)

-- the task u of the old journal may still be named, and v stands for it: terminated or not, with the same
-- entries, to be activated by the same task
pub record IsSameTask (old new : List Event) (names : Renaming) (u v : ℕ) : Type 0 where
  pub existed : has_task old u ≡ true
  pub exists : has_task new v ≡ true
  pub terminated : is_terminated new v ≡ is_terminated old u
  pub families : families_of new v ≡ families_of old u
  pub activator : activator_of new v ≡ option_and_then names.task (activator_of old u)
  pub outcome : renamed_outcome names (outcome_of old u) ≡ Some (outcome_of new v)

-- it isn't terminated: it depends on the same master (9.4), is completed or not, named by a start or not (9.3),
-- and if not, then it was made within the same, and may still be activated or not
pub record IsSameDependent (old new : List Event) (names : Renaming) (u v : ℕ) : Type 0 where
  pub master : parent_of new (Body (task_no v)) ≡ renamed_parent names old (Body (task_no u))
  pub completed : is_completed new v ≡ is_completed old u
  pub named : has_start new v ≡ has_start old u
  pub within : has_start old u ≡ false → made_within new v ≡ option_and_then (renamed_master names) (made_within old u)
  pub abandoned : is_abandoned new v ≡ is_abandoned old u

-- the block at q stands for the block at p: opened within the same, complete or not (9.4)
pub record IsSameBlock (old new : List Event) (names : Renaming) (p q : ℕ) : Type 0 where
  pub within : parent_of new (Block q) ≡ renamed_parent names old (Block p)
  pub complete : is_complete new (Block q) ≡ is_complete old (Block p)

-- it is within the same blocks and rendezvous, in their order
pub record IsSameNest (old new : List Event) (names : Renaming) (u v : ℕ) : Type 0 where
  pub members : map Some (nest new v) ≡ map (renamed_member names) (nest old u)
  pub blocks : (p q : ℕ) → list_any (is_block p) (nest old u) ≡ true → names.position p ≡ Some q → IsSameBlock old new names p q

-- what holds u up at position p holds v up at the position that stands for p
pub record IsHeldAlike (old new : List Event) (names : Renaming) (v p : ℕ) (event : Event) : Type 0 where
  pub at : ℕ
  pub renamed : names.position p ≡ Some at
  pub held : IsSuspendedAt new v at
  pub alike : IsSameHold old new names p at event held.event

-- it hasn't ended: it is started, elaborated and abnormal or not, and suspended by the same or not at all
pub record IsSameActive (old new : List Event) (names : Renaming) (u v : ℕ) : Type 0 where
  pub started : is_started new v ≡ is_started old u
  pub elaborated : is_elaborated new v ≡ is_elaborated old u
  pub abnormal : is_abnormal new v ≡ is_abnormal old u
  pub suspended : is_suspended new v ≡ is_suspended old u
  pub held : (p : ℕ) (held : IsSuspendedAt old u p) → IsHeldAlike old new names v p held.event

-- tasks: the main program is the main program; all that aren't terminated are kept, in the order of their
-- numbers; and whoever stands for nobody is terminated
pub record KeepsTasks (old new : List Event) (names : Renaming) : Type 0 where
  pub main : names.task 0 ≡ Some 0
  pub live : (u : ℕ) → is_live old u ≡ true → (v : ℕ) × (names.task u ≡ Some v)
  pub rising : (s t u v : ℕ) → names.task s ≡ Some u → names.task t ≡ Some v → s < t → u < v
  pub others : (v : ℕ) → is_live new v ≡ true → (u : ℕ) × (names.task u ≡ Some v)

-- positions: each is one of its journal, and stands for one; the order is kept among the calls at which tasks are
-- suspended, and so among their waits with an open delay alternative, their delays, starts and closes, and among the
-- blocks in the nests of tasks that aren't terminated
pub record KeepsPositions (old new : List Event) (names : Renaming) : Type 0 where
  pub within : (p a : ℕ) → names.position p ≡ Some a → (p ≤ length old) × (a ≤ length new)
  pub one : (p q a : ℕ) → names.position p ≡ Some a → names.position q ≡ Some a → p ≡ q
  pub holds : (s t p q a b : ℕ) (d : IsSuspendedAt old s p) (e : IsSuspendedAt old t q) → is_same_kind d.event e.event ≡ true
      → names.position p ≡ Some a → names.position q ≡ Some b → p < q → a < b
  pub blocks : (s t p q a b : ℕ) → is_live old s ≡ true → is_live old t ≡ true
      → list_any (is_block p) (nest old s) ≡ true → list_any (is_block q) (nest old t) ≡ true
      → names.position p ≡ Some a → names.position q ≡ Some b → p < q → a < b

-- the new journal stands in for the old one, with these names
pub record StandsIn (old new : List Event) (names : Renaming) : Type 0 where
  pub moments : moment new ≡ moment old
  pub tasks : KeepsTasks old new names
  pub positions : KeepsPositions old new names
  pub same : (u v : ℕ) → names.task u ≡ Some v → IsSameTask old new names u v
  pub dependents : (u v : ℕ) → names.task u ≡ Some v → is_terminated old u ≡ false → IsSameDependent old new names u v
  pub nests : (u v : ℕ) → names.task u ≡ Some v → is_terminated old u ≡ false → IsSameNest old new names u v
  pub active : (u v : ℕ) → names.task u ≡ Some v → has_ended old u ≡ false → IsSameActive old new names u v
