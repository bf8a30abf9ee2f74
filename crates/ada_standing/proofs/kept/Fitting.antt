-- What is used of a journal and of the event that follows it: laws that don't speak of limits.
use Rattle.std.proofs.Common.{◌≡◌, ℕ, suc, ◌<◌, true, false, Some, List, length, ◌⊎◌}
use Rattle.ada_events.specs.declared.event.Event.{Event}
use Rattle.ada_events.specs.declared.names.Master.TheVariants.{Body, Block}
use Rattle.ada_events.specs.Search.{event_at}
use Rattle.ada_events.specs.Says.{Creation, creation_in, started_in, elaborated_in, failed_in, completed_in, gone_in, held_in, released_in}
use Rattle.ada_events.specs.Tasks.{task_count, creation_of}
use Rattle.ada_events.specs.Phases.{lists_task, is_released}
use Rattle.ada_events.specs.Outcomes.{raised_in, became, last_given, outcome_at}
use Rattle.ada_events.specs.Forced.{task_no}
use Rattle.ada_laws.specs.Suspension.{IsSuspendedAt}
use Rattle.ada_laws.proofs.within.Framing.{IsBlockOf}
use Rattle.ada_standing.specs.StandsIn.{is_live}
use Rattle.ada_standing.proofs.alike.Orderly.{IsLivedIn}

-- an event tells only of tasks below a number
pub record TellsBelow (count : ℕ) (event : Event) : Type 0 where
  pub starts : (u : ℕ) → lists_task u (started_in event) ≡ true → u < count
  pub elaborates : (u : ℕ) → elaborated_in event ≡ Some u → u < count
  pub fails : (u : ℕ) → failed_in event ≡ Some u → u < count
  pub completes : (u : ℕ) → completed_in event ≡ Some u → u < count
  pub ends : (u : ℕ) → gone_in event ≡ Some u → u < count
  pub holds : (u : ℕ) → held_in event ≡ Some u → u < count
  pub raises : (u : ℕ) → raised_in event ≡ Some u → u < count

-- the maker of a task exists, and made it within its own body or a block that it opened
pub record IsMaker (journal : List Event) (c : Creation) : Type 0 where
  pub exists : c.by < task_count journal
  pub within : (c.under ≡ Body (task_no c.by)) ⊎ ((p : ℕ) × IsBlockOf journal c.by p × (c.under ≡ Block p))

-- who makes a task is live, and what it makes the task within is live tasks' too
pub record IsMaking (journal : List Event) (c : Creation) : Type 0 where
  pub live : is_live journal c.by ≡ true
  pub within : IsLivedIn journal c.under

pub record Fits (journal : List Event) (event : Event) : Type 0 where
  pub makers : (u : ℕ) (c : Creation) → creation_of journal u ≡ Some c → IsMaker journal c
  pub told : (p : ℕ) (e : Event) → event_at journal p ≡ Some e → TellsBelow (task_count journal) e
  pub latest : (all : List Event) (t p : ℕ) → IsSuspendedAt journal t p → last_given (outcome_at all t) journal ≡ Some (became all p)
  pub unreleased : is_released journal (suc (length journal)) ≡ false
  pub making : (c : Creation) → creation_in event ≡ Some c → IsMaking journal c
  pub releases : (x : ℕ) → released_in event ≡ Some x → (t : ℕ) × IsSuspendedAt journal t x
