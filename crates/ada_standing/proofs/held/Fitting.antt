-- What is used of an event that follows a journal, where it comes to what holds tasks up and what they are within.
use Rattle.std.proofs.Common.{◌≡◌, ℕ, suc, ◌≤◌, true, false, Some, List, [], ◌∷◌, length}
use Rattle.std.specs.List.{list_any}
use Rattle.ada_events.specs.declared.event.Event.{Event}
use Rattle.ada_events.specs.Search.{event_at}
use Rattle.ada_events.specs.Says.{Start, Meeting, start_in, meeting_in, failed_in, left_in}
use Rattle.ada_events.specs.Tasks.{task_count}
use Rattle.ada_events.specs.Phases.{lists_task, has_failed, is_released}
use Rattle.ada_events.specs.Calls.{is_met}
use Rattle.ada_events.specs.Nests.{is_left_close, nest}
use Rattle.ada_events.specs.Forced.{is_done_activating, task_no}
use Rattle.ada_laws.proofs.queues.Meeting.{IsTaking}
use Rattle.ada_laws.proofs.forced.Parts.{closes_block}
use Rattle.ada_standing.proofs.lawful.Leaving.{IsLeaving}

-- nothing speaks of the event's own position yet; rendezvous are between what came before them; who doesn't exist is
-- within nothing; a block is left after a pending close, a wait takes a queued call, a task fails while it is being
-- activated, and a start names tasks that haven't failed
pub record FitsHeld (journal : List Event) (event : Event) : Type 0 where
  pub unreleased : is_released (event ∷ journal) (suc (length journal)) ≡ false
  pub unmet : is_met (event ∷ journal) (suc (length journal)) ≡ false
  pub unleft : is_left_close (event ∷ journal) (suc (length journal)) ≡ false
  pub unclosed : list_any (closes_block (suc (length journal))) (event ∷ journal) ≡ false
  pub meetings : (p : ℕ) (d : Event) (m : Meeting) → event_at journal p ≡ Some d → meeting_in d ≡ Some m
      → (m.call ≤ length journal) × (m.wait ≤ length journal)
  pub empty : nest journal (task_count journal) ≡ []
  pub leaves : (close : ℕ) → left_in event ≡ Some close → IsLeaving journal close
  pub meets : (m : Meeting) → meeting_in event ≡ Some m → IsTaking journal m.call m.wait
  pub failing : (t : ℕ) → failed_in event ≡ Some t → is_done_activating journal (task_no t) ≡ false
  pub starting : (s : Start) (t : ℕ) → start_in event ≡ Some s → lists_task t s.tasks ≡ true → has_failed journal t ≡ false
