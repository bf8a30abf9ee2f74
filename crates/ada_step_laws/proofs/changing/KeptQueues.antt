-- Queues after events that take no call out of them.
use Rattle.std.proofs.Common.{◌≡◌, ℕ, Bool, true, false, not, ◌&&◌, Some, None, List, ◌∷◌, refl, ◌∙◌, append-nil}
use Rattle.std.proofs.lemmas.Bool.{and_parts}
use Rattle.ada_events.specs.declared.event.Event.{Event}
use Rattle.ada_events.specs.Search.{event_at}
use Rattle.ada_events.specs.Says.{call_in, completed_in}
use Rattle.ada_events.specs.Calls.{is_open_at, is_met, is_queued_at, queue}
use Rattle.ada_events.specs.Lawful.{IsLawful}
use Rattle.ada_laws.proofs.queues.Queueing.{is_open_at-call}
use Rattle.ada_step_laws.specs.Changes.{OthersKeepQueues}
use Rattle.ada_step_laws.proofs.changing.Callers.{caller_stays}
use Rattle.ada_step_laws.proofs.changing.QueueKinds.{no_newest}
use Rattle.ada_step_laws.proofs.changing.QueueChanges.{ends_caller, queue_more, queued-more, filter_all}

-- the caller of a queued call isn't ended
queued_stays : (event : Event) (before : List Event) (p : ℕ) (e : Event) → IsLawful (event ∷ before) → completed_in event ≡ None → event_at before p ≡ Some e
    → is_queued_at before p e ≡ true → ends_caller event before (call_in e) ≡ false
unfolding is_queued_at
queued_stays event before p e lawful completes at queued =
    let (c, says, opened) = is_open_at-call before p e at (and_parts (is_open_at before p e) (not (is_met before p)) queued).0 in
    rw says (caller_stays event before c p lawful opened completes)

pub all_kept : (q a : Bool) → (q ≡ true → a ≡ false) → (q && (true && not a && true)) ≡ (q && true)
all_kept true a lives = rw (lives refl) refl
all_kept false a lives = refl

pub others_keep_queues : OthersKeepQueues
others_keep_queues event before task entry lawful calls frees meets completes =
    queue_more event before task entry (λ _. true)
    (λ p e at.
    queued-more event before p e
    ∙ rw (frees, meets) (all_kept (is_queued_at before p e) (ends_caller event before (call_in e)) (queued_stays event before p e lawful completes at)))
    ∙ rw (no_newest event before task entry calls, filter_all (queue before task entry)) (append-nil (queue before task entry))
