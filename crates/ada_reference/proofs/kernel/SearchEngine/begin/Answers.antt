use Rattle.std.proofs.Common.{ap, sym, ◌∙◌}
use Rattle.ada_events.specs.Refusals.{refusal}
use Rattle.ada_reference.proofs.Asking.{in_time}
use Rattle.ada_reference.proofs.kernel.SearchEngine.begin.Goals as goal

pub asked_event-requires-clause-in_time : goal.asked_event-requires-clause-in_time
asked_event-requires-clause-in_time c =
    in_time c.as_slice-2.result.now c.args.journal.now.events c.args.request.now
    (c.as_slice-2.ensures.value ∙ c.in_ok-make_room.ensures.events)
    (ap (λ j. refusal j c.args.request.now) (sym c.as_slice.ensures.value) ∙ sym c.in_default.ensures)
