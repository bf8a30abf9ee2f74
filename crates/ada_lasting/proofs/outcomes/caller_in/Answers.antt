use Rattle.std.proofs.Common.{◌≡◌, List, Some, sym, ap, ◌∙◌}
use Rattle.std.specs.Option.{option_copied, option_map}
use Rattle.ada_events.specs.declared.event.Event.{Event}
use Rattle.ada_events.specs.declared.names.TaskNo.{TaskNo}
use Rattle.ada_events.specs.Search.{event_at}
use Rattle.ada_lasting.proofs.Callers.{caller_none, caller_some}
use Rattle.ada_lasting.proofs.outcomes.caller_in.Goals as goal

-- the event is no call
pub returns-in_err-by : goal.returns-in_err-by
returns-in_err-by c =
    let stands : event_at c.args.kernel.now c.args.call ≡ Some c.in_ok-event.event.now =
    ap (λ (j : List Event). event_at j c.args.call) (sym c.journal.ensures.events) ∙ (sym c.get.ensures ∙ ap option_copied c.in_ok-event.was) in
    ap (option_map (λ (t : TaskNo). t.0)) c.from_residual-in_err-by.ensures
    ∙ sym (caller_none c.args.kernel.now c.args.call c.in_ok-event.event.now stands
    (sym c.caller.ensures ∙ ap (option_map (λ (t : TaskNo). t.0)) c.in_err-by.was))

pub returns : goal.returns
returns c =
    let stands : event_at c.args.kernel.now c.args.call ≡ Some c.in_ok-event.event.now =
    ap (λ (j : List Event). event_at j c.args.call) (sym c.journal.ensures.events) ∙ (sym c.get.ensures ∙ ap option_copied c.in_ok-event.was) in
    c.if_in_rendezvous.ensures
    ∙ sym (caller_some c.args.kernel.now c.args.call c.in_ok-by.by.0 c.in_ok-event.event.now stands
    (sym c.caller.ensures ∙ ap (option_map (λ (t : TaskNo). t.0)) c.in_ok-by.was))
