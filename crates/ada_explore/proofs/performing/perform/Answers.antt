use Rattle.std.proofs.Common.{ap, sym, ◌∙◌}
use Rattle.ada_events.specs.Forced.{task_no}
use Rattle.ada_explore.proofs.Acting.{may_ask, accepts_line, refuses_line}
use Rattle.ada_explore.proofs.performing.perform.Goals as goal

pub returns-in-Ok : goal.returns-in-Ok
returns-in-Ok c freedom may =
    accepts_line freedom _ _ _ _ _ _ _ c.in-Ok.at _ c.in-Some.request
    (may_ask freedom c.args.script.now c.args.standing.now.kernel c.args.standing.now.rest c.args.turn _ may (sym c.request_in.ensures ∙ c.in-Some.is))
    c.in-Ok.ensures.ok (ap task_no c.tasks.ensures) c.take.ensures c.bind.ensures

pub returns-in_ok-of_the_rules-in-Err : goal.returns-in_ok-of_the_rules-in-Err
returns-in_ok-of_the_rules-in-Err c freedom may =
    refuses_line freedom _ _ _ _ _ _ c.in-Some.request c.in-Err.cause
    (may_ask freedom c.args.script.now c.args.standing.now.kernel c.args.standing.now.rest c.args.turn _ may (sym c.request_in.ensures ∙ c.in-Some.is))
    c.in-Err.ensures.err c.in_ok-of_the_rules-in-Err.ensures.0 c.in_ok-of_the_rules-in-Err.ensures.1 c.take.ensures
