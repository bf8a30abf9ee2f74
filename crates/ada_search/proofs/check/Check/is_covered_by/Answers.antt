use Rattle.std.proofs.Common.{sym}
use Rattle.ada_search.proofs.Steps.{ok_then, covered_there}
use Rattle.ada_search.proofs.check.Check.is_covered_by.Goals as goal

pub returns-in_ok-other-in-Some : goal.returns-in_ok-other-in-Some
returns-in_ok-other-in-Some g c =
    ok_then c.is_alike.result _ _
    (λ alike known yes. covered_there _ _ c.args.states.now _ _ c.args.state c.in-Some.schedule.now c.choices.result.now (sym c.in-Some.ensures)
    c.choices.ensures c.in_ok-other-in-Some.ensures (known yes)) c.is_alike.ensures
