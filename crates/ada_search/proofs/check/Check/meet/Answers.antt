use Rattle.ada_search.proofs.Steps.{met}
use Rattle.ada_search.proofs.check.Check.meet.Goals as goal

pub returns : goal.returns
returns g c = λ yes. met _ _ c.args.states.now c.meet.new.self c.args.schedule _ c.in_ok-meet.ensures (c.in_ok-is_alike.ensures c.if-not-branch.false)
