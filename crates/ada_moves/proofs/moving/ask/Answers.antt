use Rattle.std.proofs.Common.{rules}
use Rattle.ada_moves.proofs.Stepping.{goes_alone}
use Rattle.ada_moves.proofs.moving.ask.Goals as goal

pub returns : goal.returns
returns g c =
    goes_alone (g.B.Behaviour.told c.args.behaviour.now) c.args.kernel.now c.args.rest.now c.args.object c.args.pick c.args.task c.in-Some.answer
    c.args.question _ c.requires.runs c.requires.wants (search rules) (search rules)
