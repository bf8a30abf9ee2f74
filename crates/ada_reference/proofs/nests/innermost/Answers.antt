use Rattle.std.proofs.Common.{reverse, ◌∙◌, ap}
use Rattle.std.specs.Option.{option_or}
use Rattle.ada_events.specs.Nests.{innermost, member_at}
use Rattle.ada_reference.proofs.Members.{gathered_step, innermost-append}
use Rattle.ada_reference.proofs.nests.innermost.Goals as goal

pub loop-i-preserved : goal.loop-i-preserved
loop-i-preserved c =
    gathered_step innermost (λ last o. option_or o last) innermost-append (member_at (reverse c.args.events.now) c.args.task.0)
    c.args.events.now c.loop-i.i c.index-events-i.result c.loop-i.last c.or-last.result
    c.loop-i-test.true c.index-events-i.is c.loop-i.invariant (c.or-last.ensures ∙ ap (λ o. option_or o c.loop-i.last) c.member_at.ensures)
