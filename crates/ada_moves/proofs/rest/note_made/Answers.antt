use Rattle.std.proofs.Common.{arith}
use Rattle.ada_moves.proofs.Keeping.{none_made, made_there, made_past}
use Rattle.ada_moves.proofs.rest.note_made.Goals as goal

pub returns-in_default : goal.returns-in_default
returns-in_default c = rw c.in_default.is (none_made c.args.task 0 c.args.tasks.now.items)

pub returns-then-place-len : goal.returns-then-place-len
returns-then-place-len c =
    rw (c.in-Some.is, ← c.from-place.ensures) (made_there c.args.task c.from-place.result c.args.tasks.now.items)

pub returns-else-place-len : goal.returns-else-place-len
returns-else-place-len c =
    rw (c.in-Some.is, ← c.from-place.ensures) (made_past c.args.task c.from-place.result c.args.tasks.now.items
    (omega (arith, c.if-place-len.false, c.len.ensures, c.args.tasks.now.ok.0)))
