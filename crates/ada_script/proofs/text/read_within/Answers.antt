use Rattle.std.proofs.Common.{inl, inr}
use Rattle.ada_script.proofs.Lines.{stops_here}
use Rattle.ada_script.proofs.text.read_within.Goals as goal

pub returns-in-Err-clause-err : goal.returns-in-Err-clause-err
returns-in-Err-clause-err c =
    elim c.in-Err.ensures.err [
      | inl memory ↦ inl memory
      | inr fault ↦ inr (c.loop-line.invariant.stops (record { line = c.loop-line.number; cause = c.in-Err.cause })
          (stops_here c.args.most c.loop-line.lines.items c.loop-line.number c.in-Some.line.now c.loop-line.rest c.next.new.self c.in-Err.cause
          c.in-Some.ensures fault))
    ]
