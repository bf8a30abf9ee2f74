use Rattle.std.proofs.Common.{arith}
use Rattle.ada_replay.proofs.Bytes.{appends_more}
use Rattle.ada_replay.proofs.output.write_output.Goals as goal

pub loop-written-preserved : goal.loop-written-preserved
loop-written-preserved g c = (
  omega (arith, c.in-Ok.ensures.bound),
  appends_more (g.W.Write.contents c.args.writer.now) (g.W.Write.contents c.loop-written.writer) (g.W.Write.contents c.write.new.self)
      c.args.bytes.now c.loop-written.written c.in-Ok.count c.loop-written.invariant.1 c.in-Ok.ensures.bytes,
)
