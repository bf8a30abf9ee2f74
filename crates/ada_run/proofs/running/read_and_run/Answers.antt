use Rattle.std.proofs.Common.{inl}
use Rattle.ada_replay.proofs.Breaking.{keeps_same}
use Rattle.ada_run.proofs.running.read_and_run.Goals as goal

pub returns-in-Err-clause-err : goal.returns-in-Err-clause-err
returns-in-Err-clause-err g c = inl (c.in-Err.ensures.err, keeps_same (g.W.Write.contents c.args.writer.now))
