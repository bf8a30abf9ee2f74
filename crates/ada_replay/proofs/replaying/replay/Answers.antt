use Rattle.ada_replay.proofs.Breaking.{input_breaks}
use Rattle.ada_replay.proofs.replaying.replay.Goals as goal

pub returns-in-Err-clause-err : goal.returns-in-Err-clause-err
returns-in-Err-clause-err g c =
    input_breaks c.in-Err.fault (g.R.Read.remaining c.args.reader.now) (g.W.Write.contents c.args.writer.now) c.in-Err.ensures.err
