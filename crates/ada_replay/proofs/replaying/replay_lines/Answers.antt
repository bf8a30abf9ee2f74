use Rattle.std.proofs.Common.{inl, refl}
use Rattle.ada_replay.proofs.Breaking.{nothing_played}
use Rattle.ada_replay.proofs.replaying.replay_lines.Goals as goal

pub returns-in_default-clause-err : goal.returns-in_default-clause-err
returns-in_default-clause-err g c = (inl refl, nothing_played c.args.lines.now (g.W.Write.contents c.args.writer.now))
