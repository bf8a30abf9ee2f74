use Rattle.ada_standing.specs.Names.{renaming_of}
use Rattle.ada_compact.specs.internal.Keeping.{IsKeptRight}
use Rattle.ada_compact.proofs.StandingIn.{one_more}
use Rattle.ada_compact.proofs.comparison.Comparison.are_kept_right.Goals as goal

pub loop-number-preserved : goal.loop-number-preserved
loop-number-preserved c =
    one_more (IsKeptRight c.args.self.now.old c.args.self.now.new (renaming_of c.args.self.now.names.now)) c.loop-number.number c.loop-number.invariant
    (c.is_kept_right.ensures c.if-not-is_kept_right.false)
