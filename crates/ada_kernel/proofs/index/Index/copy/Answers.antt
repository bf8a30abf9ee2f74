use Rattle.std.proofs.Common.{refl}
use Rattle.ada_kernel.proofs.Copied.{copied}
use Rattle.ada_kernel.proofs.index.Index.copy.Goals as goal

pub returns-clause-ok : goal.returns-clause-ok
returns-clause-ok c =
    copied c.args.self.now _ c.in_ok-kept.ensures.records c.in_ok-kept.ensures.tables c.in_ok-kept.ensures.moment c.in_ok-agenda.ensures refl refl
