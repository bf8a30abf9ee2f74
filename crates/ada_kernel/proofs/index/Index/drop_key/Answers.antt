use Rattle.ada_kernel.proofs.Spent.{stands_without_key}
use Rattle.ada_kernel.proofs.index.Index.drop_key.Goals as goal

pub returns : goal.returns
returns c journal stands spent =
    stands_without_key c.args.self.now c.remove.new.self journal c.args.row c.args.key stands spent c.remove.ensures.others
