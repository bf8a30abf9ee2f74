use Rattle.std.proofs.Common.{sym, subst, rules}
use Rattle.ada_kernel.specs.internal.Indexes.{IsIndexOf}
use Rattle.ada_kernel.proofs.Spent.{failed_no_more, failed_fits}
use Rattle.ada_kernel.proofs.index.Index.fail.Goals as goal

pub drop_key-requires : goal.drop_key-requires
drop_key-requires c = failed_fits c.args.journal.now.events c.args.call c.note_failure.ensures.kept.lawful

pub returns : goal.returns
returns c = (
  search rules,
  subst (IsIndexOf c.drop_key.new.self) (sym c.push_reserved.ensures.events)
      (c.drop_key.ensures _ c.note_failure.ensures (failed_no_more c.args.journal.now.events c.args.call)),
)
