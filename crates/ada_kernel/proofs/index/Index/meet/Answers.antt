use Rattle.std.proofs.Common.{sym, subst, rules}
use Rattle.ada_kernel.specs.internal.Indexes.{IsIndexOf}
use Rattle.ada_kernel.proofs.Spent.{met_no_more, met_fits}
use Rattle.ada_kernel.proofs.index.Index.meet.Goals as goal

pub drop_key-requires : goal.drop_key-requires
drop_key-requires c = met_fits c.args.journal.now.events c.in-Some.call c.args.wait c.note_meeting.ensures.kept.lawful

pub returns : goal.returns
returns c = (
  search rules,
  subst (IsIndexOf c.drop_key.new.self) (sym c.push_reserved.ensures.events)
      (c.drop_key.ensures _ c.note_meeting.ensures (met_no_more c.args.journal.now.events c.in-Some.call c.args.wait)),
)
