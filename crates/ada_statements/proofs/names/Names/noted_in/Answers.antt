use Rattle.std.proofs.Common.{sym}
use Rattle.ada_statements.proofs.Placed.{one_more_kept}
use Rattle.ada_statements.proofs.names.Names.noted_in.Goals as goal

pub loop-place-preserved : goal.loop-place-preserved
loop-place-preserved c =
    one_more_kept c.self.inside.table.entries c.loop-place.place c.in-Some.field-0-0.now c.in-Some.meaning.now c.loop-place.places c.note.new.self
    (sym c.in-Some.ensures.entry) c.loop-place.invariant (c.note.ensures c.if-not-note.false)
