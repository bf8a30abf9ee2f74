use Rattle.std.proofs.Common.{sym, ap, ◌∙◌}
use Rattle.std.specs.Cmp.Lexicographic.{nat_list_eq_equiv}
use Rattle.std.specs.Str.{bytes_eq}
use Rattle.ada_statements.proofs.Bytes.{alike_all}
use Rattle.ada_statements.proofs.name.Name.is.Goals as goal

pub returns : goal.returns
returns c =
    let own = c.as_bytes-own.result.now in
    let bytes = c.args.bytes.now in
    sym (ap (bytes_eq bytes) (sym c.as_bytes-own.ensures.value) ∙ nat_list_eq_equiv.symm bytes own
    ∙ alike_all own bytes c.loop-i.i c.loop-i-test.false c.if-own-bytes.false c.loop-i.invariant)
