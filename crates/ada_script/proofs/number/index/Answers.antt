use Rattle.std.proofs.Common.{sym, ap, ◌∙◌, Some}
use Rattle.ada_script.proofs.Numbers.{index_fits, index_same}
use Rattle.ada_script.proofs.number.index.Goals as goal

pub overflow_cast-result : goal.overflow_cast-result
overflow_cast-result c = index_fits c.args.word.now c.in-Some.number (sym c.integer_within.ensures ∙ c.in-Some.is)

pub returns-in-Some : goal.returns-in-Some
returns-in-Some c =
    let read = sym c.integer_within.ensures ∙ c.in-Some.is in
    ap Some (index_same c.args.word.now c.in-Some.number read) ∙ sym read
