use Rattle.std.proofs.Common.{refl, sym, ap, ◌∙◌, ◌&&◌, take}
use Rattle.std.proofs.lemmas.List.{take_all}
use Rattle.std.proofs.lemmas.List.Folds.{list_all_more}
use Rattle.std.specs.List.{list_all}
use Rattle.ada_script.specs.internal.Printable.{printable}
use Rattle.ada_script.proofs.Printable.{printable_told}
use Rattle.ada_script.proofs.text.is_printable.Goals as goal

pub loop-byte-init : goal.loop-byte-init
loop-byte-init c = refl

pub loop-byte-preserved : goal.loop-byte-preserved
loop-byte-preserved c =
    ap (λ b. b && c.is_printable_byte-are.result) c.loop-byte.invariant
    ∙ ap (λ b. list_all printable (take c.loop-byte.byte-index c.args.line.now) && b) c.is_printable_byte-are.ensures
    ∙ sym (list_all_more printable c.args.line.now c.loop-byte.byte-index 0 c.loop-byte-test.true)

pub returns : goal.returns
returns c =
    printable_told c.args.line.now c.loop-byte.are
    (c.loop-byte.invariant ∙ ap (list_all printable) (take_all c.loop-byte.byte-index c.args.line.now c.loop-byte-test.false))
