use Rattle.std.proofs.Common.{refl, sym, ap, ◌∙◌, ◌&&◌, get_or}
use Rattle.std.proofs.lemmas.List.{take_all}
use Rattle.std.proofs.lemmas.List.Folds.{list_all_more}
use Rattle.std.specs.List.{list_all}
use Rattle.ada_script.specs.internal.Spaces.{is_space}
use Rattle.ada_script.proofs.cursor.are_spaces.Goals as goal

pub loop-byte-init : goal.loop-byte-init
loop-byte-init c = refl

pub loop-byte-preserved : goal.loop-byte-preserved
loop-byte-preserved c =
    ap (λ b. b && is_space (get_or c.args.bytes.now c.loop-byte.byte-index 0)) c.loop-byte.invariant
    ∙ sym (list_all_more is_space c.args.bytes.now c.loop-byte.byte-index 0 c.loop-byte-test.true)

pub returns : goal.returns
returns c = c.loop-byte.invariant ∙ ap (list_all is_space) (take_all c.loop-byte.byte-index c.args.bytes.now c.loop-byte-test.false)
