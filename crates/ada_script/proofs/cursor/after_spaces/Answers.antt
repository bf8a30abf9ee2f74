use Rattle.std.proofs.Common.{◌≡◌, ◌∙◌, arith, length, subst, take, true}
use Rattle.std.specs.List.{list_all}
use Rattle.ada_script.specs.internal.Spaces.{is_space}
use Rattle.ada_script.proofs.Spaces.{words_after}
use Rattle.ada_script.proofs.cursor.after_spaces.Goals as goal

pub returns-then-byte-ne32-clause-words : goal.returns-then-byte-ne32-clause-words
returns-then-byte-ne32-clause-words c =
    words_after c.loop-i.i c.after_blocks-rest.result.now (omega arith) c.loop-i.invariant ∙ c.after_blocks-rest.ensures

pub returns-clause-words : goal.returns-clause-words
returns-clause-words c =
    let bytes = c.after_blocks-rest.result.now in
    let all : c.loop-i.i ≡ length bytes = omega (arith, c.loop-i-test.false, c.loop-i.auto.i-end) in
    words_after (length bytes) bytes (omega arith) (subst (λ n. list_all is_space (take n bytes) ≡ true) all c.loop-i.invariant)
    ∙ c.after_blocks-rest.ensures
