-- Words after spaces.
use Rattle.std.proofs.Common.{◌≡◌, ℕ, zero, suc, ◌-◌, ◌≤◌, true, cond, not, List, [], ◌∷◌, length, length-drop, take, drop, filter}
use Rattle.std.proofs.Common.{refl, sym, ap, ◌∙◌, arith}
use Rattle.std.proofs.lemmas.Bool.{and_parts}
use Rattle.std.proofs.Math.Seq.{take-length}
use Rattle.std.specs.List.{list_all}
use Rattle.ada_statements.specs.Text.{is_empty, parts_of, space, with_first, words_in}
use Rattle.ada_script.specs.internal.Spaces.{is_space}

-- spaces before them leave the words as they are
words_dropped : (n : ℕ) (bytes : List ℕ) → n ≤ length bytes → list_all is_space (take n bytes) ≡ true → words_in (drop n bytes) ≡ words_in bytes
words_dropped zero bytes fits spaces = refl
words_dropped (suc n) [] fits spaces = absurd (omega (arith, fits))
words_dropped (suc n) (b ∷ bytes) fits spaces =
    let parts = and_parts _ _ spaces in
    words_dropped n bytes (omega (arith, fits)) parts.1
    ∙ sym (ap (λ t. filter (λ word. not (is_empty word)) (cond t ([] ∷ parts_of space bytes) (with_first b (parts_of space bytes)))) parts.0)

-- the same, as a slice gives what is after them
pub words_after : (n : ℕ) (bytes : List ℕ) → n ≤ length bytes → list_all is_space (take n bytes) ≡ true
    → words_in (take (length bytes - n) (drop n bytes)) ≡ words_in bytes
words_after n bytes fits spaces =
    let all : take (length bytes - n) (drop n bytes) ≡ drop n bytes = rw (← length-drop n bytes) (take-length (drop n bytes)) in
    rw all (words_dropped n bytes fits spaces)
