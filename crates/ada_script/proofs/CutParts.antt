-- The first part of some bytes, and the words behind it.
use Rattle.std.proofs.Common.{◌≡◌, ◌≢◌, ℕ, zero, suc, ◌+◌, ◌-◌, add-one, length-drop, ◌<◌, false, cond, eqb, List, [], ◌∷◌, length, get_or, take, drop, ap, ◌∙◌}
use Rattle.std.proofs.Common.{arith, inl, inr}
use Rattle.std.proofs.lemmas.Bool.{eq-eqb, true≢false}
use Rattle.std.proofs.lemmas.Bool.Decides.{eqb_tells}
use Rattle.std.proofs.Math.Seq.{take-length}
use Rattle.ada_statements.specs.Text.{parts_of, with_first}

-- a byte that doesn't separate begins the first part
parts_of-cons : (separator b : ℕ) (bytes : List ℕ) → b ≢ separator → parts_of separator (b ∷ bytes) ≡ with_first b (parts_of separator bytes)
parts_of-cons separator b bytes ne =
    elim (eqb_tells b separator) [
      | inl same ↦ absurd (ne same.1)
      | inr other ↦ ap (λ t. cond t ([] ∷ parts_of separator bytes) (with_first b (parts_of separator bytes))) other.0
    ]

-- up to the first byte that separates
pub parts_of-cut : (separator : ℕ) (bytes : List ℕ) (i : ℕ) → i < length bytes → ((k : ℕ) → k < i → get_or bytes k 0 ≡ separator → ⊥)
    → get_or bytes i 0 ≡ separator
    → parts_of separator bytes ≡ take i bytes ∷ parts_of separator (drop (suc i) bytes)
parts_of-cut separator [] i within none found = absurd (omega arith)
parts_of-cut separator (b ∷ bytes) zero within none found =
    ap (λ t. cond t ([] ∷ parts_of separator bytes) (with_first b (parts_of separator bytes))) (eq-eqb b separator found)
parts_of-cut separator (b ∷ bytes) (suc i) within none found =
    let rest : parts_of separator bytes ≡ take i bytes ∷ parts_of separator (drop (suc i) bytes)
    = parts_of-cut separator bytes i (omega arith) (λ k lt. none (suc k) (omega arith)) found in
    parts_of-cons separator b bytes (none 0 (omega arith)) ∙ ap (with_first b) rest

-- all of them where none separates
pub parts_of-last : (separator : ℕ) (b : ℕ) (bytes : List ℕ) → ((k : ℕ) → k < length (b ∷ bytes) → get_or (b ∷ bytes) k 0 ≡ separator → ⊥)
    → parts_of separator (b ∷ bytes) ≡ (b ∷ bytes) ∷ []
parts_of-last separator b [] none = parts_of-cons separator b [] (none 0 (omega arith))
parts_of-last separator b (c ∷ bytes) none =
    parts_of-cons separator b (c ∷ bytes) (none 0 (omega arith)) ∙ ap (with_first b) (parts_of-last separator c bytes (λ k lt. none (suc k) (omega arith)))

-- the same, as a slice gives what is behind
pub parts_behind : (separator : ℕ) (bytes : List ℕ) (i : ℕ) → i < length bytes → ((k : ℕ) → k < i → get_or bytes k 0 ≡ separator → ⊥)
    → get_or bytes i 0 ≡ separator
    → parts_of separator bytes ≡ take i bytes ∷ parts_of separator (take (length bytes - (i + 1)) (drop (i + 1) bytes))
parts_behind separator bytes i within none found =
    let all : take (length bytes - (i + 1)) (drop (i + 1) bytes) ≡ drop (i + 1) bytes = rw (← length-drop (i + 1) bytes) (take-length (drop (i + 1) bytes)) in
    rw (all, add-one) (parts_of-cut separator bytes i within none found)

pub parts_of-whole : (separator : ℕ) (bytes : List ℕ) → eqb (length bytes) 0 ≡ false → ((k : ℕ) → k < length bytes → get_or bytes k 0 ≡ separator → ⊥)
    → parts_of separator bytes ≡ bytes ∷ parts_of separator (take (length bytes - length bytes) (drop (length bytes) bytes))
parts_of-whole separator [] some none = absurd (true≢false some)
parts_of-whole separator (b ∷ bytes) some none =
    let nothing : length (b ∷ bytes) - length (b ∷ bytes) ≡ 0 = omega arith in
    rw nothing (parts_of-last separator b bytes none)
