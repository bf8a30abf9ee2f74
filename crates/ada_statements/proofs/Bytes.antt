-- Bytes that are compared one after another, or as one number.
use Rattle.std.proofs.Common.{◌≡◌, ℕ, zero, suc, ◌+◌, ◌*◌, ◌<◌, ◌≤◌, true, List, length, take, get_or, sym, ◌∙◌, subst, arith}
use Rattle.std.proofs.lemmas.List.{take_all}
use Rattle.std.proofs.lemmas.Grind.{same_number_lists}
use Rattle.std.specs.Int.{w128, from_le_bytes}
use Rattle.std.specs.Cmp.Lexicographic.{bytes_decides}
use Rattle.std.specs.Str.{bytes_eq}

-- bytes are the same if all are that were compared
pub alike_all : (xs ys : List ℕ) (i : ℕ) → length xs ≤ i → length xs ≡ length ys → take i xs ≡ take i ys → bytes_eq xs ys ≡ true
alike_all xs ys i all lengths same = (bytes_decides xs ys).1 (sym (take_all i xs all) ∙ same ∙ take_all i ys (rw (← lengths) all))

-- the number that so many bytes are from one of them on, the lowest first
abbrev number_from : ℕ → ℕ → List ℕ → ℕ
number_from i zero bytes = 0
number_from i (suc many) bytes = get_or bytes i 0 + 256 * number_from (suc i) many bytes

-- the lowest of them
lowest : (a b m n : ℕ) → a < 256 → b < 256 → a + 256 * m ≡ b + 256 * n → (a ≡ b) × (m ≡ n)
lowest a b m n small little same = (omega (arith, small, little, same), omega (arith, small, little, same))

same_from : (i many k : ℕ) (xs ys : List ℕ) → ((i : ℕ) → get_or xs i 0 < 256) → ((i : ℕ) → get_or ys i 0 < 256)
    → number_from i many xs ≡ number_from i many ys → k < many → get_or xs (i + k) 0 ≡ get_or ys (i + k) 0
same_from i zero k xs ys small little same below = absurd (omega (arith, below))
same_from i (suc many) zero xs ys small little same below =
    let at : i + 0 ≡ i = omega arith in
    subst (λ n. get_or xs n 0 ≡ get_or ys n 0) (sym at)
    (lowest (get_or xs i 0) (get_or ys i 0) (number_from (suc i) many xs) (number_from (suc i) many ys) (small i) (little i) same).0
same_from i (suc many) (suc k) xs ys small little same below =
    let at : i + suc k ≡ suc i + k = omega arith in
    subst (λ n. get_or xs n 0 ≡ get_or ys n 0) (sym at)
    (same_from (suc i) many k xs ys small little
    (lowest (get_or xs i 0) (get_or ys i 0) (number_from (suc i) many xs) (number_from (suc i) many ys) (small i) (little i) same).1
    (omega (arith, below)))

as_number : (bytes : List ℕ) → from_le_bytes w128 bytes ≡ number_from 0 16 bytes
as_number bytes = omega arith

-- sixteen bytes are the same if they are one number
pub same_number : (xs ys : List ℕ) → length xs ≡ 16 → length ys ≡ 16 → ((i : ℕ) → get_or xs i 0 < 256) → ((i : ℕ) → get_or ys i 0 < 256)
    → from_le_bytes w128 xs ≡ from_le_bytes w128 ys → xs ≡ ys
same_number xs ys long also small little same =
    same_number_lists xs ys (long ∙ sym also) (λ k below.
    let at : 0 + k ≡ k = omega arith in
    subst (λ n. get_or xs n 0 ≡ get_or ys n 0) at
    (same_from 0 16 k xs ys small little (sym (as_number xs) ∙ same ∙ as_number ys) (omega (arith, below, long))))
