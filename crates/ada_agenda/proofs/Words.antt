-- One level of bits.
use Rattle.std.proofs.Common.{◌≡◌, ◌≢◌, ℕ, zero, suc, [], ◌∷◌, ◌++◌, ◌+◌, ◌-◌, ◌*◌, ◌/◌, ◌%◌, ◌^◌, ◌<◌, ◌≤◌, true, false, List, length, get_or}
use Rattle.std.proofs.Common.{sym, refl, ap, ◌∙◌, arith, inl, inr}
use Rattle.std.proofs.Common.{eq-eqb, w64}
use Rattle.std.specs.Prelude.{bit_and, bit_or, ◌==◌}
use Rattle.std.specs.Int.{bit_at, bit_not, trailing_zeros}
use Rattle.std.proofs.lemmas.Bool.{cases_eq, cases_lt, ne_eqb, eqb-true, true≢false, cases_Bool}
use Rattle.std.proofs.lemmas.Nat.{and_le_l}
use Rattle.std.proofs.lemmas.List.Sums.{sum_by-set}
use Rattle.std.proofs.lemmas.List.{length-set, get_or-set_same, get_or-set_other, get_or_past}
use Rattle.std.proofs.lemmas.Nat.Bits.{bit_at-zero, bit_at_set_same, bit_at_set_other, bit_at_clear_same, bit_at_clear_other, bit_at-trailing_zeros}
use Rattle.ada_agenda.specs.Bits.{has}
use Rattle.ada_agenda.specs.internal.Bits.{with_bit, without_bit, AreHeads}
use Rattle.ada_agenda.specs.Bits.{word_sum}

pub set_here : (words : List ℕ) (n : ℕ) → n < 64 * length words → has (with_bit words n) n ≡ true
unfolding has
set_here words n within =
    rw (get_or-set_same words (n / 64) (bit_or (get_or words (n / 64) 0) (1 * 2 ^ (n % 64) % 2 ^ 64)) 0 (omega arith))
    (eq-eqb _ 1 (bit_at_set_same w64 (get_or words (n / 64) 0) (n % 64) (omega arith)))

pub set_others : (words : List ℕ) (n k : ℕ) → n < 64 * length words → k ≢ n → has (with_bit words n) k ≡ has words k
unfolding has
set_others words n k within differs =
    elim (cases_eq (k / 64) (n / 64)) [
      | inl same ↦
          let apart : k % 64 ≢ n % 64 = λ e. differs (omega arith) in
          rw (
            same,
            get_or-set_same words (n / 64) (bit_or (get_or words (n / 64) 0) (1 * 2 ^ (n % 64) % 2 ^ 64)) 0 (omega arith),
            bit_at_set_other w64
                (get_or words (n / 64) 0) (n % 64) (omega arith) (k % 64) apart,
          ) refl
      | inr other ↦ rw (get_or-set_other words (n / 64) (k / 64) (bit_or (get_or words (n / 64) 0) (1 * 2 ^ (n % 64) % 2 ^ 64)) 0 other) refl
    ]

pub clear_here : (words : List ℕ) (n : ℕ) → n < 64 * length words → has (without_bit words n) n ≡ false
unfolding has
clear_here words n within =
    rw (
      get_or-set_same words (n / 64) (bit_and (get_or words (n / 64) 0) (bit_not w64 (1 * 2 ^ (n % 64) % 2 ^ 64))) 0 (omega arith),
      bit_at_clear_same w64
          (get_or words (n / 64) 0) (n % 64) (omega arith),
    ) refl

pub clear_others : (words : List ℕ) (n k : ℕ) → n < 64 * length words → k ≢ n → has (without_bit words n) k ≡ has words k
unfolding has
clear_others words n k within differs =
    elim (cases_eq (k / 64) (n / 64)) [
      | inl same ↦
          let apart : k % 64 ≢ n % 64 = λ e. differs (omega arith) in
          rw (
            same,
            get_or-set_same words (n / 64) (bit_and (get_or words (n / 64) 0) (bit_not w64 (1 * 2 ^ (n % 64) % 2 ^ 64))) 0 (omega arith),
            bit_at_clear_other w64 (get_or words (n / 64) 0) (n % 64) (omega arith) (k % 64) (omega arith) apart,
          ) refl
      | inr other ↦ rw (get_or-set_other words (n / 64) (k / 64) (bit_and (get_or words (n / 64) 0) (bit_not w64 (1 * 2 ^ (n % 64) % 2 ^ 64))) 0 other) refl
    ]

-- clearing a bit that is set lessens its word
word_less : (words : List ℕ) (n : ℕ) → n < 64 * length words → has words n ≡ true
    → bit_and (get_or words (n / 64) 0) (bit_not w64 (1 * 2 ^ (n % 64) % 2 ^ 64)) < get_or words (n / 64) 0
unfolding has
word_less words n within stands = below (and_le_l w (bit_not w64 (1 * 2 ^ (n % 64) % 2 ^ 64))) apart
  where
    w : ℕ
    w = get_or words (n / 64) 0

    x : ℕ
    x = bit_and w (bit_not w64 (1 * 2 ^ (n % 64) % 2 ^ 64))

    cleared : (bit_at x (n % 64) == 1) ≡ false
    cleared = rw (bit_at_clear_same w64 w (n % 64) (omega arith)) refl

    apart : x ≢ w
    apart same = true≢false (sym stands ∙ ap (λ v. bit_at v (n % 64) == 1) (sym same) ∙ cleared)

    below : x ≤ w → x ≢ w → x < w
    below most other = elim (cases_lt x w) [
      | inl less ↦ less
      | inr past ↦ absurd (other (omega (arith, most, past)))
    ]

pub clear_less : (words : List ℕ) (n : ℕ) → n < 64 * length words → has words n ≡ true → word_sum (without_bit words n) < word_sum words
clear_less words n within stands =
    omega (
      arith,
      sum_by-set (λ (word : ℕ). word) words (n / 64) (bit_and (get_or words (n / 64) 0) (bit_not w64 (1 * 2 ^ (n % 64) % 2 ^ 64))) 0 (omega arith),
      word_less words n within stands,
    )

-- the least number of a word
pub least_is : (words : List ℕ) (word : ℕ) → 0 < get_or words word 0 → get_or words word 0 < 2 ^ 64 → (trailing_zeros w64 (get_or words word 0) < 64)
    × (has words (word * 64 + trailing_zeros w64 (get_or words word 0)) ≡ true)
    × ((k : ℕ) → k < word * 64 + trailing_zeros w64 (get_or words word 0) → 64 * word ≤ k → has words k ≡ false)
unfolding has
least_is words word some fits =
    let z = trailing_zeros w64 (get_or words word 0) in
    let lowest = bit_at-trailing_zeros w64 (get_or words word 0) some fits in
    let below : z < 64 = lowest.0 in
    let place : (word * 64 + z) / 64 ≡ word = omega arith in
    let bit : (word * 64 + z) % 64 ≡ z = omega arith in (
      below,
      rw (place, bit) (eq-eqb _ 1 lowest.1),
      λ k less above.
          let here : k / 64 ≡ word = omega arith in
          rw (here, lowest.2 (k % 64) (omega arith)) refl,
    )

-- a word in which a number stands isn't empty
pub word_some : (words : List ℕ) (n : ℕ) → has words n ≡ true → (get_or words (n / 64) 0 == 0) ≡ false
unfolding has
word_some words n stands =
    ne_eqb (get_or words (n / 64) 0) 0 (λ none.
    let zero_bit : bit_at (get_or words (n / 64) 0) (n % 64) ≡ 0 = ap (λ x. bit_at x (n % 64)) none ∙ bit_at-zero (n % 64) in
    let one_bit : bit_at (get_or words (n / 64) 0) (n % 64) ≡ 1 = eqb-true _ 1 stands in
    omega arith)

pub heads_put : (low high : List ℕ) (n : ℕ) → AreHeads low high → n < 64 * length low → AreHeads (with_bit low n) (with_bit high (n / 64))
heads_put low high n tied within =
    let word = bit_or (get_or low (n / 64) 0) (1 * 2 ^ (n % 64) % 2 ^ 64) in
    let above : n / 64 < 64 * length high = omega (arith, tied.room) in
    record {
      room = omega (
        arith,
        length-set low (n / 64) word,
        length-set high (n / 64 / 64) (bit_or (get_or high (n / 64 / 64) 0) (1 * 2 ^ (n / 64 % 64) % 2 ^ 64)),
        tied.room,
      );
      heads = λ w.
          elim (cases_eq w (n / 64)) [
            | inl same ↦ rw (same, set_here high (n / 64) above, word_some (with_bit low n) n (set_here low n within)) refl
            | inr other ↦
                rw (set_others high (n / 64) w above other, get_or-set_other low (n / 64) w word 0 other)
                (tied.heads w)
          ];
      few = omega (arith, length-set low (n / 64) word, tied.few);
    }

-- a number is taken out of a word that it empties
pub heads_emptied : (low high : List ℕ) (n : ℕ) → AreHeads low high → n < 64 * length low → get_or (without_bit low n) (n / 64) 0 ≡ 0
    → AreHeads (without_bit low n) (without_bit high (n / 64))
heads_emptied low high n tied within empty =
    let word = bit_and (get_or low (n / 64) 0) (2 ^ 64 - 1 - 1 * 2 ^ (n % 64) % 2 ^ 64) in
    let above : n / 64 < 64 * length high = omega (arith, tied.room) in
    record {
      room = omega (
        arith,
        length-set low (n / 64) word,
        length-set high (n / 64 / 64)
            (bit_and (get_or high (n / 64 / 64) 0) (2 ^ 64 - 1 - 1 * 2 ^ (n / 64 % 64) % 2 ^ 64)),
        tied.room,
      );
      heads = λ w.
          elim (cases_eq w (n / 64)) [
            | inl same ↦ rw (same, clear_here high (n / 64) above, empty) refl
            | inr other ↦
                rw (clear_others high (n / 64) w above other, get_or-set_other low (n / 64) w word 0 other)
                (tied.heads w)
          ];
      few = omega (arith, length-set low (n / 64) word, tied.few);
    }

-- a word that is told by the upper level is there
pub heads_within : (low high : List ℕ) (w : ℕ) → AreHeads low high → has high w ≡ true → w < length low
heads_within low high w tied stands = elim (cases_lt w (length low)) [
  | inl within ↦ within
  | inr past ↦
      let none : get_or low w 0 ≡ 0 = get_or_past low w 0 past in
      absurd (true≢false (sym stands ∙ tied.heads w ∙ rw none refl))
]

-- the least of the upper level is the first word with a number, and its least is the least of all
pub least_of_all : (low high : List ℕ) (m n : ℕ) → AreHeads low high → ((w : ℕ) → w < m → has high w ≡ false) → n < 64 * m + 64
    → ((k : ℕ) → k < n → 64 * m ≤ k → has low k ≡ false) → (k : ℕ) → k < n → has low k ≡ false
least_of_all low high m n tied none near least k less =
    elim (cases_Bool (has low k)) [
      | inr absent ↦ absent
      | inl stands ↦
          let head : has high (k / 64) ≡ true = tied.heads (k / 64) ∙ rw (word_some low k stands) refl in
          elim (cases_lt (k / 64) m) [
            | inl before ↦ absurd (true≢false (sym head ∙ none (k / 64) before))
            | inr after ↦ least k less (omega arith)
          ]
    ]

-- more words of no bit leave each number as it was
pub same_bits : (old new : List ℕ) (k : ℕ) → ((w : ℕ) → get_or new w 0 ≡ get_or old w 0) → has new k ≡ has old k
unfolding has
same_bits old new k same = rw (same (k / 64)) refl

-- a number past the last word isn't there
pub none_past : (words : List ℕ) (k : ℕ) → length words ≤ k / 64 → has words k ≡ false
none_past words k past = elim (cases_Bool (has words k)) [
  | inr absent ↦ absent
  | inl stands ↦
      let none : get_or words (k / 64) 0 ≡ 0 = get_or_past words (k / 64) 0 past in
      absurd (true≢false (sym (rw none refl) ∙ word_some words k stands))
]

-- what isn't there lessens nothing
pub none_lessened : (words : List ℕ) (k : ℕ) → has words k ≡ false → has words k ≡ true → word_sum words < word_sum words
none_lessened words k absent stands = absurd (true≢false (sym stands ∙ absent))

-- one more word of no bit leaves each word as it was
pub zero_more : (words : List ℕ) (w : ℕ) → get_or (words ++ 0 ∷ []) w 0 ≡ get_or words w 0
zero_more [] zero = refl
zero_more [] (suc w) = get_or_past [] w 0 (omega arith)
zero_more (word ∷ words) zero = refl
zero_more (word ∷ words) (suc w) = zero_more words w
