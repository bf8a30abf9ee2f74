-- Three levels of bits.
use Rattle.std.proofs.Common.{◌≡◌, ℕ, ◌-◌, ◌*◌, ◌/◌, ◌%◌, ◌^◌, ◌<◌, ◌≤◌, true, false, List, length, get_or, replicate, sym, refl, ap, ◌∙◌, arith, inl, inr}
use Rattle.std.specs.Prelude.{bit_and, bit_or, ◌==◌}
use Rattle.std.specs.Int.{bit_at}
use Rattle.std.proofs.lemmas.Bool.{cases_lt, ne_eqb, true≢false, false_from_ne_true}
use Rattle.std.proofs.lemmas.List.{length-set, length-replicate, get_or_past, get_or-replicate}
use Rattle.std.proofs.lemmas.Nat.Bits.{bit_at-zero}
use Rattle.ada_agenda.specs.Bits.{has}
use Rattle.ada_agenda.specs.internal.Bits.{with_bit, without_bit, AreHeads, AreLevels}
use Rattle.ada_agenda.proofs.Words.{heads_put, heads_emptied, heads_within, word_some}

-- setting or clearing a bit leaves the number of words
pub length-with_bit : (words : List ℕ) (n : ℕ) → length (with_bit words n) ≡ length words
length-with_bit words n = length-set words (n / 64) (bit_or (get_or words (n / 64) 0) (1 * 2 ^ (n % 64) % 2 ^ 64))

pub length-without_bit : (words : List ℕ) (n : ℕ) → length (without_bit words n) ≡ length words
length-without_bit words n = length-set words (n / 64) (bit_and (get_or words (n / 64) 0) (2 ^ 64 - 1 - 1 * 2 ^ (n % 64) % 2 ^ 64))

pub levels_put : (low mid top : List ℕ) (n : ℕ) → AreLevels low mid top → n < 64 * length low
    → AreLevels (with_bit low n) (with_bit mid (n / 64)) (with_bit top (n / 64 / 64))
levels_put low mid top n levels within =
    let middle : n / 64 < 64 * length mid = omega (arith, levels.words, levels.heads) in record {
      words = omega (arith, length-with_bit low n, levels.words);
      heads = length-with_bit mid (n / 64) ∙ levels.heads;
      one = length-with_bit top (n / 64 / 64) ∙ levels.one;
      low_heads = heads_put low mid n levels.low_heads within;
      mid_heads = heads_put mid top (n / 64) levels.mid_heads middle;
    }

-- a number is taken out of a word that it empties, and the word's bit above
pub levels_emptied : (low mid top top' : List ℕ) (n : ℕ) → AreLevels low mid top → n < 64 * length low → get_or (without_bit low n) (n / 64) 0 ≡ 0
    → AreHeads (without_bit mid (n / 64)) top' → length top' ≡ length top → AreLevels (without_bit low n) (without_bit mid (n / 64)) top'
levels_emptied low mid top top' n levels within empty heads many = record {
  words = omega (arith, length-without_bit low n, levels.words);
  heads = length-without_bit mid (n / 64) ∙ levels.heads;
  one = many ∙ levels.one;
  low_heads = heads_emptied low mid n levels.low_heads within empty;
  mid_heads = heads;
}

-- where the topmost word is 0, no number is in the set
pub none_stands : (low mid top : List ℕ) (k : ℕ) → AreLevels low mid top → get_or top 0 0 ≡ 0 → has low k ≡ true → ⊥
none_stands low mid top k levels none stands =
    let middle : has mid (k / 64) ≡ true = levels.low_heads.heads (k / 64) ∙ rw (word_some low k stands) refl in
    let topmost : has top (k / 64 / 64) ≡ true = levels.mid_heads.heads (k / 64 / 64) ∙ rw (word_some mid (k / 64) middle) refl in
    let within : k / 64 < length low = heads_within low mid (k / 64) levels.low_heads middle in
    let word : k / 64 / 64 / 64 ≡ 0 = omega (arith, within, levels.words) in
    let filled : (get_or top (k / 64 / 64 / 64) 0 == 0) ≡ false = word_some top (k / 64 / 64) topmost in
    true≢false (sym (rw (word, none) refl) ∙ filled)

-- words that are all 0 hold no number
pub none_held : (words : List ℕ) (k : ℕ) → ((w : ℕ) → get_or words w 0 ≡ 0) → has words k ≡ false
unfolding has
none_held words k zeros =
    ne_eqb _ 1 (λ one. let none : bit_at (get_or words (k / 64) 0) (k % 64) ≡ 0 = ap (λ x. bit_at x (k % 64)) (zeros (k / 64))
    ∙ bit_at-zero (k % 64) in omega arith)

heads_none : (low high : List ℕ) → ((w : ℕ) → get_or low w 0 ≡ 0) → ((w : ℕ) → get_or high w 0 ≡ 0) → length low ≤ 64 * length high → length low ≤ 65536
    → AreHeads low high
heads_none low high lows highs room few = record {
  room = room;
  heads = λ w. rw (lows w) (none_held high w highs);
  few = few;
}

pub levels_none : (low mid top : List ℕ) → ((w : ℕ) → get_or low w 0 ≡ 0) → ((w : ℕ) → get_or mid w 0 ≡ 0) → ((w : ℕ) → get_or top w 0 ≡ 0) → length low ≤ 1088
    → length mid ≡ 17 → length top ≡ 1 → AreLevels low mid top
levels_none low mid top lows mids tops words heads one = record {
  words = words;
  heads = heads;
  one = one;
  low_heads = heads_none low mid lows mids (omega (arith, words, heads)) (omega (arith, words));
  mid_heads = heads_none mid top mids tops (omega (arith, heads, one)) (omega (arith, heads));
}

-- where the topmost word is 0, the set is empty
pub none_stand : (low mid top : List ℕ) (k : ℕ) → AreLevels low mid top → get_or top 0 0 ≡ 0 → has low k ≡ false
none_stand low mid top k levels none = false_from_ne_true (has low k) (λ stands. none_stands low mid top k levels none stands)

-- so many words of no bit
abbrev pub zeros : ℕ → List ℕ
zeros n = replicate n 0

pub zeros_held : (n w : ℕ) → get_or (zeros n) w 0 ≡ 0
zeros_held n w = elim (cases_lt w n) [
  | inl within ↦ get_or-replicate n w 0 0 within
  | inr past ↦ get_or_past (zeros n) w 0 (omega (arith, length-replicate {A = ℕ} n 0))
]
