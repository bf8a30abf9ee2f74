-- Sets of numbers, each a bit.
use Rattle.std.specs.Prelude.{◌≡◌, ℕ, ◌*◌, ◌/◌, ◌%◌, ◌-◌, ◌^◌, ◌≤◌, not, List, length, slice_index_or, slice_set, ◌==◌, bit_and, bit_or}
use Rattle.ada_agenda.specs.Bits.{has}

-- the words with one bit set, and with one cleared
abbrev pub with_bit : List ℕ → ℕ → List ℕ
with_bit words n = slice_set words (n / 64) (bit_or (slice_index_or words (n / 64) 0) (1 * 2 ^ (n % 64) % 2 ^ 64))

abbrev pub without_bit : List ℕ → ℕ → List ℕ
without_bit words n = slice_set words (n / 64) (bit_and (slice_index_or words (n / 64) 0) (2 ^ 64 - 1 - 1 * 2 ^ (n % 64) % 2 ^ 64))

-- the upper level has exactly the words that aren't empty; a word that isn't there is
pub record AreHeads (low high : List ℕ) : Type 0 where
  pub room : length low ≤ 64 * length high
  pub heads : (w : ℕ) → has high w ≡ not (slice_index_or low w 0 == 0)
  pub few : length low ≤ 65536

-- 1,088 words at most, a bit for each of them, and one word of bits above these
pub record AreLevels (low mid top : List ℕ) : Type 0 where
  pub words : length low ≤ 1088
  pub heads : length mid ≡ 17
  pub one : length top ≡ 1
  pub low_heads : AreHeads low mid
  pub mid_heads : AreHeads mid top
