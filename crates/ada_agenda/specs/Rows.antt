-- Sets of numbers in rows.
use Rattle.std.specs.Prelude.{ℕ, Bool, List, [], slice_index_or}
use Rattle.std.specs.List.{sum_by}
use Rattle.ada_agenda.specs.Bits.{has, word_sum}

-- the number is in the row, which is one of these
abbrev pub keeps : List (List ℕ) → ℕ → ℕ → Bool
keeps rows row n = has (slice_index_or rows row []) n

-- the sum of the words of all rows, which falls when a number is taken out
abbrev pub weight : List (List ℕ) → ℕ
weight rows = sum_by word_sum rows
