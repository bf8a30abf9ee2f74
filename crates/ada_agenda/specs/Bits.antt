-- Sets of numbers, each a bit.
use Rattle.std.specs.Prelude.{ℕ, ◌/◌, ◌%◌, Bool, List, slice_index_or, ◌==◌}
use Rattle.std.specs.Int.{bit_at}
use Rattle.std.specs.List.{sum_by}

-- the number is in the set
unfoldable pub has : List ℕ → ℕ → Bool
has words n = bit_at (slice_index_or words (n / 64) 0) (n % 64) == 1

-- the sum of the words, which falls when a bit is cleared
abbrev pub word_sum : List ℕ → ℕ
word_sum words = sum_by (λ word. word) words
