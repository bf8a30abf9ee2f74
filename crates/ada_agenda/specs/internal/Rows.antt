-- Sets of numbers in rows.
use Rattle.std.specs.Prelude.{◌≡◌, ℕ, ◌<◌, true, List, length}
use Rattle.ada_agenda.specs.Bits.{has}
use Rattle.ada_agenda.specs.Rows.{keeps}

-- there is a set for each row; a row that has a number has its bit, and a bit is one of a row
pub record AreFilled (rows : List (List ℕ)) (filled : List ℕ) : Type 0 where
  pub one : length filled ≡ 1
  pub many : length rows ≡ 11
  pub told : (row number : ℕ) → keeps rows row number ≡ true → has filled row ≡ true
  pub known : (row : ℕ) → has filled row ≡ true → row < length rows
