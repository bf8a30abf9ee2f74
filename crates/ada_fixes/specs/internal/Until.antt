-- How far a text is fixed, which only private contracts cite.
use Rattle.std.specs.Prelude.{◌≡◌, ℕ, List, ◌++◌}
use Rattle.ada_fixes.specs.Fixes.{IsFixed}

-- all of a text is fixed but what is left of it
pub record IsFixedUntil (text rest fixed : List ℕ) : Type 0 where
  pub done : List ℕ
  pub whole : text ≡ done ++ rest
  pub is : IsFixed done fixed
