-- Bytes that are looked at one after the other.
use Rattle.std.proofs.Common.{◌≡◌, ◌↔◌, ℕ, ◌≤◌, Bool, true, List, sym, ◌∙◌}
use Rattle.std.specs.List.{list_all}
use Rattle.std.proofs.lemmas.Bool.{and_from, and_parts, leb-true, le-leb}
use Rattle.std.proofs.lemmas.List.Sums.{AllPass-from_list_all, list_all-from_AllPass}
use Rattle.ada_script.specs.Script.{IsPrintable}
use Rattle.ada_script.specs.internal.Printable.{printable}

-- a byte that passes is in 32 to 126
in_range : (byte : ℕ) → printable byte ≡ true → (32 ≤ byte) × (byte ≤ 126)
in_range byte passes = (leb-true 32 byte (and_parts _ _ passes).0, leb-true byte 126 (and_parts _ _ passes).1)

-- each byte of a line passes where the line is printable
pub printable_told : (line : List ℕ) (told : Bool) → told ≡ list_all printable line → (told ≡ true) ↔ IsPrintable line
printable_told line told is = (
  λ yes. λ k d within. in_range _ (AllPass-from_list_all printable line (sym is ∙ yes) k d within),
  λ all. is ∙ list_all-from_AllPass printable line (λ k d within.
      and_from _ _ (le-leb 32 _ (all k d within).0) (le-leb _ 126 (all k d within).1)),
)
