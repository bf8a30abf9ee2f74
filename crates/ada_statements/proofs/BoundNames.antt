-- What a name stands for is found by its bytes, and changed there.
use Rattle.std.proofs.Common.{◌≡◌, ℕ, suc, ◌+◌, ◌<◌, ◌≤◌, Bool, true, false, cond, List, [], ◌∷◌, length, get_or, drop, add-one, Some, None}
use Rattle.std.proofs.Common.{Option, IfSome, refl, sym, ap, ◌∙◌, ◌||◌}
use Rattle.std.specs.Cmp.Lexicographic.{bytes_decides}
use Rattle.std.specs.List.{list_any}
use Rattle.std.specs.Map.{lookup, lookup_key}
use Rattle.std.specs.Option.{option_map}
use Rattle.std.specs.Str.{bytes_eq}
use Rattle.std.proofs.Math.Seq.{drop-cons}
use Rattle.std.proofs.Math.ListN.{drop_of_length-le}
use Rattle.std.proofs.lemmas.Map.Made.{lookup_key_same}
use Rattle.ada_statements.specs.declared.meaning.Meaning.{Meaning}
use Rattle.ada_statements.specs.Scope.{Scope}
use Rattle.ada_statements.specs.Binding.{with_meaning, place_from}

-- the name that is found by some bytes is these bytes
pub found_by_its_bytes : {X : Type 0} (name : List ℕ) (names : Scope) (bytes : X → List ℕ) (found : Option X)
    → option_map bytes found ≡ lookup_key (bytes_eq name) names → IfSome found (λ entry. bytes entry ≡ name)
found_by_its_bytes name names bytes None e = tt
found_by_its_bytes name names bytes (Some entry) e = sym (lookup_key_same bytes_decides name names (bytes entry) (sym e))

-- a name that isn't there
pub with_meaning-absent : (name : List ℕ) (names : Scope) (change : Meaning → Meaning) → lookup (bytes_eq name) names ≡ None
    → with_meaning names name change ≡ names
with_meaning-absent name [] change e = refl
with_meaning-absent name (entry ∷ names) change e = by (with_meaning-absent name names change) (bytes_eq name entry.0) e
  where
    by : (lookup (bytes_eq name) names ≡ None → with_meaning names name change ≡ names) → (same : Bool)
        → cond same (Some entry.1) (lookup (bytes_eq name) names) ≡ None
        → cond same ((entry.0, change entry.1) ∷ names) (entry ∷ with_meaning names name change) ≡ entry ∷ names
    by later true e = absurd cc
    by later false e = ap (λ (rest : Scope). entry ∷ rest) (later e)

-- a name at its place or among others, and one that isn't there
module _ (name : List ℕ) (names : List (List ℕ)) (i : ℕ) where
  module _ (other : List ℕ) (within : i < length names) (at : other ≡ get_or names i other) where
    here : drop i names ≡ other ∷ drop (i + 1) names
    here = rw add-one (drop-cons names i other within ∙ ap (λ (o : List ℕ). o ∷ drop (suc i) names) (sym at))

    pub place_found : bytes_eq name other ≡ true → place_from i name (drop i names) ≡ i
    place_found found = ap (place_from i name) here ∙ ap (λ t. cond t i (place_from (i + 1) name (drop (i + 1) names))) found

    pub place_passed : bytes_eq name other ≡ false → place_from (i + 1) name (drop (i + 1) names) ≡ place_from i name (drop i names)
    place_passed differs = sym (ap (place_from i name) here ∙ ap (λ t. cond t i (place_from (i + 1) name (drop (i + 1) names))) differs)

    pub among_found : bytes_eq name other ≡ true → list_any (bytes_eq name) (drop i names) ≡ true
    among_found found = ap (list_any (bytes_eq name)) here ∙ ap (λ t. t || list_any (bytes_eq name) (drop (i + 1) names)) found

    pub among_passed : bytes_eq name other ≡ false → list_any (bytes_eq name) (drop (i + 1) names) ≡ list_any (bytes_eq name) (drop i names)
    among_passed differs = sym (ap (list_any (bytes_eq name)) here ∙ ap (λ t. t || list_any (bytes_eq name) (drop (i + 1) names)) differs)

  pub among_over : length names ≤ i → list_any (bytes_eq name) (drop i names) ≡ false
  among_over past = ap (list_any (bytes_eq name)) (drop_of_length-le names past)

  pub place_over : length names ≤ i → place_from i name (drop i names) ≡ 255
  place_over past = ap (place_from i name) (drop_of_length-le names past)
