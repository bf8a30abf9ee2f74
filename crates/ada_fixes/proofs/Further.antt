-- Fixing one more part of a text.
use Rattle.std.proofs.Common.{◌≡◌, ℕ, ◌||◌, List, [], ◌++◌, true, refl, sym, ap, subst, ◌∙◌, append_assoc}
use Rattle.ada_fixes.specs.Fixes.{IsFixed, is_rewritten, is_ended}
use Rattle.ada_fixes.specs.internal.Until.{IsFixedUntil}

-- what is done, and then a part
more_done : (text done rest part left : List ℕ) → text ≡ done ++ rest → rest ≡ part ++ left → text ≡ (done ++ part) ++ left
more_done text done rest part left whole cut = whole ∙ ap (λ r. done ++ r) cut ∙ sym (append_assoc done part left)

pub nothing_fixed : (text : List ℕ) → IsFixedUntil text text []
nothing_fixed text = record { done = []; whole = refl; is = IsFixed.nothing }

pub kept_further : (text rest part left fixed new : List ℕ) → rest ≡ part ++ left → new ≡ fixed ++ part → IsFixedUntil text rest fixed
    → IsFixedUntil text left new
kept_further text rest part left fixed new cut written until = record {
  done = until.done ++ part;
  whole = more_done text until.done rest part left until.whole cut;
  is = subst (λ (n : List ℕ). IsFixed (until.done ++ part) n) (sym written) (IsFixed.kept until.is part);
}

pub repaired_further : (text rest part left instead fixed new : List ℕ) → rest ≡ part ++ left → new ≡ fixed ++ instead
    → (is_rewritten part instead || is_ended part instead) ≡ true → IsFixedUntil text rest fixed → IsFixedUntil text left new
repaired_further text rest part left instead fixed new cut written repair until = record {
  done = until.done ++ part;
  whole = more_done text until.done rest part left until.whole cut;
  is = subst (λ (n : List ℕ). IsFixed (until.done ++ part) n) (sym written) (IsFixed.repaired until.is part instead repair);
}

-- all that is left is kept
pub kept_to_the_end : (text rest fixed new : List ℕ) → new ≡ fixed ++ rest → IsFixedUntil text rest fixed → IsFixed text new
kept_to_the_end text rest fixed new written until =
    subst (λ (t : List ℕ). IsFixed t new) (sym until.whole)
    (subst (λ (n : List ℕ). IsFixed (until.done ++ rest) n) (sym written) (IsFixed.kept until.is rest))
