-- Numbers that stand for others, where one number is free: it stands for nothing, and nothing stands for it.
use Rattle.std.proofs.Common.{◌≡◌, ◌≢◌, ℕ, true, not, eqb, eqb-true, Option, Some, None, refl, sym, ap, ◌∙◌, ◌⊎◌, inl, inr, is_some}
use Rattle.std.specs.Option.{option_and_then, unwrap_or}
use Rattle.std.proofs.lemmas.Bool.{and_parts, false≢true, eq-eqb, ne_eqb}
use Rattle.std.proofs.lemmas.Bool.Decides.{eqb_tells}
use Rattle.ada_explore.specs.Scripts.{is_same}
use Rattle.ada_explore.specs.Sameness.{stands_for}

-- both are free
pub record IsFree (names : ℕ → Option ℕ) (free old new : ℕ) : Type 0 where
  pub same : old ≡ free
  pub same_too : new ≡ free
  pub none : names free ≡ None

-- neither is free, and the one is named for the other
pub record IsNamed (names : ℕ → Option ℕ) (free old new : ℕ) : Type 0 where
  pub bound : old ≢ free
  pub bound_too : new ≢ free
  pub named : names old ≡ Some new

nothing_there : (o : Option ℕ) → not (is_some o) ≡ true → o ≡ None
nothing_there None none = refl
nothing_there (Some n) none = absurd (false≢true none)

pub is_that : (o : Option ℕ) (n : ℕ) → is_same o (Some n) ≡ true → o ≡ Some n
is_that None n same = absurd (false≢true same)
is_that (Some m) n same = ap Some (eqb-true m n same)

not_free : (a b : ℕ) → not (eqb a b) ≡ true → a ≢ b
not_free a b other same = false≢true (sym (ap not (eq-eqb a b same)) ∙ other)

module _ (names : ℕ → Option ℕ) (free old new : ℕ) where
  pub stands_parts : stands_for names free old new ≡ true → IsFree names free old new ⊎ IsNamed names free old new
  stands_parts stands =
      elim (eqb_tells old free) [
        | inl same ↦
            let both = and_parts (eqb new free) (not (is_some (names free))) (rw same.0 at stands) in
            inl (record { same = same.1; same_too = eqb-true new free both.0; none = nothing_there (names free) both.1 })
        | inr other ↦
            let both = and_parts (not (eqb new free)) (is_same (names old) (Some new)) (rw other.0 at stands) in
            inr (record { bound = other.1; bound_too = not_free new free both.0; named = is_that (names old) new both.1 })
      ]

  pub both_free : IsFree names free old new → stands_for names free old new ≡ true
  both_free is = rw (eq-eqb old free is.same, eq-eqb new free is.same_too, is.none) refl

  pub one_named : IsNamed names free old new → stands_for names free old new ≡ true
  one_named is = rw (ne_eqb old free is.bound, ne_eqb new free is.bound_too, is.named, eq-eqb new new refl) refl

  -- it is the number that a request names for it
  pub asked_so : stands_for names free old new ≡ true → unwrap_or (names old) free ≡ new
  asked_so stands =
      elim (stands_parts stands) [
        | inl is ↦ ap (λ o. unwrap_or o free) (ap names is.same ∙ is.none) ∙ sym is.same_too
        | inr is ↦ ap (λ o. unwrap_or o free) is.named
      ]

-- what stands for a number still does under more names
pub stands_on : (names more : ℕ → Option ℕ) (free old new : ℕ) → (names free ≡ None → more free ≡ None) → ((u v : ℕ) → names u ≡ Some v → more u ≡ Some v)
    → stands_for names free old new ≡ true → stands_for more free old new ≡ true
stands_on names more free old new none kept stands =
    elim (stands_parts names free old new stands) [
      | inl is ↦ both_free more free old new (record { same = is.same; same_too = is.same_too; none = none is.none })
      | inr is ↦ one_named more free old new (record { bound = is.bound; bound_too = is.bound_too; named = kept old new is.named })
    ]

-- what stands for what stands for a number stands for it
pub stands_along : (names more : ℕ → Option ℕ) (free a b c : ℕ) → stands_for names free a b ≡ true → stands_for more free b c ≡ true
    → stands_for (λ u. option_and_then more (names u)) free a c ≡ true
stands_along names more free a b c first second =
    elim (stands_parts names free a b first) [
      | inl is ↦ elim (stands_parts more free b c second) [
        | inl also ↦
            both_free (λ u. option_and_then more (names u)) free a c
            (record { same = is.same; same_too = also.same_too; none = ap (option_and_then more) is.none })
        | inr also ↦ absurd (also.bound is.same_too)
      ]
      | inr is ↦ elim (stands_parts more free b c second) [
        | inl also ↦ absurd (is.bound_too also.same)
        | inr also ↦
            one_named (λ u. option_and_then more (names u)) free a c
            (record { bound = is.bound; bound_too = also.bound_too; named = ap (option_and_then more) is.named ∙ also.named })
      ]
    ]

-- numbers are the same where those that stand for them are, if names are apart
pub stand_apart : (names : ℕ → Option ℕ) (free s t u v : ℕ) → (names s ≡ Some u → names t ≡ Some v → eqb s t ≡ eqb u v)
    → stands_for names free s u ≡ true → stands_for names free t v ≡ true → eqb s t ≡ eqb u v
stand_apart names free s t u v apart first second =
    elim (stands_parts names free s u first) [
      | inl is ↦ elim (stands_parts names free t v second) [
        | inl also ↦ eq-eqb s t (is.same ∙ sym also.same) ∙ sym (eq-eqb u v (is.same_too ∙ sym also.same_too))
        | inr also ↦
            ne_eqb s t (λ same. also.bound (sym same ∙ is.same)) ∙ sym (ne_eqb u v (λ same. also.bound_too (sym same ∙ is.same_too)))
      ]
      | inr is ↦ elim (stands_parts names free t v second) [
        | inl also ↦
            ne_eqb s t (λ same. is.bound (same ∙ also.same)) ∙ sym (ne_eqb u v (λ same. is.bound_too (same ∙ also.same_too)))
        | inr also ↦ apart is.named also.named
      ]
    ]
