-- What each task does, one task more at a time.
use Rattle.std.proofs.Common.{◌≡◌, ◌⊎◌, inl, inr, ℕ, ◌+◌, Some, List, [], ◌∷◌, ◌++◌, length, slice_get, sym, ap, ◌∙◌, subst}
use Rattle.std.proofs.lemmas.List.{length-append}
use Rattle.ada_events.specs.declared.event.Event.{Event}
use Rattle.ada_page.specs.declared.standing.Doing.{Doing}
use Rattle.ada_page.specs.Standing.{IsDoing}
use Rattle.ada_page.proofs.Lists.{last_or_earlier}

-- each task of a list, to which the task of the next number comes
one_doing_more : (journal : List Event) (doings more : List Doing) (n : ℕ) (last : Doing) → length doings ≡ n → IsDoing journal n last
    → ((task : ℕ) (doing : Doing) → slice_get doings task ≡ Some doing → IsDoing journal task doing) → more ≡ doings ++ last ∷ []
    → (task : ℕ) (doing : Doing) → slice_get more task ≡ Some doing → IsDoing journal task doing
one_doing_more journal doings more n last long is each grown task doing at =
    either (last_or_earlier doings last task doing (subst (λ ds. slice_get ds task ≡ Some doing) grown at))
  where
    either : (slice_get doings task ≡ Some doing) ⊎ ((task ≡ length doings) × (last ≡ doing)) → IsDoing journal task doing
    either (inl there) = each task doing there
    either (inr (place, same)) = subst (λ d. IsDoing journal task d) same (subst (λ t. IsDoing journal t last) (sym (place ∙ long)) is)

pub doings_grow : (journal : List Event) (doings more : List Doing) (n : ℕ) (last : Doing)
    → (length doings ≡ n) × ((task : ℕ) (doing : Doing) → slice_get doings task ≡ Some doing → IsDoing journal task doing)
    → IsDoing journal n last → more ≡ doings ++ last ∷ []
    → (length more ≡ n + 1) × ((task : ℕ) (doing : Doing) → slice_get more task ≡ Some doing → IsDoing journal task doing)
doings_grow journal doings more n last (long, each) is grown =
    (ap length grown ∙ (length-append doings (last ∷ []) ∙ ap (λ k. k + 1) long), one_doing_more journal doings more n last long is each grown)
