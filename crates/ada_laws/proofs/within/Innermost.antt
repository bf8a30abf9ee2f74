-- The innermost member of a nest is the last of what is gathered.
use Rattle.std.proofs.Common.{◌≡◌, ℕ, suc, ◌-◌, ◌≤◌, Option, Some, None, List, [], ◌∷◌, ◌++◌, length, refl, sym, ap, ◌∙◌, arith, inl, inr, append-nil}
use Rattle.std.proofs.Common.{length-append}
use Rattle.std.specs.Option.{option_to_list}
use Rattle.std.specs.List.{slice_get}
use Rattle.std.proofs.lemmas.Option.{none-some}
use Rattle.ada_events.specs.declared.event.Event.{Event}
use Rattle.ada_events.specs.declared.names.Member.{Member}
use Rattle.ada_events.specs.declared.names.Member.TheVariants.{Block}
use Rattle.ada_events.specs.Search.{gathered, event_at}
use Rattle.ada_events.specs.Nests.{innermost}
use Rattle.ada_laws.proofs.searching.Searching.{event_at-within, event_at-cases}

pub slice_last : (members : List Member) (x : Member) → slice_get (members ++ x ∷ []) (length members) ≡ Some x
slice_last [] x = refl
slice_last (y ∷ rest) x = slice_last rest x

pub innermost_last : (members : List Member) (x : Member) → innermost (members ++ x ∷ []) ≡ Some x
innermost_last members x =
    let many : length (members ++ x ∷ []) - 1 ≡ length members = omega (arith, length-append members (x ∷ [])) in
    ap (slice_get (members ++ x ∷ [])) many ∙ slice_last members x

-- the innermost block of what is gathered is the latest
pub latest : (give : ℕ → Event → Option Member) (journal : List Event) (p b : ℕ) (e : Event) → ((q r : ℕ) (f : Event) → give q f ≡ Some (Block r) → q ≡ r)
    → event_at journal p ≡ Some e → give p e ≡ Some (Block p) → innermost (gathered give journal) ≡ Some (Block b) → p ≤ b
unfolding gathered event_at
latest give [] p b e placed at gives last = absurd (none-some e at)
latest give (newest ∷ earlier) p b e placed at gives last =
    by_newest (give (suc (length earlier)) newest) refl last (λ older rest. latest give earlier p b e placed older gives rest)
  where
    by_newest : (o : Option Member) → give (suc (length earlier)) newest ≡ o → innermost (gathered give earlier ++ option_to_list o) ≡ Some (Block b)
        → (event_at earlier p ≡ Some e → innermost (gathered give earlier) ≡ Some (Block b) → p ≤ b) → p ≤ b
    by_newest None is last again =
        elim (event_at-cases newest earlier p e at) [
          | inl now ↦ absurd (none-some (Block p) (sym is ∙ ap (give (suc (length earlier))) now.1 ∙ ap (λ n. give n e) (sym now.0) ∙ gives))
          | inr older ↦ again older (ap innermost (sym (append-nil (gathered give earlier))) ∙ last)
        ]
    by_newest (Some x) is last again =
        let same : Some x ≡ Some (Block b) = sym (innermost_last (gathered give earlier) x) ∙ last in
        let place : suc (length earlier) ≡ b = placed (suc (length earlier)) b newest (is ∙ same) in
        let low : p ≤ length (newest ∷ earlier) = event_at-within (newest ∷ earlier) p e at in
        omega (arith, place, low)
