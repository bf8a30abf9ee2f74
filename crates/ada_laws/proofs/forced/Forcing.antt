-- Journals that follow from one another by forced steps.
use Rattle.std.proofs.Common.{◌≡◌, Some, None, List, [], ◌∷◌, ◌++◌, sym, refl, ap, ◌∙◌, ◌⊎◌, inl, inr}
use Rattle.std.proofs.lemmas.Option.{same_Some, none-some}
use Rattle.ada_events.specs.declared.event.Event.{Event}
use Rattle.ada_events.specs.Forced.{forced}
use Rattle.ada_events.specs.Lawful.{IsLawful, Forces}
use Rattle.ada_events.specs.Lawful.Forces.{nothing, one_more}
use Rattle.ada_laws.specs.Unlimited.{IsLawfulUnlimited}

-- nothing follows from a settled journal
pub settled_ends : (from to : List Event) → Forces from to → forced from ≡ None → to ≡ from
settled_ends from to nothing settled = refl
settled_ends from to (one_more {journal = journal} {event = event} before step) settled =
    let same : journal ≡ from = settled_ends from journal before settled in
    absurd (none-some event (sym (ap forced same ∙ settled) ∙ step))

-- what follows from a journal is that journal, or follows from it with its forced step
pub first_step : (from to : List Event) (event : Event) → Forces from to → forced from ≡ Some event → (to ≡ from) ⊎ Forces (event ∷ from) to
first_step from to first nothing forces_first = inl refl
first_step from to first (one_more {journal = journal} {event = event} before step) forces_first =
    elim (first_step from journal first before forces_first) [
      | inl same ↦
          let one : event ≡ first = same_Some event first (sym step ∙ (ap forced same ∙ forces_first)) in
          inr (rw (same, one) nothing)
      | inr further ↦ inr (one_more further step)
    ]

-- of two journals that follow from one, one follows from the other
pub one_follows : (from a b : List Event) → Forces from a → Forces from b → Forces a b ⊎ Forces b a
one_follows from a b nothing to_b = inl to_b
one_follows from a b (one_more {journal = journal} {event = event} before step) to_b =
    elim (one_follows from journal b before to_b) [
      | inl further ↦
          elim (first_step journal b event further step) [
            | inl same ↦ inr (rw same (one_more nothing step))
            | inr behind ↦ inl behind
          ]
      | inr further ↦ inr (one_more further step)
    ]

-- two settled journals that follow from one are the same
pub settled_same : (from a b : List Event) → Forces from a → Forces from b → forced a ≡ None → forced b ≡ None → a ≡ b
settled_same from a b to_a to_b a_settled b_settled =
    elim (one_follows from a b to_a to_b) [
      | inl further ↦ sym (settled_ends a b further a_settled)
      | inr further ↦ settled_ends b a further b_settled
    ]

-- forced steps, after forced steps
pub forces_on : (a b c : List Event) → Forces b c → Forces a b → Forces a c
forces_on a b c nothing first = first
forces_on a b c (one_more {journal = journal} before step) first = one_more (forces_on a b journal before first) step

-- what follows from a journal begins with it
pub forces_keeps : (from to : List Event) → Forces from to → (steps : List Event) × (to ≡ steps ++ from)
forces_keeps from to nothing = ([], refl)
forces_keeps from to (one_more {journal = journal} {event = event} before step) =
    let (steps, same) = forces_keeps from journal before in
    (event ∷ steps, ap (λ (j : List Event). event ∷ j) same)

-- what follows from a lawful journal is lawful
pub forces_lawful-unlimited : (from to : List Event) → Forces from to → IsLawfulUnlimited from → IsLawfulUnlimited to
forces_lawful-unlimited from to nothing lawful = lawful
forces_lawful-unlimited from to (one_more {journal = journal} before step) lawful = (forces_lawful-unlimited from journal before lawful, inl step)

pub forces_lawful : (from to : List Event) → Forces from to → IsLawful from → IsLawful to
forces_lawful from to nothing lawful = lawful
forces_lawful from to (one_more {journal = journal} before step) lawful = (forces_lawful from journal before lawful, inl step)
