-- Taking the step at the first key, and what it leaves where there is none.
use Rattle.std.proofs.Common.{◌≡◌, ◌≢◌, ◌⊎◌, ℕ, ◌+◌, ◌<◌, ◌≤◌, Bool, true, false, Some, List, ◌∷◌, sym, ap, ◌∙◌, subst}
use Rattle.std.proofs.lemmas.Bool.{false≢true}
use Rattle.ada_agenda.specs.Rows.{weight}
use Rattle.ada_events.specs.declared.event.Event.{Event}
use Rattle.ada_events.specs.Forced.{forced}
use Rattle.ada_events.specs.Journals.{Kept}
use Rattle.ada_step_laws.specs.declared.row.Row.{Row}
use Rattle.ada_step_laws.specs.Rows.{IsFirst}
use Rattle.ada_agenda.specs.Keeping.{has_key, IsAgendaOf}
use Rattle.ada_kernel.specs.declared.index.Index.{Index}
use Rattle.ada_kernel.specs.internal.Indexes.{IsIndexOf}
use Rattle.ada_kernel.specs.internal.Stepping.{HasTaken, MayTake, Takes}
use Rattle.ada_kernel.proofs.Keys.{first_is_forced}
use Rattle.ada_kernel.proofs.Spent.{stands_without_key}

-- at the first key of the agenda a step may be taken
pub may_take : (index : Index) (rows : List (List ℕ)) (journal : Kept) (row : Row) (key : ℕ) → IsIndexOf index journal.events → rows ≡ index.agenda
    → IsFirst (has_key rows) row key → ((step : Event) → forced journal.events ≡ Some step → 0 < journal.spare)
    → MayTake (record index { agenda = rows }) journal row key
may_take index rows journal row key stands same first room = record {
  stands = subst (λ (a : List (List ℕ)). IsIndexOf (record index { agenda = a }) journal.events) (sym same) stands;
  forces = λ step gives. first_is_forced rows journal.events row key step (subst (λ a. IsAgendaOf a journal.events) (sym same) stands.agenda) first gives;
  room = room;
}

module _ (index then : Index) (journal after : Kept) (row : Row) (key : ℕ) where
  took : (taken : Bool) → Takes index journal row key taken then after → taken ≡ true → HasTaken journal after × IsIndexOf then after.events
  took true takes is = takes
  took false takes is = absurd (false≢true is)

  left : (taken : Bool) → Takes index journal row key taken then after → taken ≡ false → Takes index journal row key false then after
  left false takes is = takes
  left true takes is = absurd (false≢true (sym is))

module _ (index then : Index) (initial journal after : Kept) (row : Row) (key : ℕ) (taken : Bool) (same : journal ≡ initial)
    (takes : Takes index journal row key taken then after) where
  -- a step that was taken is the forced one
  pub step_taken : taken ≡ true
      → (x : Event) × (forced initial.events ≡ Some x) × (after.events ≡ x ∷ initial.events) × (initial.spare ≤ after.spare + 1)
  step_taken is =
      let has : HasTaken initial after = subst (λ j. HasTaken j after) same (took index then journal after row key taken takes is).0 in
      (has.step, has.forced, has.appended, has.spare)

  pub stands_taken : taken ≡ true → IsIndexOf then after.events
  stands_taken is = (took index then journal after row key taken takes is).1

  -- where none was taken, all is as it was
  pub index_left : taken ≡ false → then ≡ index
  index_left is = (left index then journal after row key taken takes is).1

  pub journal_left : taken ≡ false → after ≡ initial
  journal_left is = (left index then journal after row key taken takes is).2 ∙ same

  -- and the index stands without that key
  pub stands_left : (rows : List (List ℕ)) → IsIndexOf index journal.events → taken ≡ false
      → ((other : Row) (k : ℕ) → (other ≢ row) ⊎ (k ≢ key) → has_key rows other k ≡ has_key then.agenda other k)
      → IsIndexOf (record then { agenda = rows }) after.events
  stands_left rows stands is others =
      let kept = left index then journal after row key taken takes is in
      let still : IsIndexOf then journal.events = subst (λ (i : Index). IsIndexOf i journal.events) (sym kept.1) stands in
      subst (λ (j : Kept). IsIndexOf (record then { agenda = rows }) j.events) (sym kept.2)
      (stands_without_key then rows journal.events row key still kept.0 others)

  pub weight_left : (rows before : List (List ℕ)) → index.agenda ≡ before → taken ≡ false → has_key index.agenda row key ≡ true
      → (has_key then.agenda row key ≡ true → weight rows < weight then.agenda) → weight rows < weight before
  weight_left rows before was is here fewer =
      let one : then.agenda ≡ index.agenda = ap (λ (i : Index). i.agenda) (index_left is) in
      subst (λ a. weight rows < weight a) (one ∙ was) (fewer (ap (λ a. has_key a row key) one ∙ here))
