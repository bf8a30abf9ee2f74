-- The first key of an agenda, and keys that are dropped from it.
use Rattle.std.proofs.Common.{◌≡◌, ◌≢◌, ◌⊎◌, ℕ, false, Some, None, List, sym, ap, ◌∙◌, inl, inr}
use Rattle.std.proofs.lemmas.Bool.{cases_eq}
use Rattle.std.proofs.lemmas.Option.{none-some}
use Rattle.ada_events.specs.declared.event.Event.{Event}
use Rattle.ada_events.specs.Forced.{forced}
use Rattle.ada_step_laws.specs.declared.row.Row.{Row}
use Rattle.ada_step_laws.specs.Rows.{rank, step_at, IsFirst}
use Rattle.ada_step_laws.proofs.rows.Ranks.{one_rank}
use Rattle.ada_step_laws.proofs.rows.Keys.{forced_first, forced_nothing, agenda_less}
use Rattle.ada_agenda.specs.Keeping.{has_key, IsAgendaOf}

-- what the row of the first key gives there is forced
pub first_is_forced : (rows : List (List ℕ)) (journal : List Event) (row : Row) (key : ℕ) (step : Event) → IsAgendaOf rows journal
    → IsFirst (has_key rows) row key → step_at journal row key ≡ Some step → forced journal ≡ Some step
first_is_forced rows journal row key step agenda first gives = forced_first journal (has_key rows) row key step agenda.covers first gives

-- where there is no key, nothing is forced
pub none_is_forced : (rows : List (List ℕ)) (journal : List Event) → IsAgendaOf rows journal → ((row : Row) (key : ℕ) → has_key rows row key ≡ false)
    → None ≡ forced journal
none_is_forced rows journal agenda empty = sym (forced_nothing journal (has_key rows) agenda.covers empty)

-- a key that gives no step is dropped
pub key_dropped : (old new : List (List ℕ)) (journal : List Event) (row : Row) (key : ℕ) → IsAgendaOf old journal → step_at journal row key ≡ None
    → ((other : Row) (k : ℕ) → (other ≢ row) ⊎ (k ≢ key) → has_key new other k ≡ has_key old other k) → IsAgendaOf new journal
key_dropped old new journal row key agenda none others = record {
  covers = agenda_less journal (has_key old) (has_key new) agenda.covers (λ other k step was gives.
      elim (cases_eq (rank other) (rank row)) [
        | inr apart ↦ others other k (inl (λ same. apart (ap rank same))) ∙ was
        | inl same ↦
            elim (cases_eq k key) [
              | inr apart ↦ others other k (inr apart) ∙ was
              | inl here ↦
                  let one : row ≡ other = one_rank row other (sym same) in
                  absurd (none-some step (sym none ∙ ap (λ r. step_at journal r key) one ∙ ap (step_at journal other) (sym here) ∙ gives))
            ]
      ]);
}
