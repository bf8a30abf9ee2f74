-- A settled journal's rows give nothing, and so an agenda without keys is its agenda.
use Rattle.std.proofs.Common.{◌≡◌, ℕ, zero, suc, false, Option, None, Some, List, [], ◌∷◌, length, refl, sym, ap, ◌∙◌, inl, inr}
use Rattle.std.proofs.Common.{nat_lt}
use Rattle.std.specs.Option.{option_and_then}
use Rattle.std.specs.Bool.{then_some}
use Rattle.std.proofs.lemmas.Option.{none-some}
use Rattle.ada_events.specs.declared.event.Event.{Event}
use Rattle.ada_events.specs.declared.event.Event.TheVariants.{Halted}
use Rattle.ada_events.specs.Search.{first_given, first_below, event_at}
use Rattle.ada_events.specs.Tasks.{task_count}
use Rattle.ada_events.specs.Forced.{task_no, halted, failed, met, cancelled, passed, woken, activated, gone, quit_body, quit_block, left, first_of_all, forced}
use Rattle.ada_laws.proofs.searching.Searching.{option_or-none, option_and_then-some, event_at-cases}
use Rattle.ada_step_laws.specs.declared.row.Row.{Row}
use Rattle.ada_step_laws.specs.declared.row.Row.TheVariants.{Halting, Failing, Meeting, Cancelling, Passing, Waking, Activating, Terminating, QuittingBody}
use Rattle.ada_step_laws.specs.declared.row.Row.TheVariants.{QuittingBlock, Leaving}
use Rattle.ada_step_laws.specs.Rows.{at_event, of_task, step_at, IsAgenda}
use Rattle.ada_step_laws.proofs.rows.Keys.{of_found, row_step}
use Rattle.ada_step_laws.proofs.newly.Unhalted.{nothing_below}

none_given : (give : ℕ → Event → Option Event) (journal : List Event) (p : ℕ) (e : Event) → first_given give journal ≡ None → event_at journal p ≡ Some e
    → give p e ≡ None
unfolding first_given event_at
none_given give [] p e none at = absurd (none-some e at)
none_given give (event ∷ before) p e none at =
    let both = option_or-none (first_given give before) (give (suc (length before)) event) none in
    elim (event_at-cases event before p e at) [
      | inl newest ↦
          ap (λ n. give n e) newest.0 ∙ sym (ap (λ (f : Event). give (suc (length before)) f) newest.1) ∙ both.1
      | inr older ↦ none_given give before p e both.0 older
    ]

no_task_key : (give : ℕ → Option Event) (n k : ℕ) (step : Event) → first_below give n ≡ None
    → option_and_then (λ (_ : Event). give k) (then_some (nat_lt k n) (Halted (task_no k))) ≡ Some step → ⊥
no_task_key give n k step none gives =
    let found = of_found give n k step (Halted (task_no k)) (nat_lt k n) refl gives in
    none-some step (sym (nothing_below give n k none found.0) ∙ found.1)

no_event_key : (give : ℕ → Event → Option Event) (journal : List Event) (k : ℕ) (step : Event) → first_given give journal ≡ None
    → option_and_then (give k) (event_at journal k) ≡ Some step → ⊥
no_event_key give journal k step none gives =
    let (e, at, is) = option_and_then-some (give k) (event_at journal k) step gives in
    none-some step (sym (none_given give journal k e none at) ∙ is)

no_key : (journal : List Event) (row : Row) (key : ℕ) (step : Event) → row_step journal row ≡ None → step_at journal row key ≡ Some step → ⊥
unfolding step_at halted failed met cancelled passed woken activated gone quit_body quit_block left
no_key journal Halting key step none gives = no_task_key (of_task journal Halting) (task_count journal) key step none gives
no_key journal Failing key step none gives = no_event_key (at_event journal Failing) journal key step none gives
no_key journal Meeting key step none gives = no_event_key (at_event journal Meeting) journal key step none gives
no_key journal Cancelling key step none gives = no_event_key (at_event journal Cancelling) journal key step none gives
no_key journal Passing key step none gives = no_event_key (at_event journal Passing) journal key step none gives
no_key journal Waking key step none gives = no_event_key (at_event journal Waking) journal key step none gives
no_key journal Activating key step none gives = no_event_key (at_event journal Activating) journal key step none gives
no_key journal Terminating key step none gives = no_task_key (of_task journal Terminating) (task_count journal) key step none gives
no_key journal QuittingBody key step none gives = no_task_key (of_task journal QuittingBody) (task_count journal) key step none gives
no_key journal QuittingBlock key step none gives = no_event_key (at_event journal QuittingBlock) journal key step none gives
no_key journal Leaving key step none gives = no_event_key (at_event journal Leaving) journal key step none gives

-- the steps of all rows, in their order
abbrev all_steps : List Event → List (Option Event)
all_steps journal =
    halted journal ∷ failed journal ∷ met journal ∷ cancelled journal ∷ passed journal ∷ woken journal
    ∷ activated journal ∷ gone journal ∷ quit_body journal ∷ quit_block journal ∷ left journal ∷ []

number : List (Option Event) → ℕ → Option Event
number [] k = None
number (step ∷ rest) zero = step
number (step ∷ rest) (suc k) = number rest k

none_of_all : (steps : List (Option Event)) (k : ℕ) → first_of_all steps ≡ None → number steps k ≡ None
unfolding first_of_all number
none_of_all [] k none = refl
none_of_all (step ∷ rest) zero none = (option_or-none step (first_of_all rest) none).0
none_of_all (step ∷ rest) (suc k) none = none_of_all rest k (option_or-none step (first_of_all rest) none).1

no_row : (journal : List Event) (row : Row) → forced journal ≡ None → row_step journal row ≡ None
unfolding forced number
no_row journal Halting none = none_of_all (all_steps journal) 0 none
no_row journal Failing none = none_of_all (all_steps journal) 1 none
no_row journal Meeting none = none_of_all (all_steps journal) 2 none
no_row journal Cancelling none = none_of_all (all_steps journal) 3 none
no_row journal Passing none = none_of_all (all_steps journal) 4 none
no_row journal Waking none = none_of_all (all_steps journal) 5 none
no_row journal Activating none = none_of_all (all_steps journal) 6 none
no_row journal Terminating none = none_of_all (all_steps journal) 7 none
no_row journal QuittingBody none = none_of_all (all_steps journal) 8 none
no_row journal QuittingBlock none = none_of_all (all_steps journal) 9 none
no_row journal Leaving none = none_of_all (all_steps journal) 10 none

pub settled_gives_nothing : (journal : List Event) (row : Row) (key : ℕ) (step : Event) → forced journal ≡ None → step_at journal row key ≡ Some step → ⊥
settled_gives_nothing journal row key step none gives = no_key journal row key step (no_row journal row none) gives

-- the agenda of a settled journal may be empty
pub settled_agenda : (journal : List Event) → forced journal ≡ None → IsAgenda journal (λ row key. false)
settled_agenda journal none = record { kept = λ row key step gives. absurd (settled_gives_nothing journal row key step none gives) }
