-- What a journal forces, by its agenda.
use Rattle.std.proofs.Common.{◌≡◌, ℕ, zero, suc, ◌<◌, ◌≤◌, Bool, true, false, Option, Some, None, List, [], ◌∷◌, length, sym, refl, ap, ◌∙◌, arith, inl, inr}
use Rattle.std.proofs.Common.{nat_lt}
use Rattle.std.specs.Option.{option_and_then}
use Rattle.std.specs.Bool.{then_some}
use Rattle.std.proofs.lemmas.Bool.{lt-ltb, ltb-true, cases_eq, true≢false}
use Rattle.std.proofs.lemmas.Option.{none-some}
use Rattle.ada_events.specs.declared.event.Event.{Event}
use Rattle.ada_events.specs.declared.event.Event.TheVariants.{Halted}
use Rattle.ada_events.specs.Search.{first_given, first_below, event_at}
use Rattle.ada_events.specs.Tasks.{task_count}
use Rattle.ada_events.specs.Forced.{task_no, halted, failed, met, cancelled, passed, woken, activated, gone, quit_body, quit_block, left, first_of_all, forced}
use Rattle.ada_laws.proofs.searching.Searching.{event_at-cases, event_at-older, event_at-newest, event_at-within}
use Rattle.ada_step_laws.specs.Rows.{rank, at_event, of_task, step_at, IsAgenda, IsFirst}
use Rattle.ada_step_laws.specs.declared.row.Row.{Row}
use Rattle.ada_step_laws.specs.declared.row.Row.TheVariants.{Halting, Failing, Meeting, Cancelling, Passing, Waking, Activating, Terminating, QuittingBody}
use Rattle.ada_step_laws.specs.declared.row.Row.TheVariants.{QuittingBlock, Leaving}

pub none_from : {A : Type 0} (o : Option A) → ((x : A) → o ≡ Some x → ⊥) → o ≡ None
none_from None nothing = refl
none_from (Some x) nothing = absurd (nothing x refl)

first_below-none : {A : Type 0} (give : ℕ → Option A) (n : ℕ) → ((u : ℕ) → u < n → give u ≡ None) → first_below give n ≡ None
unfolding first_below
first_below-none give zero none = refl
first_below-none give (suc n) none = rw (first_below-none give n (λ u below. none u (omega arith)), none n (omega arith)) refl

first_below-least : {A : Type 0} (give : ℕ → Option A) (n u : ℕ) (x : A) → u < n → give u ≡ Some x → ((v : ℕ) → v < u → give v ≡ None)
    → first_below give n ≡ Some x
unfolding first_below
first_below-least give zero u x below gives none = absurd (omega arith)
first_below-least give (suc n) u x below gives none =
    elim (cases_eq u n) [
      | inl same ↦ rw (first_below-none give n (λ v less. none v (omega arith)), ← same, gives) refl
      | inr other ↦ rw (first_below-least give n u x (omega arith) gives none) refl
    ]

first_given-nothing : {A : Type 0} (give : ℕ → Event → Option A) (journal : List Event) → ((q : ℕ) (e : Event) → event_at journal q ≡ Some e → give q e ≡ None)
    → first_given give journal ≡ None
unfolding first_given
first_given-nothing give [] none = refl
first_given-nothing give (event ∷ before) none =
    rw (
      first_given-nothing give before (λ q e at. none q e (event_at-older event before q e at)),
      none (suc (length before)) event
          (event_at-newest event before),
    ) refl

first_given-least : {A : Type 0} (give : ℕ → Event → Option A) (journal : List Event) (p : ℕ) (e : Event) (x : A) → event_at journal p ≡ Some e
    → give p e ≡ Some x → ((q : ℕ) (f : Event) → event_at journal q ≡ Some f → q < p → give q f ≡ None) → first_given give journal ≡ Some x
unfolding first_given event_at
first_given-least give [] p e x at gives none = absurd (none-some e at)
first_given-least give (event ∷ before) p e x at gives none =
    elim (event_at-cases event before p e at) [
      | inl newest ↦
          let here : p ≡ suc (length before) = newest.0 in
          rw (first_given-nothing give before (λ q f there.
          let within : q ≤ length before = event_at-within before q f there in
          none q f (event_at-older event before q f there) (omega arith)))
          (ap (λ (f : Event). give (suc (length before)) f) newest.1 ∙ ap (λ n. give n e) (sym here) ∙ gives)
      | inr older ↦ rw (first_given-least give before p e x older gives (λ q f there less. none q f (event_at-older event before q f there) less)) refl
    ]

abbrev halted_no : ℕ → Event
halted_no k = Halted (task_no k)

-- a step of a row that goes by positions
at_found : (give : ℕ → Event → Option Event) (journal : List Event) (k : ℕ) (step : Event) → option_and_then (give k) (event_at journal k) ≡ Some step
    → ((j : ℕ) → j < k → option_and_then (give j) (event_at journal j) ≡ None) → (o : Option Event) → event_at journal k ≡ o
    → first_given give journal ≡ Some step
at_found give journal k step gives none None at = absurd (none-some step (rw at at gives))
at_found give journal k step gives none (Some e) at =
    first_given-least give journal k e step at (rw at at gives) (λ q f there less. rw there at (none q less))

at_none : (give : ℕ → Event → Option Event) (journal : List Event) → ((j : ℕ) → option_and_then (give j) (event_at journal j) ≡ None)
    → first_given give journal ≡ None
at_none give journal none = first_given-nothing give journal (λ q e at. rw at at (none q))

-- a step of a row that goes by tasks
pub of_found : (give : ℕ → Option Event) (n k : ℕ) (step some : Event) (b : Bool) → nat_lt k n ≡ b
    → option_and_then (λ (_ : Event). give k) (then_some b some) ≡ Some step → (k < n) × (give k ≡ Some step)
of_found give n k step some true below gives = (ltb-true k n below, gives)
of_found give n k step some false below gives = absurd (none-some step gives)

of_none : (give : ℕ → Option Event) (n k : ℕ) (some : Event) → k < n → option_and_then (λ (_ : Event). give k) (then_some (nat_lt k n) some) ≡ None
    → give k ≡ None
of_none give n k some below none = rw (lt-ltb k n below) at none

-- the step of a whole row
abbrev pub row_step : List Event → Row → Option Event
row_step journal Halting = halted journal
row_step journal Failing = failed journal
row_step journal Meeting = met journal
row_step journal Cancelling = cancelled journal
row_step journal Passing = passed journal
row_step journal Waking = woken journal
row_step journal Activating = activated journal
row_step journal Terminating = gone journal
row_step journal QuittingBody = quit_body journal
row_step journal QuittingBlock = quit_block journal
row_step journal Leaving = left journal

by_task_least : (give : ℕ → Option Event) (n k : ℕ) (step : Event) → option_and_then (λ (_ : Event). give k) (then_some (nat_lt k n) (halted_no k)) ≡ Some step
    → ((j : ℕ) → j < k → option_and_then (λ (_ : Event). give j) (then_some (nat_lt j n) (halted_no j)) ≡ None) → first_below give n ≡ Some step
by_task_least give n k step gives none =
    let found = of_found give n k step (halted_no k) (nat_lt k n) refl gives in
    first_below-least give n k step found.0 found.1 (λ j less.
    let within : k < n = found.0 in
    of_none give n j (halted_no j) (omega arith) (none j less))

by_task_none : (give : ℕ → Option Event) (n : ℕ) → ((j : ℕ) → option_and_then (λ (_ : Event). give j) (then_some (nat_lt j n) (halted_no j)) ≡ None)
    → first_below give n ≡ None
by_task_none give n none = first_below-none give n (λ j below. of_none give n j (halted_no j) below (none j))

-- the step at the least key at which a row gives one is the row's
pub row_least : (journal : List Event) (row : Row) (k : ℕ) (step : Event) → step_at journal row k ≡ Some step → ((j : ℕ) → j < k → step_at journal row j ≡ None)
    → row_step journal row ≡ Some step
unfolding step_at halted failed met cancelled passed woken activated gone quit_body quit_block left
row_least journal Halting k step gives none = by_task_least (of_task journal Halting) (task_count journal) k step gives none
row_least journal Failing k step gives none = at_found (at_event journal Failing) journal k step gives none (event_at journal k) refl
row_least journal Meeting k step gives none = at_found (at_event journal Meeting) journal k step gives none (event_at journal k) refl
row_least journal Cancelling k step gives none = at_found (at_event journal Cancelling) journal k step gives none (event_at journal k) refl
row_least journal Passing k step gives none = at_found (at_event journal Passing) journal k step gives none (event_at journal k) refl
row_least journal Waking k step gives none = at_found (at_event journal Waking) journal k step gives none (event_at journal k) refl
row_least journal Activating k step gives none = at_found (at_event journal Activating) journal k step gives none (event_at journal k) refl
row_least journal Terminating k step gives none = by_task_least (of_task journal Terminating) (task_count journal) k step gives none
row_least journal QuittingBody k step gives none = by_task_least (of_task journal QuittingBody) (task_count journal) k step gives none
row_least journal QuittingBlock k step gives none = at_found (at_event journal QuittingBlock) journal k step gives none (event_at journal k) refl
row_least journal Leaving k step gives none = at_found (at_event journal Leaving) journal k step gives none (event_at journal k) refl

pub row_none : (journal : List Event) (row : Row) → ((j : ℕ) → step_at journal row j ≡ None) → row_step journal row ≡ None
unfolding step_at halted failed met cancelled passed woken activated gone quit_body quit_block left
row_none journal Halting none = by_task_none (of_task journal Halting) (task_count journal) none
row_none journal Failing none = at_none (at_event journal Failing) journal none
row_none journal Meeting none = at_none (at_event journal Meeting) journal none
row_none journal Cancelling none = at_none (at_event journal Cancelling) journal none
row_none journal Passing none = at_none (at_event journal Passing) journal none
row_none journal Waking none = at_none (at_event journal Waking) journal none
row_none journal Activating none = at_none (at_event journal Activating) journal none
row_none journal Terminating none = by_task_none (of_task journal Terminating) (task_count journal) none
row_none journal QuittingBody none = by_task_none (of_task journal QuittingBody) (task_count journal) none
row_none journal QuittingBlock none = at_none (at_event journal QuittingBlock) journal none
row_none journal Leaving none = at_none (at_event journal Leaving) journal none

-- the step of the first row that has one
pub forced_row : (journal : List Event) (row : Row) (step : Event) → row_step journal row ≡ Some step
    → ((other : Row) → rank other < rank row → row_step journal other ≡ None) → forced journal ≡ Some step
unfolding forced first_of_all
forced_row journal Halting step gives none = rw gives refl
forced_row journal Failing step gives none = rw (none Halting (omega arith), gives) refl
forced_row journal Meeting step gives none = rw (none Halting (omega arith), none Failing (omega arith), gives) refl
forced_row journal Cancelling step gives none = rw (none Halting (omega arith), none Failing (omega arith), none Meeting (omega arith), gives) refl
forced_row journal Passing step gives none =
    rw (none Halting (omega arith), none Failing (omega arith), none Meeting (omega arith), none Cancelling (omega arith), gives) refl
forced_row journal Waking step gives none =
    rw (
      none Halting (omega arith),
      none Failing (omega arith),
      none Meeting (omega arith),
      none Cancelling (omega arith),
      none Passing (omega arith),
      gives,
    ) refl
forced_row journal Activating step gives none =
    rw (
      none Halting (omega arith),
      none Failing (omega arith),
      none Meeting (omega arith),
      none Cancelling (omega arith),
      none Passing (omega arith),
      none
          Waking (omega arith),
      gives,
    ) refl
forced_row journal Terminating step gives none =
    rw (
      none Halting (omega arith),
      none Failing (omega arith),
      none Meeting (omega arith),
      none Cancelling (omega arith),
      none Passing (omega arith),
      none
          Waking (omega arith),
      none Activating (omega arith),
      gives,
    ) refl
forced_row journal QuittingBody step gives none =
    rw (
      none Halting (omega arith),
      none Failing (omega arith),
      none Meeting (omega arith),
      none Cancelling (omega arith),
      none Passing (omega arith),
      none
          Waking (omega arith),
      none Activating (omega arith),
      none Terminating (omega arith),
      gives,
    ) refl
forced_row journal QuittingBlock step gives none =
    rw (
      none Halting (omega arith),
      none Failing (omega arith),
      none Meeting (omega arith),
      none Cancelling (omega arith),
      none Passing (omega arith),
      none
          Waking (omega arith),
      none Activating (omega arith),
      none Terminating (omega arith),
      none QuittingBody (omega arith),
      gives,
    ) refl
forced_row journal Leaving step gives none =
    rw (
      none Halting (omega arith),
      none Failing (omega arith),
      none Meeting (omega arith),
      none Cancelling (omega arith),
      none Passing (omega arith),
      none
          Waking (omega arith),
      none Activating (omega arith),
      none Terminating (omega arith),
      none QuittingBody (omega arith),
      none QuittingBlock (omega arith),
      gives,
    ) refl

-- nothing stands at a key that the agenda hasn't
not_kept : (journal : List Event) (has : Row → ℕ → Bool) (row : Row) (key : ℕ) → IsAgenda journal has → has row key ≡ false → step_at journal row key ≡ None
not_kept journal has row key agenda missing = none_from (step_at journal row key) (λ step gives. true≢false (sym (agenda.kept row key step gives) ∙ missing))

-- the step at the first key of an agenda, where there is one, is forced
pub forced_first : (journal : List Event) (has : Row → ℕ → Bool) (row : Row) (key : ℕ) (step : Event) → IsAgenda journal has → IsFirst has row key
    → step_at journal row key ≡ Some step → forced journal ≡ Some step
forced_first journal has row key step agenda first gives =
    forced_row journal row step
    (row_least journal row key step gives (λ j less. not_kept journal has row j agenda (first.keys j less)))
    (λ other lower. row_none journal other (λ j. not_kept journal has other j agenda (first.rows other j lower)))

-- where an agenda has no keys, nothing is forced
pub forced_nothing : (journal : List Event) (has : Row → ℕ → Bool) → IsAgenda journal has → ((row : Row) (key : ℕ) → has row key ≡ false)
    → forced journal ≡ None
unfolding forced first_of_all
forced_nothing journal has agenda empty =
    let none = λ (row : Row). row_none journal row (λ j. not_kept journal has row j agenda (empty row j)) in
    rw (
      none Halting,
      none Failing,
      none Meeting,
      none Cancelling,
      none Passing,
      none Waking,
      none Activating,
      none Terminating,
      none QuittingBody,
      none QuittingBlock,
      none Leaving,
    ) refl

-- a key that gives no step may be dropped
pub agenda_less : (journal : List Event) (has fewer : Row → ℕ → Bool) → IsAgenda journal has
    → ((row : Row) (key : ℕ) (step : Event) → has row key ≡ true → step_at journal row key ≡ Some step → fewer row key ≡ true) → IsAgenda journal fewer
agenda_less journal has fewer agenda keeps = record { kept = λ row key step gives. keeps row key step (agenda.kept row key step gives) gives }
