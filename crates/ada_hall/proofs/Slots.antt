-- An entry of which a task may ask for COUNT has a slot.
use Rattle.std.proofs.Common.{◌≡◌, ℕ, Bool, true, false, not, ◌||◌, Option, Some, None, Ok, Err, List, refl, sym, ap, ◌∙◌}
use Rattle.std.specs.Result.{IsOk}
use Rattle.std.specs.Prelude.{[], ◌∷◌, is_none}
use Rattle.std.proofs.lemmas.Bool.{false≢true}
use Rattle.std.proofs.lemmas.Option.{none-some}
use Rattle.ada_events.specs.declared.event.Event.{Event}
use Rattle.ada_events.specs.declared.names.Entry.{Entry}
use Rattle.ada_events.specs.declared.refusal.Refusal.{Refusal}
use Rattle.ada_events.specs.declared.refusal.Refusal.TheVariants.{UnknownTask, NotRunning, NoSuchFamily, ConstraintError}
use Rattle.ada_events.specs.Tasks.{has_task}
use Rattle.ada_events.specs.Phases.{is_running}
use Rattle.ada_events.specs.Calls.{count_of}
use Rattle.ada_events.specs.Refusals.{cause, first_cause, lacks_family, is_outside}
use Rattle.ada_events.specs.Attributes.{count_refusal, own_count}
use Rattle.ada_events.specs.Slots.{slot_of}
use Rattle.ada_laws.proofs.entries.SlotPlaces.{declared_entries_have_slots}

none_applies : (a b c d : Bool)
    → first_cause (cause a UnknownTask ∷ cause b NotRunning ∷ cause c NoSuchFamily ∷ cause d ConstraintError ∷ []) ≡ None → (c || d) ≡ false
unfolding first_cause
none_applies true b c d none = absurd (none-some UnknownTask (sym none))
none_applies false true c d none = absurd (none-some NotRunning (sym none))
none_applies false false true d none = absurd (none-some NoSuchFamily (sym none))
none_applies false false false true none = absurd (none-some ConstraintError (sym none))
none_applies false false false false none = refl

may_count : (journal : List Event) (by : ℕ) (entry : Entry) → count_refusal journal by entry ≡ None
    → (lacks_family journal by entry || is_outside journal by entry) ≡ false
unfolding count_refusal
may_count journal by entry none =
    none_applies (not (has_task journal by)) (not (is_running journal by)) (lacks_family journal by entry) (is_outside journal by entry) none

unrefused : (journal : List Event) (by : ℕ) (entry : Entry) (refused : Option Refusal) → count_refusal journal by entry ≡ refused
    → IsOk (elim refused [ None ↦ Ok (count_of journal by entry) | Some named ↦ Err named ]) → refused ≡ None
unrefused journal by entry None is ok = refl
unrefused journal by entry (Some named) is ok = absurd (false≢true ok)

pub counted_entries_have_slots : (journal : List Event) (by : ℕ) (entry : Entry) → IsOk (own_count journal by entry) → slot_of journal by entry ≡ None → ⊥
unfolding own_count
counted_entries_have_slots journal by entry ok none =
    let allowed : count_refusal journal by entry ≡ None = unrefused journal by entry (count_refusal journal by entry) refl ok in
    false≢true (sym (declared_entries_have_slots journal by entry ∙ may_count journal by entry allowed) ∙ ap is_none none)
