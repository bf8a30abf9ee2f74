-- COUNT of an entry, by what tables hold of its task.
use Rattle.std.proofs.Common.{◌≡◌, ℕ, ◌<◌, Bool, true, false, not, Option, Some, None, is_none, List, [], ◌∷◌, length, refl, sym, ap, ◌∙◌, subst}
use Rattle.std.specs.Prelude.{slice_get, Result, Ok, Err}
use Rattle.std.proofs.lemmas.Bool.{lt-ltb}
use Rattle.std.proofs.lemmas.List.{length-map}
use Rattle.ada_events.specs.declared.event.Event.{Event}
use Rattle.ada_events.specs.declared.names.Entry.{Entry}
use Rattle.ada_events.specs.declared.names.Family.{Family}
use Rattle.ada_events.specs.declared.refusal.Refusal.{Refusal}
use Rattle.ada_events.specs.declared.refusal.Refusal.TheVariants.{UnknownTask, NotRunning, NoSuchFamily, ConstraintError}
use Rattle.ada_events.specs.Attributes.{count_refusal, own_count}
use Rattle.ada_events.specs.Calls.{count_of}
use Rattle.ada_events.specs.Entries.{is_in_range}
use Rattle.ada_events.specs.Phases.{is_running}
use Rattle.ada_events.specs.Refusals.{cause, first_cause, lacks_family, is_outside}
use Rattle.ada_events.specs.Search.{is_some_and}
use Rattle.ada_events.specs.Slots.{number_within}
use Rattle.ada_events.specs.Tasks.{has_task, task_count, families_of}
use Rattle.ada_tables.specs.Dependents.{Facts}
use Rattle.ada_tables.specs.Queues.{QueuedCall, queue_at}
use Rattle.ada_tables.specs.Tables.{TableState, slot_at, HasEntry}
use Rattle.ada_tables.specs.Standing.{StandFor}

-- the first cause for which a task may not ask, by what is so of it and of the entry
abbrev causes : Bool → Bool → Bool → Bool → Option Refusal
causes known runs lacks outside =
    first_cause (cause (not known) UnknownTask ∷ cause (not runs) NotRunning ∷ cause lacks NoSuchFamily ∷ cause outside ConstraintError ∷ [])

abbrev answers : Option Refusal → ℕ → Result ℕ Refusal
answers None count = Ok count
answers (Some refused) count = Err refused

refusal_is : (journal : List Event) (by : ℕ) (entry : Entry)
    → count_refusal journal by entry ≡ causes (has_task journal by) (is_running journal by) (lacks_family journal by entry) (is_outside journal by entry)
unfolding count_refusal
refusal_is journal by entry = refl

own_is : (journal : List Event) (by : ℕ) (entry : Entry) (known runs lacks outside : Bool) → has_task journal by ≡ known → is_running journal by ≡ runs
    → lacks_family journal by entry ≡ lacks → is_outside journal by entry ≡ outside
    → answers (causes known runs lacks outside) (count_of journal by entry) ≡ own_count journal by entry
unfolding own_count
own_is journal by entry known runs lacks outside k r l o = answered (count_refusal journal by entry) refused
  where
    refused : count_refusal journal by entry ≡ causes known runs lacks outside
    refused =
        refusal_is journal by entry ∙ ap (λ b. causes b (is_running journal by) (lacks_family journal by entry) (is_outside journal by entry)) k
        ∙ ap (λ b. causes known b (lacks_family journal by entry) (is_outside journal by entry)) r
        ∙ ap (λ b. causes known runs b (is_outside journal by entry)) l
        ∙ ap (λ b. causes known runs lacks b) o

    answered : (c : Option Refusal) → c ≡ causes known runs lacks outside
        → answers (causes known runs lacks outside) (count_of journal by entry) ≡ elim c [ None ↦ Ok (count_of journal by entry) | Some cause ↦ Err cause ]
    answered None is = ap (λ (x : Option Refusal). answers x (count_of journal by entry)) (sym is)
    answered (Some cause) is = ap (λ (x : Option Refusal). answers x (count_of journal by entry)) (sym is)

pub unknown_asks : (journal : List Event) (by : ℕ) (entry : Entry) → has_task journal by ≡ false → Err UnknownTask ≡ own_count journal by entry
unfolding first_cause
unknown_asks journal by entry unknown = own_is journal by entry false _ _ _ unknown refl refl refl

pub suspended_asks : (journal : List Event) (by : ℕ) (entry : Entry) → has_task journal by ≡ true → is_running journal by ≡ false
    → Err NotRunning ≡ own_count journal by entry
unfolding first_cause
suspended_asks journal by entry known suspended = own_is journal by entry true false _ _ known suspended refl refl

pub asks_no_family : (journal : List Event) (by : ℕ) (entry : Entry) → by < task_count journal → is_running journal by ≡ true
    → slice_get (families_of journal by) entry.family ≡ None → Err NoSuchFamily ≡ own_count journal by entry
unfolding first_cause lacks_family
asks_no_family journal by entry known runs none =
    own_is journal by entry true true true _ (lt-ltb by (task_count journal) known) runs (ap is_none none) refl

pub asks_outside : (journal : List Event) (by : ℕ) (entry : Entry) (family : Family) → by < task_count journal → is_running journal by ≡ true
    → slice_get (families_of journal by) entry.family ≡ Some family → is_in_range family entry.index ≡ false → Err ConstraintError ≡ own_count journal by entry
unfolding first_cause lacks_family is_outside
asks_outside journal by entry family known runs has outside =
    own_is journal by entry true true false true (lt-ltb by (task_count journal) known) runs (ap is_none has)
    (ap (λ (o : Option Family). is_some_and o (λ (f : Family). not (is_in_range f entry.index))) has ∙ ap not outside)

pub asks_count : (journal : List Event) (by : ℕ) (entry : Entry) (family : Family) (count : ℕ) → by < task_count journal → is_running journal by ≡ true
    → slice_get (families_of journal by) entry.family ≡ Some family → is_in_range family entry.index ≡ true → count ≡ count_of journal by entry
    → Ok count ≡ own_count journal by entry
unfolding first_cause lacks_family is_outside
asks_count journal by entry family count known runs has within is =
    ap Ok is
    ∙ own_is journal by entry true true false false (lt-ltb by (task_count journal) known) runs (ap is_none has)
    (ap (λ (o : Option Family). is_some_and o (λ (f : Family). not (is_in_range f entry.index))) has ∙ ap not within)

-- an entry within the range of its family stands in the tables
pub entry_stands : (tables : TableState) (journal : List Event) (task : ℕ) (entry : Entry) (family : Family) → StandFor tables journal
    → task < task_count journal
    → slice_get (families_of journal task) entry.family ≡ Some family → is_in_range family entry.index ≡ true → HasEntry tables.tasks task entry
unfolding number_within
entry_stands tables journal task entry family stand known has within = record {
  known = subst (λ many. task < many) (sym stand.many) known;
  declares = rw (ap (λ (f : Facts). f.families) (stand.tasks task known), has, within) refl;
}

-- the length of what tables hold is the count
pub length_told : (tables : TableState) (journal : List Event) (task : ℕ) (entry : Entry) → StandFor tables journal → HasEntry tables.tasks task entry
    → length (queue_at tables.queues (slot_at tables.tasks task entry)) ≡ count_of journal task entry
unfolding count_of
length_told tables journal task entry stand has =
    let calls = queue_at tables.queues (slot_at tables.tasks task entry) in
    sym (length-map calls (λ (c : QueuedCall). c.call)) ∙ ap length (stand.queues task entry has).positions
