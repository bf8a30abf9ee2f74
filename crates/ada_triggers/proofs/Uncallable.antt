-- The open calls to a task to which no call can be served any more (9.5, 9.10).
use Rattle.std.proofs.Common.{◌≡◌, ℕ, ◌<◌, Bool, true, false, List, length, sym, ◌∙◌, arith, inl, inr, ap}
use Rattle.std.proofs.lemmas.Bool.{eq-eqb, false_from_ne_true}
use Rattle.std.proofs.lemmas.List.{length-map}
use Rattle.ada_events.specs.declared.event.Event.{Event}
use Rattle.ada_events.specs.Lawful.{IsLawful}
use Rattle.ada_events.specs.Nests.{nest}
use Rattle.ada_events.specs.Tasks.{task_count}
use Rattle.ada_laws.proofs.queues.CallLaws.{open_calls_suspend}
use Rattle.ada_laws.proofs.held.Suspending.{suspended_exists}
use Rattle.ada_step_laws.specs.TouchedKeys.{is_uncallable}
use Rattle.ada_step_laws.specs.declared.row.Row.{Row}
use Rattle.ada_tables.specs.declared.layers.Layer.{Layer}
use Rattle.ada_tables.specs.Dependents.{Facts, task_at}
use Rattle.ada_tables.specs.Layers.{member_of, members}
use Rattle.ada_tables.specs.Standing.{StandFor}
use Rattle.ada_tables.specs.Tables.{TableState, has_no_calls}
use Rattle.ada_records.proofs.following.Empty.{empty_alike}
use Rattle.ada_records.proofs.following.Made.{callee_exists}
use Rattle.ada_agenda.specs.Keeping.{has_key, Puts}
use Rattle.ada_step_laws.specs.Kinds.{IsOpenCallTo}
use Rattle.ada_agenda.proofs.Noting.{grows_same}
use Rattle.ada_triggers.specs.internal.Keys.{OfFirst, AsCaller, AsUncallable, is_that}
use Rattle.ada_triggers.specs.internal.Keys.AsCaller.{fails}
use Rattle.ada_triggers.specs.internal.Keys.AsUncallable.{loses}
use Rattle.ada_triggers.proofs.Putting.{covered_put}
use Rattle.ada_triggers.proofs.Quitters.{not_queued}

-- an open call to a task, at its caller
at_caller : (before : List Event) (task : ℕ) (row : Row) (key : ℕ) → IsLawful before → AsUncallable before task row key
    → OfFirst (AsCaller before (is_that task)) (task_count before) row key
at_caller before task row key lawful (loses p was of) =
    let suspended = open_calls_suspend before of.call p of.opened in
    record {
      task = of.call.by;
      among = suspended_exists before of.call.by p lawful suspended;
      of = fails of.call p of.opened.stands suspended (eq-eqb of.call.callee task of.to);
    }

pub callers_put : (before : List Event) (old new : List (List ℕ)) (task : ℕ) → IsLawful before
    → Puts old new (OfFirst (AsCaller before (is_that task)) (task_count before)) → Puts old new (AsUncallable before task)
callers_put before old new task lawful puts =
    covered_put old new (AsUncallable before task) (OfFirst (AsCaller before (is_that task)) (task_count before)) puts
    (λ row key of. at_caller before task row key lawful of)

lost_key : (before : List Event) (old : List (List ℕ)) (task : ℕ) (row : Row) (key : ℕ)
    → (is_uncallable before task ≡ false → (p : ℕ) → IsOpenCallTo before task p → ⊥) → AsUncallable before task row key → has_key old row key ≡ true
lost_key before old task row key none (loses p was of) = absurd (none was p of)

pub no_callers_put : (before : List Event) (old : List (List ℕ)) (task : ℕ)
    → (is_uncallable before task ≡ false → (p : ℕ) → IsOpenCallTo before task p → ⊥) → Puts old old (AsUncallable before task)
no_callers_put before old task none = record { grows = grows_same old; here = λ row key of. lost_key before old task row key none of }

-- who has an open call was made
pub open_callee : (journal : List Event) (task p : ℕ) → IsLawful journal → IsOpenCallTo journal task p → task < task_count journal
open_callee journal task p lawful of = omega (arith, of.to, callee_exists journal p of.call lawful of.opened)

-- an open call waits in a queue of the task, or its rendezvous stands in the nest
pub open_somewhere : (tables : TableState) (journal : List Event) (task p : ℕ) → IsLawful journal → StandFor tables journal
    → IsOpenCallTo journal task p → has_no_calls tables.tasks tables.queues task ≡ true → length (nest journal task) ≡ 0 → ⊥
open_somewhere tables journal task p lawful stand of none empty =
    elim of.place [
      | inl queued ↦
          not_queued journal task p of.call.entry
          (sym (empty_alike tables journal lawful (record { many = stand.many; facts = stand.tasks }) stand.queues task (open_callee journal task p lawful of))
          ∙ none)
          queued
      | inr within ↦ let (k, below, is) = within in omega (arith, below, empty)
    ]

-- so where no call waits while the nest is empty, none is open
pub waits_somewhere : (tables : TableState) (journal : List Event) (task p : ℕ) (layers : List Layer) (none : Bool) → IsLawful journal
    → StandFor tables journal → IsOpenCallTo journal task p → members layers ≡ (task_at tables.tasks task).nest → length layers ≡ 0
    → none ≡ has_no_calls tables.tasks tables.queues task → none ≡ false
waits_somewhere tables journal task p layers none lawful stand of are empty is =
    let nothing : length (nest journal task) ≡ 0 =
    ap (λ (f : Facts). length f.nest) (sym (stand.tasks task (open_callee journal task p lawful of)))
    ∙ ap length (sym are)
    ∙ length-map layers member_of
    ∙ empty in
    false_from_ne_true none (λ yes. open_somewhere tables journal task p lawful stand of (sym is ∙ yes) nothing)
