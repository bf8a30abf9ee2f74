-- What lasts.
use Rattle.std.proofs.Common.{◌≡◌, ℕ, ℤ, Bool, true, false, not, ◌&&◌, ◌||◌, ◌≤ℤ◌, None, List, ◌∷◌, arith, refl, ap, inl, inr}
use Rattle.std.specs.Prelude.{nat_lt, int_lt, ◌==◌}
use Rattle.std.specs.Option.{unwrap_or}
use Rattle.std.specs.List.{list_any}
use Rattle.std.specs.Int.Signed.{≤ℤ_refl}
use Rattle.std.proofs.lemmas.Bool.{or_cases, or_left, or_right, not-false}
use Rattle.std.proofs.lemmas.Int.{ints}
use Rattle.ada_events.specs.declared.event.Event.{Event}
use Rattle.ada_events.specs.declared.request.Request.{Request}
use Rattle.ada_events.specs.declared.request.Request.TheVariants as request
use Rattle.ada_events.specs.declared.names.TaskNo.{TaskNo}
use Rattle.ada_events.specs.declared.names.Master.TheVariants.{Body}
use Rattle.ada_events.specs.Says.{moment_in, aborted_in}
use Rattle.ada_events.specs.Tasks.{task_count, moment}
use Rattle.ada_events.specs.Masters.{depends_on}
use Rattle.ada_events.specs.Phases.{has_ended, is_terminated, is_abnormal}
use Rattle.ada_events.specs.Attributes.{is_callable}
use Rattle.ada_events.specs.Asks.{asked_event}
use Rattle.ada_events.specs.Refusals.{refusal}
use Rattle.ada_events.specs.Limits.{moves_back}
use Rattle.ada_laws.specs.Lasting.{TerminatedTasksStaySo, CompletedTasksStaySo, UncallableTasksStaySo, MomentsNeverGoBack}
use Rattle.ada_laws.proofs.searching.Growing.{is_completed-more, is_terminated-more, has_ended-more}
use Rattle.ada_laws.proofs.asking.Accepting.{is_accepted}
use Rattle.ada_laws.proofs.forced.Rows.{IsRow, forced-row}
use Rattle.ada_laws.proofs.forced.Rows.IsRow.{halts}

pub terminated_tasks_stay_so : TerminatedTasksStaySo
terminated_tasks_stay_so = is_terminated-more

pub completed_tasks_stay_so : CompletedTasksStaySo
completed_tasks_stay_so = is_completed-more

is_abnormal-more : (event : Event) (before : List Event) (task : ℕ) → is_abnormal before task ≡ true → is_abnormal (event ∷ before) task ≡ true
unfolding is_abnormal
is_abnormal-more event before task was =
    or_right
    (list_any (λ (t : TaskNo). t.0 == task || depends_on before task (Body t)) (aborted_in event) && nat_lt task (task_count before)
    && not (is_terminated before task))
    (is_abnormal before task) was

uncallable : (a b : Bool) → (a || b) ≡ true → not (a || b) ≡ false
uncallable a b either = ap not either

pub uncallable_tasks_stay_so : UncallableTasksStaySo
unfolding is_callable
uncallable_tasks_stay_so event before task was =
    let either : (has_ended before task || is_abnormal before task) ≡ true = not-false (has_ended before task || is_abnormal before task) was in
    uncallable (has_ended (event ∷ before) task) (is_abnormal (event ∷ before) task)
    (elim (or_cases (has_ended before task) (is_abnormal before task) either) [
      | inl ended ↦ or_left (has_ended (event ∷ before) task) (is_abnormal (event ∷ before) task) (has_ended-more event before task ended)
      | inr abnormal ↦ or_right (has_ended (event ∷ before) task) (is_abnormal (event ∷ before) task) (is_abnormal-more event before task abnormal)
    ])

-- a forced step moves no moment
row-moves_none : (journal : List Event) (event : Event) → IsRow journal event → moment_in event ≡ None
unfolding moment_in
row-moves_none journal event (halts u below halt) = refl
row-moves_none journal event _ = refl

not_before : (now last : ℤ) → int_lt now last ≡ false → last ≤ℤ now
not_before now last test = grind (arith, ints)

-- a request moves it on
asked_moment : (journal : List Event) (r : Request) → refusal journal r ≡ None
    → moment journal ≤ℤ unwrap_or (moment_in (asked_event journal r)) (moment journal)
unfolding moment_in asked_event moves_back
asked_moment journal (request.Tick now) accepted =
    not_before now (moment journal) (is_accepted journal (request.Tick now) accepted).moves_on
asked_moment journal _ accepted = ≤ℤ_refl (moment journal)

pub moments_never_go_back : MomentsNeverGoBack
unfolding moment
moments_never_go_back event before lawful =
    elim lawful.1 [
      | inl forces ↦ rw (row-moves_none before event (forced-row before event forces)) (≤ℤ_refl (moment before))
      | inr asked ↦ rw asked.becomes (asked_moment before asked.request asked.accepted)
    ]
