-- Tables in which tasks got the phases that they have after one more event.
use Rattle.std.proofs.Common.{◌≡◌, ◌≢◌, ℕ, ◌+◌, ◌<◌, ◌≤◌, Bool, true, false, cond, ◌||◌, eqb, Some, None, List, ◌∷◌, length, take, get_or, refl, sym}
use Rattle.std.proofs.Common.{ap, ◌∙◌, subst, arith, inl, inr}
use Rattle.std.proofs.lemmas.Bool.{cases_eq, eq-eqb, ne_eqb, or_parts, true≢false}
use Rattle.std.proofs.lemmas.List.{length-set, get_or-set_same, get_or-set_other, take_all}
use Rattle.std.proofs.lemmas.List.Folds.{list_any_more}
use Rattle.ada_events.specs.declared.event.Event.{Event}
use Rattle.ada_events.specs.declared.names.TaskNo.{TaskNo}
use Rattle.ada_events.specs.Says.{creation_in}
use Rattle.ada_events.specs.Tasks.{task_count}
use Rattle.ada_events.specs.Phases.{lists_task, is_terminated}
use Rattle.ada_events.specs.Lawful.{IsLawful}
use Rattle.ada_events.specs.declared.event.Event.TheVariants.{Started}
use Rattle.ada_events.specs.Nests.{nest}
use Rattle.ada_laws.proofs.searching.Growing.{task_count-same, is_terminated-more}
use Rattle.ada_laws.proofs.searching.Searching.{eqb_swap}
use Rattle.ada_records.specs.declared.record.Record.{Record}
use Rattle.ada_records.specs.Records.{IsRecordOf, AreRecords, record_at}
use Rattle.ada_tables.specs.declared.phase.Phase.{Phase}
use Rattle.ada_tables.specs.Dependents.{Facts, nobody, task_at, is_terminated as ends, with_phase}
use Rattle.ada_tables.specs.Tables.{TableState}
use Rattle.ada_tables.specs.Standing.{phase_of, facts_in}
use Rattle.ada_records.specs.Facing.{HoldFacts}
use Rattle.ada_records.specs.internal.Phasing.{TouchesOnly, facts_between, AreBetween, AreNamed, AreRenested, refreshed}
use Rattle.ada_records.specs.RecordedPhases.{phase_by}
use Rattle.ada_records.proofs.following.Agreeing.{ends_phase}
use Rattle.ada_records.proofs.following.TableChanges.{same_facts}
use Rattle.ada_records.proofs.phase_changes.RecordedPhases.{records_tell_phases}
use Rattle.ada_records.proofs.phase_changes.TouchedTasks.{start_touches}

-- who is terminated stays in that phase
pub ended_phase : (event : Event) (before : List Event) (task : ℕ) → is_terminated before task ≡ true → phase_of (event ∷ before) task ≡ phase_of before task
ended_phase event before task ended = rw (is_terminated-more event before task ended, ended) refl

-- whose phase is as it was after the event needn't be done
done_anyway : (event : Event) (before : List Event) (task : ℕ) (d : Bool) → (d ≡ false → phase_of (event ∷ before) task ≡ phase_of before task)
    → facts_between event before d task ≡ facts_between event before true task
done_anyway event before task true same = refl
done_anyway event before task false same =
    ap (λ (p : Phase). record (facts_in before task) { nest = nest (event ∷ before) task; phase = p }) (sym (same refl))

module _ (event : Event) (before : List Event) (done : ℕ → Bool) (old : TableState) (task : ℕ) (kept : Record)
    (between : AreBetween event before done old.tasks)
    (known : task < task_count before) (right : IsRecordOf (event ∷ before) task kept) where
  within : task < length old.tasks
  within = omega (arith, known, between.many)

  at_other : (other : ℕ) (new : Facts) → other ≢ task → other < task_count before → new ≡ task_at old.tasks other
      → new ≡ facts_between event before (eqb other task || done other) other
  at_other other new differs below is =
      is ∙ between.facts other below ∙ ap (λ (b : Bool). facts_between event before (b || done other) other) (sym (ne_eqb other task differs))

  at_task : (new : Facts) → new ≡ facts_between event before true task → new ≡ facts_between event before (eqb task task || done task) task
  at_task new is = is ∙ ap (λ (b : Bool). facts_between event before (b || done task) task) (sym (eq-eqb task task refl))

  given : record (task_at old.tasks task) { phase = phase_by kept } ≡ facts_between event before true task
  given =
      ap (λ (f : Facts). record f { phase = phase_by kept }) (between.facts task known)
      ∙ ap (λ (p : Phase). record (facts_in before task) { nest = nest (event ∷ before) task; phase = p })
      (records_tell_phases (event ∷ before) task kept right)

  -- the phase that the tables hold of a task is one that it had
  ended_before : ends (task_at old.tasks task).phase ≡ true → done task ≡ false → is_terminated before task ≡ true
  ended_before ended undone =
      sym (ends_phase before task)
      ∙ ap (λ (b : Bool). ends (facts_between event before b task).phase) (sym undone)
      ∙ ap (λ (f : Facts). ends f.phase) (sym (between.facts task known))
      ∙ ended

  by_end : (b : Bool) → ends (task_at old.tasks task).phase ≡ b
      → AreBetween event before (λ t. eqb t task || done t) (cond b old (record old { tasks = with_phase task (phase_by kept) old.tasks })).tasks
  by_end true ended = record {
    many = between.many;
    facts = λ other below.
        elim (cases_eq other task) [
          | inl same ↦
              subst (λ (n : ℕ). task_at old.tasks n ≡ facts_between event before (eqb n task || done n) n) (sym same)
              (at_task (task_at old.tasks task)
              (between.facts task known ∙ done_anyway event before task (done task) (λ undone. ended_phase event before task (ended_before ended undone))))
          | inr differs ↦ at_other other (task_at old.tasks other) differs below refl
        ];
  }
  by_end false live = record {
    many = length-set old.tasks task (record (task_at old.tasks task) { phase = phase_by kept }) ∙ between.many;
    facts = λ other below.
        elim (cases_eq other task) [
          | inl same ↦
              subst (λ (n : ℕ). task_at (with_phase task (phase_by kept) old.tasks) n ≡ facts_between event before (eqb n task || done n) n) (sym same)
              (at_task (task_at (with_phase task (phase_by kept) old.tasks) task)
              (get_or-set_same old.tasks task (record (task_at old.tasks task) { phase = phase_by kept }) nobody within ∙ given))
          | inr differs ↦
              at_other other (task_at (with_phase task (phase_by kept) old.tasks) other) differs below
              (get_or-set_other old.tasks task other (record (task_at old.tasks task) { phase = phase_by kept }) nobody differs)
        ];
  }

  pub refreshed_more : AreBetween event before (λ t. eqb t task || done t) (refreshed task kept old).tasks
  refreshed_more = by_end (ends (task_at old.tasks task).phase) refl

-- nothing but the tasks is changed
pub refreshed_kept : (task : ℕ) (kept : Record) (old : TableState) → refreshed task kept old ≡ record old { tasks = (refreshed task kept old).tasks }
refreshed_kept task kept old = by_end (ends (task_at old.tasks task).phase)
  where
    by_end : (b : Bool) → cond b old (record old { tasks = with_phase task (phase_by kept) old.tasks })
        ≡ record old { tasks = (cond b old (record old { tasks = with_phase task (phase_by kept) old.tasks })).tasks }
    by_end true = refl
    by_end false = refl

pub refreshed_many : (task : ℕ) (kept : Record) (old : TableState) → length (refreshed task kept old).tasks ≡ length old.tasks
refreshed_many task kept old = by_end (ends (task_at old.tasks task).phase)
  where
    by_end : (b : Bool) → length (cond b old (record old { tasks = with_phase task (phase_by kept) old.tasks })).tasks ≡ length old.tasks
    by_end true = refl
    by_end false = length-set old.tasks task (record (task_at old.tasks task) { phase = phase_by kept })

-- who counts as done is a matter of the tasks that exist
pub between_same : (event : Event) (before : List Event) (done other : ℕ → Bool) (tasks : List Facts)
    → ((task : ℕ) → task < task_count before → done task ≡ other task) → AreBetween event before done tasks → AreBetween event before other tasks
between_same event before done other tasks same between = record {
  many = between.many;
  facts = λ task below. between.facts task below ∙ ap (λ (b : Bool). facts_between event before b task) (same task below);
}

-- once all phases that the event changes are done
pub all_done : (event : Event) (before : List Event) (done : ℕ → Bool) (tasks : List Facts) → creation_in event ≡ None
    → ((task : ℕ) → task < task_count before → done task ≡ false → phase_of (event ∷ before) task ≡ phase_of before task) → AreBetween event before done tasks
    → HoldFacts tasks (event ∷ before)
all_done event before done tasks makes same between = record {
  many = between.many ∙ sym (task_count-same event before makes);
  facts = λ task below.
      let known : task < task_count before = omega (arith, below, task_count-same event before makes) in
      between.facts task known ∙ done_anyway event before task (done task) (same task known) ∙ same_facts event before task makes;
}

pub kept_more : (task : ℕ) (kept : Record) (first old new : TableState) → old ≡ record first {
  tasks =
      old.tasks;
} → new ≡ refreshed task kept old → new ≡ record first { tasks = new.tasks }
kept_more task kept first old new was is =
    is ∙ refreshed_kept task kept old
    ∙ ap (λ (s : TableState). record s { tasks = (refreshed task kept old).tasks }) was
    ∙ ap (λ (s : TableState). record first { tasks = s.tasks }) (sym is)

-- where one phase changes at most
pub one_refreshed : (event : Event) (before : List Event) (old new : TableState) (task : TaskNo) (kept : Record) → creation_in event ≡ None
    → TouchesOnly event before (Some task) → AreRenested event before old.tasks → IsRecordOf (event ∷ before) task.0 kept → new ≡ refreshed task.0 kept old
    → HoldFacts new.tasks (event ∷ before)
one_refreshed event before old new task kept makes touches nests right is =
    subst (λ (s : TableState). HoldFacts s.tasks (event ∷ before)) (sym is)
    (all_done event before (λ t. eqb t task.0 || false) (refreshed task.0 kept old).tasks makes
    (λ t below undone. touches.1 t (λ same. true≢false (sym (ap (λ (b : Bool). b || false) (eq-eqb t task.0 same)) ∙ undone)))
    (refreshed_more event before (λ _. false) old task.0 kept nests touches.0 right))

-- a task that there was before an event that makes none has a right record behind it
pub right_behind : (event : Event) (before : List Event) (records : List Record) (task : ℕ) → creation_in event ≡ None → AreRecords records (event ∷ before)
    → task < task_count before → (task < length records) × IsRecordOf (event ∷ before) task (record_at records task)
right_behind event before records task makes stand known =
    let within : task < length records = omega (arith, known, stand.many, task_count-same event before makes) in
    (within, stand.each task within)

or_swap : (a b : Bool) → (a || b) ≡ (b || a)
or_swap true true = refl
or_swap true false = refl
or_swap false true = refl
or_swap false false = refl

pub one_named : (event : Event) (before : List Event) (tasks : List TaskNo) (first old new : TableState) (many : ℕ) (d : TaskNo) (kept : Record)
    → AreNamed event before tasks first old many → many < length tasks → (get_or tasks many d).0 < task_count before
    → IsRecordOf (event ∷ before) (get_or tasks many d).0 kept → new ≡ refreshed (get_or tasks many d).0 kept old
    → AreNamed event before tasks first new (many + 1)
one_named event before tasks first old new many d kept named below known right is = (
  subst (λ (s : TableState). AreBetween event before (λ t. lists_task t (take (many + 1) tasks)) s.tasks) (sym is)
      (between_same event before (λ t. eqb t (get_or tasks many d).0 || lists_task t (take many tasks)) (λ t. lists_task t (take (many + 1) tasks))
      (refreshed (get_or tasks many d).0 kept old).tasks
      (λ t exists.
      or_swap (eqb t (get_or tasks many d).0) (lists_task t (take many tasks))
      ∙ ap (λ (b : Bool). lists_task t (take many tasks) || b) (eqb_swap t (get_or tasks many d).0)
      ∙ sym (list_any_more (λ (x : TaskNo). eqb x.0 t) tasks many d below))
      (refreshed_more event before (λ t. lists_task t (take many tasks)) old (get_or tasks many d).0 kept named.0 known right)),
  kept_more (get_or tasks many d).0 kept first old new named.1 is,
)

-- once all that a start names are done, and then who starts them
pub all_named : (event : Event) (before : List Event) (by : TaskNo) (tasks : List TaskNo) (first old new : TableState) (many : ℕ) (kept : Record)
    → IsLawful (event ∷ before) → event ≡ Started by tasks → creation_in event ≡ None → length tasks ≤ many → AreNamed event before tasks first old many
    → by.0 < task_count before → IsRecordOf (event ∷ before) by.0 kept → new ≡ refreshed by.0 kept old → HoldFacts new.tasks (event ∷ before)
all_named event before by tasks first old new many kept lawful starts makes whole named known right is =
    subst (λ (s : TableState). HoldFacts s.tasks (event ∷ before)) (sym is)
    (all_done event before (λ t. eqb t by.0 || lists_task t (take many tasks)) (refreshed by.0 kept old).tasks makes
    (λ t below undone.
    let both = or_parts (eqb t by.0) (lists_task t (take many tasks)) undone in
    start_touches event before by tasks t starts lawful (λ same. true≢false (sym (eq-eqb t by.0 same) ∙ both.0))
    (ap (lists_task t) (sym (take_all many tasks whole)) ∙ both.1))
    (refreshed_more event before (λ t. lists_task t (take many tasks)) old by.0 kept named.0 known right))
