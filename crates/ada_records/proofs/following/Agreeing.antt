-- Counts of dependents agree where the tests agree task by task; and what a task's phase says.
use Rattle.std.proofs.Common.{◌≡◌, ℕ, ◌<◌, Bool, true, false, not, ◌&&◌, ◌||◌, Some, List, refl, ap, ◌∙◌, eqb}
use Rattle.std.specs.Prelude.{if◌then◌else◌}
use Rattle.std.specs.Option.{option_map_or}
use Rattle.std.proofs.lemmas.Bool.{and_parts, eqb-true, not-true}
use Rattle.ada_events.specs.declared.event.Event.{Event}
use Rattle.ada_events.specs.declared.names.Master.{Master}
use Rattle.ada_events.specs.Says.{Wait, wait_in}
use Rattle.ada_events.specs.Tasks.{task_count}
use Rattle.ada_events.specs.Masters.{depends_on}
use Rattle.ada_events.specs.Phases.{is_completed, is_terminated, has_ended, is_suspended, is_running, is_released}
use Rattle.ada_events.specs.Termination.{is_open_terminate, is_at_open_terminate, has_empty_queues, is_ready_to_quit}
use Rattle.ada_tables.specs.declared.phase.Phase.{Phase}
use Rattle.ada_tables.specs.declared.phase.Phase.TheVariants.{Unstarted, Active, Held, Quittable, Completed, Terminated}
use Rattle.ada_tables.specs.Dependents.{Facts, task_at, live_dependents, depends_on as depends_in, is_terminated as ends}
use Rattle.ada_tables.specs.Tables.{TableState, is_quittable, has_no_calls, unready_dependents}
use Rattle.ada_tables.specs.Standing.{phase_of_live, phase_of, live_count, unready_count}
use Rattle.ada_tables.proofs.Keeping.{count_same}
use Rattle.ada_laws.proofs.held.Suspending.{is_suspended-from}
use Rattle.ada_laws.proofs.searching.Saying.{held_in-wait}
use Rattle.ada_laws.proofs.searching.Searching.{any_event-found, option_map_or-true}
use Rattle.ada_records.specs.Facing.{HoldFacts}
use Rattle.ada_records.specs.internal.Facing.{SameDependents}

ends_live : (c s q r : Bool) → ends (if c then Completed else (if s then (if q then Quittable else Held) else (if r then Active else Unstarted))) ≡ false
ends_live true s q r = refl
ends_live false true true r = refl
ends_live false true false r = refl
ends_live false false q true = refl
ends_live false false q false = refl

quits_live : (c s q r : Bool) → is_quittable (if c then Completed else (if s then (if q then Quittable else Held) else (if r then Active else Unstarted)))
    ≡ (not c && s && q)
quits_live true s q r = refl
quits_live false true true r = refl
quits_live false true false r = refl
quits_live false false q true = refl
quits_live false false q false = refl

ends_as : (t : Bool) (p : Phase) → ends p ≡ false → ends (if t then Terminated else p) ≡ t
ends_as true p live = refl
ends_as false p live = live

-- a task's phase says whether it is terminated
pub ends_phase : (journal : List Event) (task : ℕ) → ends (phase_of journal task) ≡ is_terminated journal task
ends_phase journal task =
    ends_as (is_terminated journal task) (phase_of_live journal task)
    (ends_live (is_completed journal task) (is_suspended journal task) (is_at_open_terminate journal task) (is_running journal task))

-- who is at an open terminate alternative and hasn't ended is suspended
pub terminate_suspends : (journal : List Event) (task : ℕ) → is_at_open_terminate journal task ≡ true → has_ended journal task ≡ false
    → is_suspended journal task ≡ true
terminate_suspends journal task at live =
    let (p, e, stands, passes) = any_event-found (λ p e. option_map_or (λ (w : Wait). eqb w.by task && is_open_terminate w.tail) (wait_in e) false
    && not (is_released journal p)) journal at in
    let both = and_parts (option_map_or (λ (w : Wait). eqb w.by task && is_open_terminate w.tail) (wait_in e) false) (not (is_released journal p)) passes in
    let (w, says, mine) = option_map_or-true (λ (w : Wait). eqb w.by task && is_open_terminate w.tail) (wait_in e) both.0 in
    let by : w.by ≡ task = eqb-true w.by task (and_parts (eqb w.by task) (is_open_terminate w.tail) mine).0 in
    is_suspended-from journal task p (record {
      event = e;
      stands = stands;
      holds = held_in-wait e w says ∙ ap Some by;
      unreleased = not-true (is_released journal p) both.1;
      live = live;
    })

quits_bits : (c t s q : Bool) → t ≡ false → (q ≡ true → (c || t) ≡ false → s ≡ true) → (not c && s && q) ≡ (q && not (c || t))
quits_bits true true s q live held = absurd (cc)
quits_bits true false s true live held = refl
quits_bits true false true false live held = refl
quits_bits true false false false live held = refl
quits_bits false true s q live held = absurd (cc)
quits_bits false false s true live held = rw (held refl refl) refl
quits_bits false false true false live held = refl
quits_bits false false false false live held = refl

quits_as : (t : Bool) (p : Phase) → t ≡ false → is_quittable (if t then Terminated else p) ≡ is_quittable p
quits_as true p live = absurd (cc)
quits_as false p live = refl

-- a live task's phase says whether it is suspended at an open terminate alternative
pub quits_phase : (journal : List Event) (task : ℕ) → is_terminated journal task ≡ false
    → is_quittable (phase_of journal task) ≡ (is_at_open_terminate journal task && not (has_ended journal task))
unfolding has_ended
quits_phase journal task live =
    quits_as (is_terminated journal task) (phase_of_live journal task) live
    ∙ quits_live (is_completed journal task) (is_suspended journal task) (is_at_open_terminate journal task) (is_running journal task)
    ∙ quits_bits (is_completed journal task) (is_terminated journal task) (is_suspended journal task) (is_at_open_terminate journal task) live
    (terminate_suspends journal task)

live_bits : (a b d e : Bool) → a ≡ b → (b ≡ false → d ≡ e) → (not a && d) ≡ (not b && e)
live_bits true true d e same rest = refl
live_bits true false d e same rest = absurd (cc)
live_bits false true d e same rest = absurd (cc)
live_bits false false d e same rest = rest refl

phase_at : (tasks : List Facts) (journal : List Event) (task : ℕ) → HoldFacts tasks journal → task < task_count journal
    → (task_at tasks task).phase ≡ phase_of journal task
phase_at tasks journal task hold below = ap (λ (f : Facts). f.phase) (hold.facts task below)

-- live dependents are counted alike where dependence is the same
pub live_alike : (tasks : List Facts) (journal : List Event) (master : Master) → HoldFacts tasks journal → SameDependents tasks journal master
    → live_dependents tasks master ≡ live_count journal master
live_alike tasks journal master hold same =
    rw hold.many
    (count_same (λ u. not (is_terminated journal u) && depends_on journal u master) (λ u. not (ends (task_at tasks u).phase) && depends_in tasks u master)
    (task_count journal)
    (λ u below.
    live_bits (ends (task_at tasks u).phase) (is_terminated journal u) (depends_in tasks u master) (depends_on journal u master)
    (ap ends (phase_at tasks journal u hold below) ∙ ends_phase journal u) (same u below)))

unready_bits : (a b x y d e : Bool) → a ≡ b → (b ≡ false → x ≡ y) → (b ≡ false → d ≡ e) → ((not a && not x) && d) ≡ (not b && not y && e)
unready_bits true true x y d e same ready rest = refl
unready_bits true false x y d e same ready rest = absurd (cc)
unready_bits false true x y d e same ready rest = absurd (cc)
unready_bits false false x y d e same ready rest = rw (ready refl, rest refl) (join (not y) e)
  where
    join : (y e : Bool) → ((true && y) && e) ≡ (true && y && e)
    join true e = refl
    join false e = refl

ready_bits : (q n a h m : Bool) → q ≡ (a && not h) → n ≡ m → (q && n) ≡ (a && not h && m)
ready_bits q n true true m is same = rw is refl
ready_bits q n true false m is same = rw (is, same) refl
ready_bits q n false h m is same = rw is refl

-- dependents that aren't ready to quit are counted alike where dependence is the same and the queues of live
-- tasks are empty alike
pub unready_alike : (tables : TableState) (journal : List Event) (master : Master) → HoldFacts tables.tasks journal
    → ((u : ℕ) → u < task_count journal → has_no_calls tables.tasks tables.queues u ≡ has_empty_queues journal u) → SameDependents tables.tasks journal master
    → unready_dependents tables.tasks tables.queues master ≡ unready_count journal master
unfolding is_ready_to_quit
unready_alike tables journal master hold empty same =
    rw hold.many
    (count_same (λ u. not (is_terminated journal u) && not (is_at_open_terminate journal u && not (has_ended journal u) && has_empty_queues journal u)
    && depends_on journal u master) (λ u. (not (ends (task_at tables.tasks u).phase)
    && not (is_quittable (task_at tables.tasks u).phase && has_no_calls tables.tasks tables.queues u)) && depends_in tables.tasks u master) (task_count journal)
    (λ u below.
    unready_bits (ends (task_at tables.tasks u).phase) (is_terminated journal u)
    (is_quittable (task_at tables.tasks u).phase && has_no_calls tables.tasks tables.queues u)
    (is_at_open_terminate journal u && not (has_ended journal u) && has_empty_queues journal u) (depends_in tables.tasks u master) (depends_on journal u master)
    (ap ends (phase_at tables.tasks journal u hold below) ∙ ends_phase journal u)
    (λ live.
    ready_bits (is_quittable (task_at tables.tasks u).phase) (has_no_calls tables.tasks tables.queues u) (is_at_open_terminate journal u) (has_ended journal u)
    (has_empty_queues journal u)
    (ap is_quittable (phase_at tables.tasks journal u hold below) ∙ quits_phase journal u live)
    (empty u below))
    (same u below)))
