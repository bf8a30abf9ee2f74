-- A task ends or is added, and the counts stay right.
use Rattle.std.proofs.Common.{subst, ◌-◌, ◌≡◌, ◌≢◌, ℕ, ◌+◌, ◌<◌, Bool, true, false, not, ◌&&◌, List, length, set, refl, ap, sym, ◌∙◌, arith, inl, inr}
use Rattle.std.specs.Prelude.{if◌then◌else◌}
use Rattle.std.proofs.lemmas.Bool.{cases_eq}
use Rattle.std.proofs.lemmas.List.{length-set, length-map, get_or-set_same, get_or-set_other}
use Rattle.ada_events.specs.declared.names.Master.{Master}
use Rattle.ada_events.specs.declared.names.Master.TheVariants.{Body, Block}
use Rattle.ada_tables.specs.declared.task.Task.{Task}
use Rattle.ada_tables.specs.declared.phase.Phase.{Phase}
use Rattle.ada_tables.specs.internal.Layers.{live_at}
use Rattle.ada_events.specs.Holders.{has_block, holds, encloses}
use Rattle.ada_tables.specs.Dependents.{Facts, task_at, reaches, depends_on, is_terminated, is_live_dependent, live_dependents}
use Rattle.ada_tables.specs.Counts.{facts_of, facts}
use Rattle.ada_tables.specs.internal.Counts.{no_record, record_at, ChangesAlong, AreCounted}
use Rattle.ada_tables.proofs.Reaching.{Alike, reaches_alike, led_alike}
use Rattle.ada_tables.proofs.Alongs.{facts_at}
use Rattle.ada_tables.specs.declared.phase.Phase.TheVariants.{Terminated}
use Rattle.ada_tables.specs.declared.change.Change.TheVariants.{Ended}
use Rattle.ada_tables.proofs.Keeping.{count_one, dependents_kept}

-- two lists of tasks differ in the phases alone
pub record SameButPhases (old new : List Facts) : Type 0 where
  pub long : length new ≡ length old
  pub master : (task : ℕ) → (task_at new task).master ≡ (task_at old task).master
  pub nest : (task : ℕ) → (task_at new task).nest ≡ (task_at old task).nest

pub phases_alike : (old new : List Facts) → SameButPhases old new → (task : ℕ) → Alike task (task_at old task) (task_at new task)
phases_alike old new same task =
    record {
      master = same.master task;
      holding = λ from. ap (λ n. holds task n from) (same.nest task);
      enclosing = λ from to held. ap (λ n. encloses task n from to) (same.nest task);
    }

pub phases_depend : (old new : List Facts) → SameButPhases old new → (task : ℕ) (master : Master) → depends_on new task master ≡ depends_on old task master
phases_depend old new same task master =
    ap (λ m. reaches new task m master) (same.master task)
    ∙ reaches_alike old new task (task_at old task).master master (λ other low. phases_alike old new same other)

-- counts that are right of the new phases are right
pub rephased : (tasks new : List Task) → AreCounted tasks → SameButPhases (facts tasks) (facts new) → length new ≡ length tasks
    → ((task : ℕ) → (record_at new task).holder ≡ (record_at tasks task).holder)
    → ((task : ℕ) → task < length tasks → is_terminated (task_at (facts new) task).phase ≡ false → is_terminated (task_at (facts tasks) task).phase ≡ false)
    → ((task : ℕ) → task < length tasks → (record_at new task).live ≡ live_dependents (facts new) (Body (record { 0 = task })))
    → ((task block : ℕ) → task < length tasks → has_block block (task_at (facts tasks) task).nest ≡ true
    → live_at block (record_at new task).nest ≡ live_dependents (facts new) (Block block))
    → AreCounted new
rephased tasks new right same long holders live bodies blocks =
    record {
      bodies = λ task low. bodies task (rw long at low);
      blocks = λ task block low has. blocks task block (rw long at low) (rw (same.nest task) at has);
      alone = λ task other block low there first second. right.alone task other block (rw long at low) (rw long at there) (rw (same.nest task) at first)
          (rw (same.nest other) at second);
      led = λ task low lives.
          rw (same.master task, holders task)
          (led_alike tasks new task (task_at (facts tasks) task).master (record_at tasks task).holder
          (λ other below. phases_alike (facts tasks) (facts new) same other) (λ other below. holders other)
          ∙ right.led task (rw long at low) (live task (rw long at low) lives));
      few = rw long right.few;
    }

module _ (tasks : List Task) (task : ℕ) (phase : Phase) (within : task < length tasks) where
  abbrev pub with_phase : Task
  with_phase = record (record_at tasks task) { phase = phase }

  abbrev pub phased : List Task
  phased = set tasks task with_phase

  pub phase_here : task_at (facts phased) task ≡ record (task_at (facts tasks) task) { phase = phase }
  phase_here =
      facts_at phased task ∙ ap facts_of (get_or-set_same tasks task with_phase no_record within)
      ∙ ap (λ (f : Facts). let g : Facts = record f { phase = phase } in g) (sym (facts_at tasks task))

  pub phase_other : (other : ℕ) → other ≢ task → task_at (facts phased) other ≡ task_at (facts tasks) other
  phase_other other differs =
      facts_at phased other ∙ ap facts_of (get_or-set_other tasks task other with_phase no_record differs) ∙ sym (facts_at tasks other)

  pub phased_same : SameButPhases (facts tasks) (facts phased)
  phased_same =
      record {
        long = length-map phased facts_of ∙ length-set tasks task with_phase ∙ sym (length-map tasks facts_of);
        master = λ other. elim (cases_eq other task) [
          | inl same ↦ rw same (ap (λ (f : Facts). f.master) phase_here)
          | inr differs ↦ ap (λ (f : Facts). f.master) (phase_other other differs)
        ];
        nest = λ other. elim (cases_eq other task) [
          | inl same ↦ rw same (ap (λ (f : Facts). f.nest) phase_here)
          | inr differs ↦ ap (λ (f : Facts). f.nest) (phase_other other differs)
        ];
      }

  pub live_phased : (other : ℕ) → (record_at phased other).live ≡ (record_at tasks other).live
  live_phased other =
      elim (cases_eq other task) [
        | inl same ↦ rw same (ap (λ (t : Task). t.live) (get_or-set_same tasks task with_phase no_record within))
        | inr differs ↦ ap (λ (t : Task). t.live) (get_or-set_other tasks task other with_phase no_record differs)
      ]

  pub holder_phased : (other : ℕ) → (record_at phased other).holder ≡ (record_at tasks other).holder
  holder_phased other =
      elim (cases_eq other task) [
        | inl same ↦ rw same (ap (λ (t : Task). t.holder) (get_or-set_same tasks task with_phase no_record within))
        | inr differs ↦ ap (λ (t : Task). t.holder) (get_or-set_other tasks task other with_phase no_record differs)
      ]

  pub nest_phased : (other : ℕ) → (record_at phased other).nest ≡ (record_at tasks other).nest
  nest_phased other =
      elim (cases_eq other task) [
        | inl same ↦ rw same (ap (λ (t : Task). t.nest) (get_or-set_same tasks task with_phase no_record within))
        | inr differs ↦ ap (λ (t : Task). t.nest) (get_or-set_other tasks task other with_phase no_record differs)
      ]

-- a task gets another phase, and doesn't end
pub goes_on : (tasks : List Task) (task : ℕ) (phase : Phase) → AreCounted tasks → task < length tasks → is_terminated (task_at (facts tasks) task).phase ≡ false
    → is_terminated phase ≡ false → AreCounted (set tasks task (record (record_at tasks task) { phase = phase }))
goes_on tasks task phase right within lives on =
    let same = phased_same tasks task phase within in
    rephased tasks (phased tasks task phase within) right same (length-set tasks task (with_phase tasks task phase within))
    (holder_phased tasks task phase within)
    (λ other low live. sym (phases other) ∙ live)
    (λ other low. live_phased tasks task phase within other ∙ right.bodies other low ∙ sym (kept same (Body (record { 0 = other }))))
    (λ other block low has. ap (live_at block) (nest_phased tasks task phase within other) ∙ right.blocks other block low has ∙ sym (kept same (Block block)))
  where
    phases : (other : ℕ) → is_terminated (task_at (facts (set tasks task (record (record_at tasks task) { phase = phase }))) other).phase
        ≡ is_terminated (task_at (facts tasks) other).phase
    phases other =
        elim (cases_eq other task) [
          | inl same ↦ rw same (ap (λ (f : Facts). is_terminated f.phase) (phase_here tasks task phase within) ∙ on ∙ sym lives)
          | inr differs ↦ ap (λ (f : Facts). is_terminated f.phase) (phase_other tasks task phase within other differs)
        ]

    kept : SameButPhases (facts tasks) (facts (set tasks task (record (record_at tasks task) { phase = phase }))) → (master : Master)
        → live_dependents (facts (set tasks task (record (record_at tasks task) { phase = phase }))) master ≡ live_dependents (facts tasks) master
    kept same master =
        dependents_kept (facts tasks) (facts (set tasks task (record (record_at tasks task) { phase = phase }))) same.long
        (λ other low. (
          phases other,
          λ live m. phases_depend (facts tasks) (facts (set tasks task (record (record_at tasks task) { phase = phase }))) same other
              m,
        )) master

-- the masters that a task depends on have one live dependent less when it ends
pub one_less : (old new : List Facts) (task : ℕ) (master : Master) → SameButPhases old new → task < length old → is_terminated (task_at old task).phase ≡ false
    → is_terminated (task_at new task).phase ≡ true → ((other : ℕ) → other ≢ task → (task_at new other).phase ≡ (task_at old other).phase)
    → live_dependents new master + (if depends_on old task master then 1 else 0) ≡ live_dependents old master
one_less old new task master same within lives ends others =
    let one = count_one (is_live_dependent old master) (is_live_dependent new master) (length old) task within
    (λ other low differs. rw (others other differs, phases_depend old new same other master) refl)
    (rw ends refl) in
    rw same.long (rw lives at one)

less : (count live new : ℕ) (depends : Bool) → count ≡ (if depends && not false then live - 1 else live) → new + (if depends then 1 else 0) ≡ live → count ≡ new
less count live new true is adds = omega arith
less count live new false is adds = omega arith

-- a task ends once the counts of its masters are lowered
pub ends : (tasks lowered : List Task) (task : ℕ) (passed : Master → Bool) → AreCounted tasks → task < length tasks
    → is_terminated (task_at (facts tasks) task).phase ≡ false → ChangesAlong Ended tasks lowered passed (λ _. false)
    → ((master : Master) → passed master ≡ depends_on (facts tasks) task master)
    → AreCounted (set lowered task (record (record_at lowered task) { phase = Terminated }))
ends tasks lowered task passed right within lives along all =
    rephased tasks (phased lowered task Terminated low_within) right both (length-set lowered task (with_phase lowered task Terminated low_within) ∙ long)
    (λ other. holder_phased lowered task Terminated low_within other ∙ along.holders other)
    (λ other low live. others_live other live)
    (λ other low. live_phased lowered task Terminated low_within other
    ∙ less _ (live_dependents (facts tasks) (Body (record { 0 = other }))) _ (depends_on (facts tasks) task (Body (record { 0 = other })))
    (along.bodies other low ∙ rw (all (Body (record { 0 = other })), right.bodies other low) refl)
    (fewer (Body (record { 0 = other }))))
    (λ other block low has. ap (live_at block) (nest_phased lowered task Terminated low_within other)
    ∙ less _ (live_dependents (facts tasks) (Block block)) _ (depends_on (facts tasks) task (Block block))
    (along.blocks other block low has ∙ rw (all (Block block), right.blocks other block low has) refl)
    (fewer (Block block)))
  where
    long : length lowered ≡ length tasks
    long = sym (length-map lowered facts_of) ∙ ap (λ fs. length fs) along.same ∙ length-map tasks facts_of

    low_within : task < length lowered
    low_within = omega (arith, long)

    both : SameButPhases (facts tasks) (facts (phased lowered task Terminated low_within))
    both = subst (λ fs. SameButPhases fs (facts (phased lowered task Terminated low_within))) along.same (phased_same lowered task Terminated low_within)

    other_is : (other : ℕ) → other ≢ task → task_at (facts (phased lowered task Terminated low_within)) other ≡ task_at (facts tasks) other
    other_is other differs = phase_other lowered task Terminated low_within other differs ∙ ap (λ fs. task_at fs other) along.same

    ended : is_terminated (task_at (facts (phased lowered task Terminated low_within)) task).phase ≡ true
    ended = ap (λ (f : Facts). is_terminated f.phase) (phase_here lowered task Terminated low_within)

    others_live : (other : ℕ) → is_terminated (task_at (facts (phased lowered task Terminated low_within)) other).phase ≡ false
        → is_terminated (task_at (facts tasks) other).phase ≡ false
    others_live other live =
        elim (cases_eq other task) [
          | inl same ↦ rw same lives
          | inr differs ↦ ap (λ (f : Facts). is_terminated f.phase) (sym (other_is other differs)) ∙ live
        ]

    fewer : (master : Master) → live_dependents (facts (phased lowered task Terminated low_within)) master +
        (if depends_on (facts tasks) task master then 1 else 0) ≡ live_dependents (facts tasks) master
    fewer master = one_less (facts tasks) (facts (phased lowered task Terminated low_within)) task master both (omega (arith, length-map tasks facts_of)) lives
        ended (λ other differs. ap (λ (f : Facts). f.phase) (other_is other differs))
