-- What keeps the counts right.
use Rattle.std.proofs.Common.{◌≡◌, ◌≢◌, ◌⊎◌, ℕ, zero, suc, ◌+◌, ◌<◌, ◌≤◌, Bool, true, false, List, length, set, refl, ap, sym, ◌∙◌, arith, inl, inr}
use Rattle.std.specs.Prelude.{if◌then◌else◌}
use Rattle.std.proofs.lemmas.Bool.{cases_Bool, cases_eq, both_ways, and_right, false_from_ne_true}
use Rattle.std.proofs.lemmas.List.{length-set, length-map, get_or-set_same, get_or-set_other}
use Rattle.ada_events.specs.declared.names.Master.{Master}
use Rattle.ada_events.specs.declared.names.Master.TheVariants.{Body, Block}
use Rattle.ada_tables.specs.declared.task.Task.{Task}
use Rattle.ada_tables.specs.declared.layers.Layer.{Layer}
use Rattle.ada_tables.specs.Layers.{members}
use Rattle.ada_tables.specs.internal.Layers.{live_at}
use Rattle.ada_events.specs.Holders.{has_block}
use Rattle.ada_tables.specs.Dependents.{Facts, task_at, reaches, depends_on, is_terminated, is_live_dependent, live_dependents, count_below}
use Rattle.ada_tables.specs.Counts.{facts_of, facts}
use Rattle.ada_tables.specs.internal.Counts.{no_record, record_at, AreCounted, IsLed}
use Rattle.ada_tables.proofs.Reaching.{reached_held, Alike, AlikeBut, alike_same, reaches_alike, led_alike, led_but}
use Rattle.ada_tables.proofs.Alongs.{facts_at}

pub count_same : (old new : ℕ → Bool) (many : ℕ) → ((task : ℕ) → task < many → new task ≡ old task) → count_below new many ≡ count_below old many
unfolding count_below
count_same old new zero same = refl
count_same old new (suc many) same = rw (same many (omega arith), count_same old new many (λ task low. same task (omega arith))) refl

pub count_le : (test : ℕ → Bool) (many : ℕ) → count_below test many ≤ many
unfolding count_below
count_le test zero = omega arith
count_le test (suc many) =
    elim (cases_Bool (test many)) [ inl is ↦ rw is (omega (arith, count_le test many)) | inr isnt ↦ rw isnt (omega (arith, count_le test many)) ]

pub count_none : (test : ℕ → Bool) (many task : ℕ) → count_below test many ≡ 0 → task < many → test task ≡ false
unfolding count_below
count_none test zero task none low = absurd (omega arith)
count_none test (suc many) task none low =
    elim (cases_eq task many) [
      | inl same ↦ rw same (false_from_ne_true (test many) (λ is. absurd (omega (arith, rw is at none))))
      | inr differs ↦ count_none test many task (omega arith) (omega arith)
    ]

pub count_nobody : (test : ℕ → Bool) (many : ℕ) → ((task : ℕ) → task < many → test task ≡ false) → count_below test many ≡ 0
unfolding count_below
count_nobody test zero none = refl
count_nobody test (suc many) none = rw (none many (omega arith), count_nobody test many (λ task low. none task (omega arith))) refl

-- one passes no longer
pub count_one : (old new : ℕ → Bool) (many one : ℕ) → one < many → ((task : ℕ) → task < many → task ≢ one → new task ≡ old task) → new one ≡ false
    → count_below new many + (if old one then 1 else 0) ≡ count_below old many
unfolding count_below
count_one old new zero one low same gone = absurd (omega arith)
count_one old new (suc many) one low same gone =
    elim (cases_eq one many) [
      | inl is ↦
          let rest = count_same old new many (λ task below. same task (omega arith) (omega arith)) in
          let here : new many ≡ false = rw is at gone in
          rw (is, here, rest) (omega arith)
      | inr differs ↦
          let rest = count_one old new many one (omega arith) (λ task below other. same task (omega arith) other) gone in
          rw (same many (omega arith) (λ e. differs (sym e))) (omega (arith, rest))
    ]

-- the live dependents of all masters stay where those of each live task do
pub dependents_kept : (old new : List Facts) → length new ≡ length old
    → ((task : ℕ) → task < length old → (is_terminated (task_at new task).phase ≡ is_terminated (task_at old task).phase)
    × (is_terminated (task_at old task).phase ≡ false → (master : Master) → depends_on new task master ≡ depends_on old task master)) → (master : Master)
    → live_dependents new master ≡ live_dependents old master
dependents_kept old new long kept master =
    ap (count_below (is_live_dependent new master)) long
    ∙ count_same (is_live_dependent old master) (is_live_dependent new master) (length old) each
  where
    each : (task : ℕ) → task < length old → is_live_dependent new master task ≡ is_live_dependent old master task
    each task low =
        let here = kept task low in
        elim (cases_Bool (is_terminated (task_at old task).phase)) [
          | inl gone ↦ rw (here.0, gone) refl
          | inr live ↦ rw (here.0, live) (here.1 live master)
        ]

-- a block in no nest has no dependents
pub no_dependents : (tasks : List Facts) (block : ℕ) → ((task : ℕ) → task < length tasks → has_block block (task_at tasks task).nest ≡ false)
    → live_dependents tasks (Block block) ≡ 0
no_dependents tasks block free =
    count_nobody (is_live_dependent tasks (Block block)) (length tasks)
    (λ task low. and_right _ _ (false_from_ne_true _ (λ reached.
    let found = reached_held tasks task (task_at tasks task).master (Block block) reached in
    both_ways _ (free found.0 (omega (arith, found.1))) found.2)))

-- one nest changes, so that each of its blocks was there with the same count, or is new
module _ (tasks : List Task) (task : ℕ) (layers : List Layer) (right : AreCounted tasks) (within : task < length tasks) where
  abbrev pub with_nest : Task
  with_nest = record (record_at tasks task) { nest = layers }

  abbrev pub after : List Task
  after = set tasks task with_nest

  long_after : length after ≡ length tasks
  long_after = length-set tasks task with_nest

  facts_long : length (facts after) ≡ length (facts tasks)
  facts_long = length-map after facts_of ∙ long_after ∙ sym (length-map tasks facts_of)

  pub fact_here : task_at (facts after) task ≡ record (task_at (facts tasks) task) { nest = members layers }
  fact_here =
      facts_at after task ∙ ap facts_of (get_or-set_same tasks task with_nest no_record within)
      ∙ ap (λ (f : Facts). let g : Facts = record f { nest = members layers } in g) (sym (facts_at tasks task))

  pub fact_other : (other : ℕ) → other ≢ task → task_at (facts after) other ≡ task_at (facts tasks) other
  fact_other other differs =
      facts_at after other ∙ ap facts_of (get_or-set_other tasks task other with_nest no_record differs) ∙ sym (facts_at tasks other)

  phase_same : (other : ℕ) → (task_at (facts after) other).phase ≡ (task_at (facts tasks) other).phase
  phase_same other =
      elim (cases_eq other task) [
        | inl same ↦ rw same (ap (λ (f : Facts). f.phase) fact_here)
        | inr differs ↦ ap (λ (f : Facts). f.phase) (fact_other other differs)
      ]

  pub nest_changed : ((block : ℕ) → has_block block (members layers) ≡ true
      → ((has_block block (task_at (facts tasks) task).nest ≡ true) × (live_at block layers ≡ live_at block (record_at tasks task).nest))
      ⊎ (((other : ℕ) → other < length tasks → has_block block (task_at (facts tasks) other).nest ≡ false) × (live_at block layers ≡ 0)))
      → ((other : ℕ) → other < length tasks → is_terminated (task_at (facts tasks) other).phase ≡ false
      → ((master : Master) → depends_on (facts after) other master ≡ depends_on (facts tasks) other master) × IsLed after other)
      → AreCounted after
  nest_changed each ways =
      record {
        bodies = λ other low.
            rw (live_same other) (right.bodies other (rw long_after at low) ∙ sym (dependents (Body (record { 0 = other }))));
        blocks = λ other block low has. blocks_at other block (rw long_after at low) has;
        alone = λ one other block low there first second. alone_at one other block (rw long_after at low) (rw long_after at there) first second;
        led = λ other low live. (ways other (rw long_after at low) (sym (ap is_terminated (phase_same other)) ∙ live)).1;
        few = rw long_after right.few;
      }
    where
      dependents : (master : Master) → live_dependents (facts after) master ≡ live_dependents (facts tasks) master
      dependents master =
          dependents_kept (facts tasks) (facts after) facts_long
          (λ other low. (ap is_terminated (phase_same other), λ live. (ways other (rw length-map at low) live).0)) master

      live_same : (other : ℕ) → (record_at after other).live ≡ (record_at tasks other).live
      live_same other =
          elim (cases_eq other task) [
            | inl same ↦ rw same (ap (λ (t : Task). t.live) (get_or-set_same tasks task with_nest no_record within))
            | inr differs ↦ ap (λ (t : Task). t.live) (get_or-set_other tasks task other with_nest no_record differs)
          ]

      here : (block : ℕ) → has_block block (task_at (facts after) task).nest ≡ true → has_block block (members layers) ≡ true
      here block has = ap (λ (f : Facts). has_block block f.nest) (sym fact_here) ∙ has

      there_is : (other block : ℕ) → other ≢ task → has_block block (task_at (facts after) other).nest ≡ true
          → has_block block (task_at (facts tasks) other).nest ≡ true
      there_is other block differs has = ap (λ (f : Facts). has_block block f.nest) (sym (fact_other other differs)) ∙ has

      blocks_at : (other block : ℕ) → other < length tasks → has_block block (task_at (facts after) other).nest ≡ true
          → live_at block (record_at after other).nest ≡ live_dependents (facts after) (Block block)
      blocks_at other block low has =
          elim (cases_eq other task) [
            | inl same ↦
                let stands = here block (rw same at has) in
                rw same (ap (λ (t : Task). live_at block t.nest) (get_or-set_same tasks task with_nest no_record within)
                ∙ elim (each block stands) [
                  | inl old ↦ old.1 ∙ right.blocks task block within old.0 ∙ sym (dependents (Block block))
                  | inr fresh ↦ fresh.1 ∙ sym (dependents (Block block) ∙ no_dependents (facts tasks) block (λ at low. fresh.0 at (rw length-map at low)))
                ])
            | inr differs ↦
                ap (λ (t : Task). live_at block t.nest) (get_or-set_other tasks task other with_nest no_record differs)
                ∙ right.blocks other block low (there_is other block differs has) ∙ sym (dependents (Block block))
          ]

      apart : (other block : ℕ) → other < length tasks → other ≢ task → has_block block (members layers) ≡ true
          → has_block block (task_at (facts tasks) other).nest ≡ true → task ≡ other
      apart other block low differs first second =
          elim (each block first) [
            | inl old ↦ right.alone task other block within low old.0 second
            | inr fresh ↦ absurd (both_ways _ (fresh.0 other low) second)
          ]

      alone_at : (one other block : ℕ) → one < length tasks → other < length tasks → has_block block (task_at (facts after) one).nest ≡ true
          → has_block block (task_at (facts after) other).nest ≡ true → one ≡ other
      alone_at one other block low there first second =
          elim (cases_eq one task) [
            | inl same ↦ elim (cases_eq other task) [
              | inl too ↦ same ∙ sym too
              | inr differs ↦ same ∙ apart other block there differs (here block (rw same at first)) (there_is other block differs second)
            ]
            | inr differs ↦ elim (cases_eq other task) [
              | inl too ↦ sym (apart one block low differs (here block (rw too at second)) (there_is one block differs first)) ∙ sym too
              | inr neither ↦ right.alone one other block low there (there_is one block differs first) (there_is other block neither second)
            ]
          ]

  -- the masters that tasks were made under stay, and who isn't this task is alike
  alike_others : (other : ℕ) → other ≢ task → Alike other (task_at (facts tasks) other) (task_at (facts after) other)
  alike_others other differs = alike_same other (task_at (facts tasks) other) (task_at (facts after) other) (fact_other other differs)

  master_same : (other : ℕ) → (task_at (facts after) other).master ≡ (task_at (facts tasks) other).master
  master_same other =
      elim (cases_eq other task) [
        | inl same ↦ rw same (ap (λ (f : Facts). f.master) fact_here)
        | inr differs ↦ ap (λ (f : Facts). f.master) (fact_other other differs)
      ]

  holder_same : (other : ℕ) → (record_at after other).holder ≡ (record_at tasks other).holder
  holder_same other =
      elim (cases_eq other task) [
        | inl same ↦ rw same (ap (λ (t : Task). t.holder) (get_or-set_same tasks task with_nest no_record within))
        | inr differs ↦ ap (λ (t : Task). t.holder) (get_or-set_other tasks task other with_nest no_record differs)
      ]

  -- a nest with the same blocks in the same order keeps all ways
  pub ways_alike : Alike task (task_at (facts tasks) task) (record (task_at (facts tasks) task) { nest = members layers }) → (other : ℕ) → other < length tasks
      → is_terminated (task_at (facts tasks) other).phase ≡ false
      → ((master : Master) → depends_on (facts after) other master ≡ depends_on (facts tasks) other master) × IsLed after other
  ways_alike alike other low live =
      let all : (at : ℕ) → at < other → Alike at (task_at (facts tasks) at) (task_at (facts after) at) = λ at below. alike_at at in (
        λ master. ap (λ m. reaches (facts after) other m master) (master_same other)
            ∙ reaches_alike (facts tasks) (facts after) other (task_at (facts tasks) other).master master all,
        rw (master_same other, holder_same other) (led_alike tasks after other (task_at (facts tasks) other).master (record_at tasks other).holder all
            (λ at below. holder_same at) ∙ right.led other low live),
      )
    where
      alike_at : (at : ℕ) → Alike at (task_at (facts tasks) at) (task_at (facts after) at)
      alike_at at =
          elim (cases_eq at task) [
            | inl same ↦ rw (same, fact_here) alike
            | inr differs ↦ alike_others at differs
          ]

  -- a nest with one block more or less keeps the ways that don't pass it
  pub ways_but : (block : ℕ) → AlikeBut block task (task_at (facts tasks) task) (record (task_at (facts tasks) task) { nest = members layers })
      → ((other : ℕ) → other < length tasks → is_terminated (task_at (facts tasks) other).phase ≡ false → depends_on (facts tasks) other (Block block) ≡ false)
      → (other : ℕ) → other < length tasks → is_terminated (task_at (facts tasks) other).phase ≡ false
      → ((master : Master) → depends_on (facts after) other master ≡ depends_on (facts tasks) other master) × IsLed after other
  ways_but block alike free other low live =
      let way = led_but block tasks after other (task_at (facts tasks) other).master (record_at tasks other).holder (λ at below. alike_at at)
      (λ at below. holder_same at) (right.led other low live) (free other low live) in (
        λ master. ap (λ m. reaches (facts after) other m master) (master_same other) ∙ way.0 master,
        rw (master_same other, holder_same other) way.1,
      )
    where
      weaker : (at : ℕ) → Alike at (task_at (facts tasks) at) (task_at (facts after) at)
          → AlikeBut block at (task_at (facts tasks) at) (task_at (facts after) at)
      weaker at all = record { master = all.master; holding = λ from other. all.holding from; enclosing = λ from to other held. all.enclosing from to held }

      alike_at : (at : ℕ) → AlikeBut block at (task_at (facts tasks) at) (task_at (facts after) at)
      alike_at at =
          elim (cases_eq at task) [
            | inl same ↦ rw (same, fact_here) alike
            | inr differs ↦ weaker at (alike_others at differs)
          ]
