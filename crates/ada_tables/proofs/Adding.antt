-- A task is added, and the counts stay right.
use Rattle.std.proofs.Common.{◌≡◌, ◌⊎◌, ℕ, suc, ◌+◌, ◌<◌, ◌≤◌, Bool, true, false, not, ◌&&◌, List, [], ◌∷◌, ◌++◌, length, min, Option, Some, None, refl, ap}
use Rattle.std.proofs.Common.{sym, ◌∙◌, arith, inl, inr, length-append}
use Rattle.std.specs.Prelude.{if◌then◌else◌}
use Rattle.std.proofs.lemmas.Bool.{cases_eq, both_ways, eqb-true, and_right, false_from_ne_true}
use Rattle.std.proofs.lemmas.List.{length-map, get_or_append_left, get_or_push, map-append}
use Rattle.ada_events.specs.declared.names.Master.{Master}
use Rattle.ada_events.specs.declared.names.Master.TheVariants.{Body, Block}
use Rattle.ada_tables.specs.declared.task.Task.{Task}
use Rattle.ada_tables.specs.internal.Layers.{live_at}
use Rattle.ada_events.specs.Holders.{has_block, holds}
use Rattle.ada_tables.specs.Dependents.{Facts, nobody, task_at, reaches, is_terminated, is_live_dependent, live_dependents, depends_on}
use Rattle.ada_tables.specs.Dependents.{count_below}
use Rattle.ada_tables.specs.Counts.{facts_of, facts}
use Rattle.ada_tables.specs.internal.Counts.{no_record, record_at, ChangesAlong, StandAlone, AreCounted, IsLed, is_led}
use Rattle.ada_tables.proofs.Reaching.{body_below, Alike, alike_same, reaches_alike, led_alike, led_from}
use Rattle.ada_events.specs.declared.names.Family.{Family}
use Rattle.ada_tables.specs.declared.change.Change.TheVariants.{Added}
use Rattle.ada_tables.specs.Dependents.{IsOpen}
use Rattle.ada_tables.specs.internal.Counts.{made}
use Rattle.ada_tables.proofs.Alongs.{along_begins, along_same}
use Rattle.ada_tables.proofs.Keeping.{count_same, count_le, count_nobody}

-- a count that fits is raised by one
raise_fits : (count live : ℕ) (passed : Bool) → live ≤ 256 → count ≡ (if passed && not false then min (live + 1) 65535 else live)
    → count ≡ live + (if passed then 1 else 0)
raise_fits count live true few is = omega arith
raise_fits count live false few is = omega arith

-- each block stands in one nest
pub stand_alone : (tasks : List Task) → AreCounted tasks → StandAlone (facts tasks)
stand_alone tasks right =
    record { alone = λ task other block low there first second. right.alone task other block (rw length-map at low) (rw length-map at there) first second }

-- a master is held by one task
pub held_once : (tasks : List Facts) (one other : ℕ) (master : Master) → StandAlone tasks → one < length tasks → other < length tasks
    → holds one (task_at tasks one).nest master ≡ true → holds other (task_at tasks other).nest master ≡ true → one ≡ other
held_once tasks one other (Body t) single low there first second = sym (eqb-true t.0 one first) ∙ eqb-true t.0 other second
held_once tasks one other (Block block) single low there first second = single.alone one other block low there first second

module _ (tasks : List Task) (master : Option Master) (holder first : ℕ) (families : List Family) (right : AreCounted tasks) where
  abbrev pub pushed : List Task
  pushed = tasks ++ made master holder first families ∷ []

  pub facts_pushed : facts pushed ≡ facts tasks ++ facts_of (made master holder first families) ∷ []
  facts_pushed = map-append facts_of tasks (made master holder first families ∷ [])

  many : length (facts tasks) ≡ length tasks
  many = length-map tasks facts_of

  longer : length (facts pushed) ≡ suc (length tasks)
  longer = ap (λ fs. length fs) facts_pushed ∙ omega (arith, length-append (facts tasks) (facts_of (made master holder first families) ∷ []), many)

  old_fact : (task : ℕ) → task < length tasks → task_at (facts pushed) task ≡ task_at (facts tasks) task
  old_fact task low = ap (λ fs. task_at fs task) facts_pushed
      ∙ get_or_append_left (facts tasks) (facts_of (made master holder first families) ∷ []) nobody task (omega (arith, many))

  new_fact : task_at (facts pushed) (length tasks) ≡ facts_of (made master holder first families)
  new_fact = ap (λ fs. task_at fs (length tasks)) facts_pushed
      ∙ get_or_push (facts tasks) (facts_of (made master holder first families)) nobody (length tasks) many

  old_record : (task : ℕ) → task < length tasks → record_at pushed task ≡ record_at tasks task
  old_record task low = get_or_append_left tasks (made master holder first families ∷ []) no_record task low

  new_record : record_at pushed (length tasks) ≡ made master holder first families
  new_record = get_or_push tasks (made master holder first families) no_record (length tasks) refl

  below : (task : ℕ) → task < length (facts pushed) → (task < length tasks) ⊎ (task ≡ length tasks)
  below task low =
      elim (cases_eq task (length tasks)) [
        | inl same ↦ inr same
        | inr differs ↦ inl (omega (arith, longer))
      ]

  alike : (task : ℕ) → task < length tasks → Alike task (task_at (facts tasks) task) (task_at (facts pushed) task)
  alike task low = alike_same task (task_at (facts tasks) task) (task_at (facts pushed) task) (old_fact task low)

  reaches_pushed : (made_before : ℕ) (from : Option Master) (to : Master) → made_before ≤ length tasks
      → reaches (facts pushed) made_before from to ≡ reaches (facts tasks) made_before from to
  reaches_pushed made_before from to low = reaches_alike (facts tasks) (facts pushed) made_before from to (λ task below. alike task (omega arith))

  led_pushed : (made_before : ℕ) (from : Option Master) (by : ℕ) → made_before ≤ length tasks
      → is_led pushed made_before from by ≡ is_led tasks made_before from by
  led_pushed made_before from by low = led_alike tasks pushed made_before from by (λ task below. alike task (omega arith))
      (λ task below. ap (λ (t : Task). t.holder) (old_record task (omega arith)))

  -- no block stands in the new nest
  nothing_new : (task block : ℕ) → task ≡ length tasks → has_block block (task_at (facts pushed) task).nest ≡ true → ⊥
  nothing_new task block is has =
      let none = ap (λ (f : Facts). has_block block f.nest) new_fact in
      both_ways (has_block block (task_at (facts pushed) (length tasks)).nest) none (rw is at has)

  pub pushed_alone : StandAlone (facts pushed)
  pushed_alone =
      record {
        alone = λ task other block low there first second. elim (below task low) [
          | inl old ↦ elim (below other there) [
            | inl too ↦ right.alone task other block old too (rw (old_fact task old) at first) (rw (old_fact other too) at second)
            | inr last ↦ absurd (nothing_new other block last second)
          ]
          | inr last ↦ absurd (nothing_new task block last first)
        ];
      }

  -- the masters that the new task depends on have one live dependent more
  one_more : (to : Master) → live_dependents (facts pushed) to
      ≡ live_dependents (facts tasks) to + (if depends_on (facts pushed) (length tasks) to then 1 else 0)
  unfolding count_below
  one_more to =
      ap (count_below (is_live_dependent (facts pushed) to)) longer
      ∙ rw (last, count_same (is_live_dependent (facts tasks) to) (is_live_dependent (facts pushed) to) (length tasks) before, many) refl
    where
      last : is_live_dependent (facts pushed) to (length tasks) ≡ depends_on (facts pushed) (length tasks) to
      last = rw new_fact refl

      before : (task : ℕ) → task < length tasks → is_live_dependent (facts pushed) to task ≡ is_live_dependent (facts tasks) to task
      before task low = rw (old_fact task low) (ap (λ b. not (is_terminated (task_at (facts tasks) task).phase) && b)
          (reaches_pushed task (task_at (facts tasks) task).master to (omega arith)))

  -- nobody depends on the new body
  no_more : live_dependents (facts pushed) (Body (record { 0 = length tasks })) ≡ 0
  no_more =
      one_more (Body (record { 0 = length tasks }))
      ∙ rw (
        body_below (facts pushed) (length tasks) (task_at (facts pushed) (length tasks)).master (record { 0 = length tasks }) (omega arith),
        count_nobody (is_live_dependent (facts tasks) (Body (record { 0 = length tasks }))) (length (facts tasks))
            (λ task low. and_right _ _ (body_below (facts tasks) task (task_at (facts tasks) task).master (record { 0 = length tasks }) (omega (arith, many)))),
      ) refl

  few_live : (to : Master) → live_dependents (facts tasks) to ≤ 256
  few_live to = omega (arith, count_le (is_live_dependent (facts tasks) to) (length (facts tasks)), many, right.few)

  -- the counts are right once those of the masters that the new task depends on are raised
  module _ (room : length tasks < 256) (led : is_led tasks (length tasks) master holder ≡ true) where
    pub pushed_led : IsLed pushed (length tasks)
    pushed_led = rw (new_fact, new_record) (led_pushed (length tasks) master holder (omega arith) ∙ led)

    module _ (raised : List Task) (along : ChangesAlong Added pushed raised (depends_on (facts pushed) (length tasks)) (λ _. false)) where
      long : length raised ≡ suc (length tasks)
      long = sym (length-map raised facts_of) ∙ ap (λ fs. length fs) along.same ∙ longer

      within : (task : ℕ) → task < length raised → task < length pushed
      within task low = omega (arith, long, longer, length-map pushed facts_of)

      known : (task : ℕ) → task < length raised → task < length (facts pushed)
      known task low = omega (arith, long, longer)

      body_right : (task : ℕ) → task < length raised → (record_at raised task).live ≡ live_dependents (facts pushed) (Body (record { 0 = task }))
      body_right task low =
          elim (below task (known task low)) [
            | inl old ↦
                raise_fits _ _ (depends_on (facts pushed) (length tasks) (Body (record { 0 = task }))) (few_live (Body (record { 0 = task })))
                (along.bodies task (within task low) ∙ rw (old_record task old, right.bodies task old) refl)
                ∙ sym (one_more (Body (record { 0 = task })))
            | inr last ↦
                rw last (along.bodies (length tasks) (rw last at (within task low))
                ∙ rw (
                  body_below (facts pushed) (length tasks) (task_at (facts pushed) (length tasks)).master (record { 0 = length tasks }) (omega arith),
                  new_record,
                ) refl
                ∙ sym no_more)
          ]

      block_right : (task block : ℕ) → task < length raised → has_block block (task_at (facts pushed) task).nest ≡ true
          → live_at block (record_at raised task).nest ≡ live_dependents (facts pushed) (Block block)
      block_right task block low has =
          elim (below task (known task low)) [
            | inl old ↦
                raise_fits _ _ (depends_on (facts pushed) (length tasks) (Block block)) (few_live (Block block))
                (along.blocks task block (within task low) has ∙ rw (old_record task old, right.blocks task block old (rw (old_fact task old) at has)) refl)
                ∙ sym (one_more (Block block))
            | inr last ↦ absurd (nothing_new task block last has)
          ]

      led_right : (task : ℕ) → task < length raised → is_terminated (task_at (facts pushed) task).phase ≡ false → IsLed pushed task
      led_right task low lives =
          elim (below task (known task low)) [
            | inl old ↦
                rw (old_fact task old, old_record task old)
                (led_pushed task (task_at (facts tasks) task).master (record_at tasks task).holder (omega arith)
                ∙ right.led task old (rw (old_fact task old) at lives))
            | inr last ↦ rw last pushed_led
          ]

      pub added_counted : AreCounted raised
      added_counted =
          record {
            bodies = λ task low. rw along.same (body_right task low);
            blocks = λ task block low has. rw along.same (block_right task block low (rw along.same at has));
            alone = λ task other block low there first second. pushed_alone.alone task other block (known task low) (known other there) (rw along.same at first)
                (rw along.same at second);
            led = λ task low lives. led_same task (led_right task low (rw along.same at lives));
            few = omega (arith, long);
          }
        where
          led_same : (task : ℕ) → IsLed pushed task → IsLed raised task
          led_same task led_there =
              rw (along.same, along.holders task)
              (led_alike pushed raised task (task_at (facts pushed) task).master (record_at pushed task).holder
              (λ at low. alike_same at (task_at (facts pushed) at) (task_at (facts raised) at) (ap (λ fs. task_at fs at) along.same))
              (λ at low. along.holders at)
              ∙ led_there)

-- the way from an open master is led
pub open_led : (tasks : List Task) (master : Master) (holder : ℕ) → AreCounted tasks → IsOpen (facts tasks) master → holder < length tasks
    → holds holder (task_at (facts tasks) holder).nest master ≡ true → is_led tasks (length tasks) (Some master) holder ≡ true
open_led tasks master holder right is_open low held =
    let many = length-map tasks facts_of in
    let same : is_open.task ≡ holder = once is_open.task is_open.within is_open.held in
    led_from tasks (length tasks) holder master low
    (λ task above below. false_from_ne_true _ (λ too. let is = once task (omega (arith, many)) too in absurd (omega arith)))
    held (right.led holder low (rw same at is_open.live))
  where
    once : (task : ℕ) → task < length (facts tasks) → holds task (task_at (facts tasks) task).nest master ≡ true → task ≡ holder
    once task there too = held_once (facts tasks) task holder master (stand_alone tasks right) there (omega (arith, length-map tasks facts_of)) too held

-- the main program has no master, and is the first task
pub added_main : (holder first : ℕ) (families : List Family) → AreCounted [] → AreCounted (made None holder first families ∷ [])
unfolding reaches is_led
added_main holder first families right =
    let main = made None holder first families ∷ [] in
    let passed = depends_on (facts main) 0 in
    added_counted [] None holder first families right (omega arith) refl main
    (along_same Added main main passed passed (λ _. false) (λ to. refl) (along_begins Added main passed))
