-- The way outwards from a master: whom it passes, and what keeps it.
use Rattle.std.proofs.Common.{◌≡◌, ◌≢◌, ℕ, zero, suc, ◌<◌, ◌≤◌, Bool, true, false, ◌||◌, List, Option, Some, None, refl, ap, sym, ◌∙◌, arith, inl, inr}
use Rattle.std.specs.Prelude.{◌==◌}
use Rattle.std.proofs.lemmas.Bool.{cases_Bool, cases_eq, both_ways, eq-eqb, eqb-true, or_parts, or_left, or_cases, and_parts, and_from, false_from_ne_true}
use Rattle.ada_events.specs.declared.names.TaskNo.{TaskNo}
use Rattle.ada_events.specs.declared.names.Master.{Master}
use Rattle.ada_events.specs.declared.names.Master.TheVariants.{Body, Block}
use Rattle.ada_tables.specs.declared.task.Task.{Task}
use Rattle.ada_events.specs.Holders.{holds, encloses}
use Rattle.ada_tables.specs.Dependents.{Facts, task_at, passes, beyond, reaches, depends_on}
use Rattle.ada_tables.specs.Counts.{facts}
use Rattle.ada_tables.specs.internal.Counts.{record_at, is_led, IsLed}
use Rattle.ada_tables.proofs.Nests.{has_block-up_to, has_block-from_up_to}

-- where nothing is left to come from nothing is passed
pub reaches_none : (tasks : List Facts) (many : ℕ) (to : Master) → reaches tasks many None to ≡ false
unfolding reaches
reaches_none tasks zero to = refl
reaches_none tasks (suc task) to = reaches_none tasks task to

-- who is passed is held by a task
pub passes_holds : (task : ℕ) (facts : Facts) (from : Option Master) (to : Master) → passes task facts from to ≡ true → holds task facts.nest to ≡ true
passes_holds task facts None to passed = absurd (cc)
passes_holds task facts (Some (Body t)) (Body u) passed = (and_parts _ _ passed).1
passes_holds task facts (Some (Block inner)) (Body u) passed = (and_parts _ _ passed).1
passes_holds task facts (Some (Body t)) (Block block) passed = absurd (let second = (and_parts (t.0 == task) false passed).1 in cc)
passes_holds task facts (Some (Block inner)) (Block block) passed = has_block-from_up_to inner block facts.nest (and_parts _ _ passed).1

-- each master is passed that holds itself
pub holds_passes : (task : ℕ) (facts : Facts) (from : Master) → holds task facts.nest from ≡ true → passes task facts (Some from) from ≡ true
holds_passes task facts (Body t) held = and_from _ _ held held
holds_passes task facts (Block block) held = and_from _ _ held (has_block-up_to block facts.nest held)

-- a master that is reached is held by one of the tasks
pub reached_held : (tasks : List Facts) (many : ℕ) (from : Option Master) (to : Master) → reaches tasks many from to ≡ true → (task : ℕ) × (task < many)
    × (holds task (task_at tasks task).nest to ≡ true)
unfolding reaches
reached_held tasks zero from to reached = absurd (cc)
reached_held tasks (suc task) from to reached =
    elim (or_cases _ _ reached) [
      | inl here ↦ (task, omega arith, passes_holds task (task_at tasks task) from to here)
      | inr later ↦
          let found = reached_held tasks task (beyond task (task_at tasks task) from) to later in
          (found.0, omega (arith, found.1), found.2)
    ]

-- a body is reached within the tasks made before alone
pub body_below : (tasks : List Facts) (many : ℕ) (from : Option Master) (t : TaskNo) → many ≤ t.0 → reaches tasks many from (Body t) ≡ false
body_below tasks many from t past =
    false_from_ne_true _ (λ reached. let found = reached_held tasks many from (Body t) reached in let same = eqb-true t.0 found.0 found.2 in absurd
    (omega (arith, found.1)))

-- a way that is led reaches the master from which it goes
pub reaches_itself : (tasks : List Task) (many : ℕ) (from : Master) (holder : ℕ) → is_led tasks many (Some from) holder ≡ true
    → reaches (facts tasks) many (Some from) from ≡ true
unfolding reaches is_led
reaches_itself tasks zero from holder led = absurd (cc)
reaches_itself tasks (suc task) from holder led =
    elim (cases_Bool (holds task (task_at (facts tasks) task).nest from)) [
      | inl here ↦ or_left _ _ (holds_passes task (task_at (facts tasks) task) from here)
      | inr other ↦ rw other (reaches_itself tasks task from holder (rw other at led))
    ]

-- two tasks were made under the same, and the masters that they hold are the same and stand in the same order
pub record Alike (task : ℕ) (old new : Facts) : Type 0 where
  pub master : new.master ≡ old.master
  pub holding : (from : Master) → holds task new.nest from ≡ holds task old.nest from
  pub enclosing : (from to : Master) → holds task old.nest from ≡ true → encloses task new.nest from to ≡ encloses task old.nest from to

pub alike_same : (task : ℕ) (old new : Facts) → new ≡ old → Alike task old new
alike_same task old new same =
    record {
      master = ap (λ (f : Facts). f.master) same;
      holding = λ from. ap (λ (f : Facts). holds task f.nest from) same;
      enclosing = λ from to held. ap (λ (f : Facts). encloses task f.nest from to) same;
    }

same_passes : (task : ℕ) (old new : Facts) (from : Option Master) (to : Master) → Alike task old new → passes task new from to ≡ passes task old from to
same_passes task old new None to alike = refl
same_passes task old new (Some from) to alike =
    elim (cases_Bool (holds task old.nest from)) [
      | inl here ↦ rw (alike.holding from, here) (alike.enclosing from to here)
      | inr other ↦ rw (alike.holding from, other) refl
    ]

same_beyond : (task : ℕ) (old new : Facts) (from : Option Master) → Alike task old new → beyond task new from ≡ beyond task old from
same_beyond task old new None alike = refl
same_beyond task old new (Some from) alike = rw (alike.holding from, alike.master) refl

-- ways stay where all tasks are alike
pub reaches_alike : (old new : List Facts) (many : ℕ) (from : Option Master) (to : Master)
    → ((task : ℕ) → task < many → Alike task (task_at old task) (task_at new task)) → reaches new many from to ≡ reaches old many from to
unfolding reaches
reaches_alike old new zero from to alike = refl
reaches_alike old new (suc task) from to alike =
    let here = alike task (omega arith) in
    rw (same_passes task (task_at old task) (task_at new task) from to here, same_beyond task (task_at old task) (task_at new task) from here)
    (ap (λ b. passes task (task_at old task) from to || b)
    (reaches_alike old new task (beyond task (task_at old task) from) to (λ other low. alike other (omega arith))))

pub led_alike : (old new : List Task) (many : ℕ) (from : Option Master) (holder : ℕ)
    → ((task : ℕ) → task < many → Alike task (task_at (facts old) task) (task_at (facts new) task))
    → ((task : ℕ) → task < many → (record_at new task).holder ≡ (record_at old task).holder) → is_led new many from holder ≡ is_led old many from holder
unfolding is_led
led_alike old new zero None holder alike holders = refl
led_alike old new zero (Some from) holder alike holders = refl
led_alike old new (suc task) None holder alike holders = refl
led_alike old new (suc task) (Some from) holder alike holders =
    let here = alike task (omega arith) in
    let before = λ (next : Option Master) (by : ℕ). led_alike old new task next by (λ other low. alike other (omega arith))
    (λ other low. holders other (omega arith)) in
    rw (
      here.holding from,
      here.master,
      holders task (omega arith),
      before (task_at (facts old) task).master (record_at old task).holder,
      before (Some from)
          holder,
    ) refl

-- the same but for one block, which is held before or after alone
pub record AlikeBut (block task : ℕ) (old new : Facts) : Type 0 where
  pub master : new.master ≡ old.master
  pub holding : (from : Master) → from ≢ Block block → holds task new.nest from ≡ holds task old.nest from
  pub enclosing : (from to : Master) → from ≢ Block block → holds task old.nest from ≡ true → encloses task new.nest from to ≡ encloses task old.nest from to

-- a way that is led and doesn't pass the block stays
pub led_but : (block : ℕ) (old new : List Task) (many : ℕ) (from : Option Master) (holder : ℕ)
    → ((task : ℕ) → task < many → AlikeBut block task (task_at (facts old) task) (task_at (facts new) task))
    → ((task : ℕ) → task < many → (record_at new task).holder ≡ (record_at old task).holder) → is_led old many from holder ≡ true
    → reaches (facts old) many from (Block block) ≡ false → ((to : Master) → reaches (facts new) many from to ≡ reaches (facts old) many from to)
    × (is_led new many from holder ≡ true)
unfolding reaches is_led
led_but block old new zero None holder alike holders led apart = (λ to. refl, refl)
led_but block old new zero (Some from) holder alike holders led apart = absurd (cc)
led_but block old new (suc task) None holder alike holders led apart = (λ to. reaches_none (facts new) task to ∙ sym (reaches_none (facts old) task to), refl)
led_but block old new (suc task) (Some from) holder alike holders led apart =
    let here = alike task (omega arith) in
    let below : (at : ℕ) → at < task → at < suc task = λ at low. omega arith in
    let kept = holders task (omega arith) in
    let other : from ≢ Block block = λ same. both_ways (reaches (facts old) (suc task) (Some from) (Block block)) apart
    (ap (reaches (facts old) (suc task) (Some from)) (sym same) ∙ reaches_itself old (suc task) from holder led) in
    elim (cases_Bool (holds task (task_at (facts old) task).nest from)) [
      | inl held ↦
          let still : holds task (task_at (facts new) task).nest from ≡ true = here.holding from other ∙ held in
          let goes = and_parts _ _ (rw held at led) in
          let later = led_but block old new task (task_at (facts old) task).master (record_at old task).holder (λ at low. alike at (below at low))
          (λ at low. holders at (below at low)) goes.1 (or_parts _ _ (rw held at apart)).1 in (
            λ to. rw (still, held, here.master) (both (here.enclosing from to other held) (later.0 to)),
            rw (still, here.master, kept) (and_from _ _ goes.0 later.1),
          )
      | inr free ↦
          let still : holds task (task_at (facts new) task).nest from ≡ false = here.holding from other ∙ free in
          let later = led_but block old new task (Some from) holder (λ at low. alike at (below at low)) (λ at low. holders at (below at low)) (rw free at led)
          (rw free at apart) in
          (λ to. rw (still, free) (later.0 to), rw still later.1)
    ]
  where
    both : {a b c d : Bool} → a ≡ c → b ≡ d → (a || b) ≡ (c || d)
    both {a} {b} {c} {d} left right = rw (left, right) refl

-- a way that is led goes by the task that is to hold its master
pub record Leads (tasks : List Task) (many : ℕ) (from : Master) (holder : ℕ) : Type 0 where
  pub low : holder < many
  pub held : holds holder (task_at (facts tasks) holder).nest from ≡ true
  pub on : IsLed tasks holder
  pub way : (to : Master) → reaches (facts tasks) many (Some from) to
      ≡ (encloses holder (task_at (facts tasks) holder).nest from to || depends_on (facts tasks) holder to)

pub leads : (tasks : List Task) (many : ℕ) (from : Master) (holder : ℕ) → is_led tasks many (Some from) holder ≡ true → Leads tasks many from holder
unfolding reaches is_led
leads tasks zero from holder led = absurd (cc)
leads tasks (suc task) from holder led =
    elim (cases_Bool (holds task (task_at (facts tasks) task).nest from)) [
      | inl held ↦
          let goes = and_parts _ _ (rw held at led) in
          let same : holder ≡ task = eqb-true holder task goes.0 in
          rw same (record { low = omega arith; held = held; on = goes.1; way = λ to. rw held refl })
      | inr free ↦
          let rest = leads tasks task from holder (rw free at led) in
          record { low = omega (arith, rest.low); held = rest.held; on = rest.on; way = λ to. rw free (rest.way to) }
    ]

-- a way is led from a master that a task holds, and none made later, if it is led from that task
pub led_from : (tasks : List Task) (many holder : ℕ) (from : Master) → holder < many
    → ((task : ℕ) → holder < task → task < many → holds task (task_at (facts tasks) task).nest from ≡ false)
    → holds holder (task_at (facts tasks) holder).nest from ≡ true → IsLed tasks holder → is_led tasks many (Some from) holder ≡ true
unfolding is_led
led_from tasks zero holder from low free held led = absurd (omega arith)
led_from tasks (suc task) holder from low free held led =
    elim (cases_eq holder task) [
      | inl same ↦ rw (sym same, held) (and_from _ _ (eq-eqb holder holder refl) led)
      | inr differs ↦
          let other = free task (omega arith) (omega arith) in
          rw other (led_from tasks task holder from (omega arith) (λ at above below. free at above (omega arith)) held led)
    ]
