-- Whom an abort hits, from task to task outwards.
use Rattle.std.proofs.Common.{◌≡◌, ℕ, zero, suc, ◌<◌, ◌≤◌, Bool, true, false, ◌||◌, Option, Some, None, List, [], ◌∷◌, ◌++◌, length, take, get_or}
use Rattle.std.proofs.Common.{refl, sym, ap, ◌∙◌, subst, arith, inl, inr}
use Rattle.std.specs.Prelude.{replicate}
use Rattle.std.proofs.lemmas.Bool.{cases_lt}
use Rattle.std.proofs.lemmas.List.{get_or_append_left, length-append, length-replicate, take-replicate}
use Rattle.std.proofs.Math.Seq.{get_or-append_seam}
use Rattle.std.specs.Prelude.{◌==◌}
use Rattle.std.specs.List.{list_any}
use Rattle.std.specs.Option.{option_map, option_and_then}
use Rattle.ada_events.specs.declared.event.Event.{Event}
use Rattle.ada_events.specs.declared.names.Master.{Master}
use Rattle.ada_events.specs.declared.names.Master.TheVariants.{Body, Block}
use Rattle.ada_events.specs.declared.names.TaskNo.{TaskNo}
use Rattle.ada_events.specs.Says.{Creation, Opening, opening_in, opening_at}
use Rattle.ada_events.specs.Tasks.{task_count, creation_of}
use Rattle.ada_events.specs.Masters.{depends_on}
use Rattle.ada_events.specs.Phases.{is_terminated, lists_task}
use Rattle.ada_events.specs.Nests.{nest}
use Rattle.ada_events.specs.Lawful.{IsLawful}
use Rattle.ada_laws.proofs.searching.Searching.{option_map-some}
use Rattle.ada_laws.proofs.within.Parents.{tasks_depend_by_parents}
use Rattle.ada_records.specs.Records.{is_hit}
use Rattle.ada_step_laws.specs.Holders.{IsHeld}
use Rattle.ada_events.specs.Holders.{holds}
use Rattle.ada_step_laws.proofs.holding.Enclosing.{reaches_held}
use Rattle.ada_step_laws.proofs.holding.LiveHolders.{masters_are_held}
use Rattle.ada_step_laws.proofs.changing.QueueChanges.{or_swap}
use Rattle.ada_laws.proofs.within.Owners.{block_in_nest}
use Rattle.ada_view.specs.internal.Hitting.{TellsOfLive, hits_bodies}

any_same : (one other : TaskNo → Bool) (tasks : List TaskNo) → ((t : TaskNo) → one t ≡ other t) → list_any one tasks ≡ list_any other tasks
any_same one other [] same = refl
any_same one other (t ∷ rest) same = rw (same t, any_same one other rest same) refl

any_or : (one other : TaskNo → Bool) (tasks : List TaskNo) → list_any (λ (t : TaskNo). one t || other t) tasks ≡ (list_any one tasks || list_any other tasks)
any_or one other [] = refl
any_or one other (t ∷ rest) =
    ap (λ (b : Bool). (one t || other t) || b) (any_or one other rest) ∙ or_swap (one t) (other t) (list_any one rest) (list_any other rest)

any_none : (tasks : List TaskNo) → list_any (λ (t : TaskNo). false) tasks ≡ false
any_none [] = refl
any_none (t ∷ rest) = any_none rest

hit_parts : (journal : List Event) (tasks : List TaskNo) (task : ℕ) → is_hit journal tasks task ≡ (lists_task task tasks || hits_bodies journal tasks task)
hit_parts journal tasks task = any_or (λ (t : TaskNo). t.0 == task) (λ (t : TaskNo). depends_on journal task (Body t)) tasks

-- who is named by an abort is hit, and else who depends on the body of one that is named
pub named_hit : (journal : List Event) (tasks : List TaskNo) (task : ℕ) → lists_task task tasks ≡ true → is_hit journal tasks task ≡ true
named_hit journal tasks task named = hit_parts journal tasks task ∙ ap (λ (b : Bool). b || hits_bodies journal tasks task) named

pub unnamed_hit : (journal : List Event) (tasks : List TaskNo) (task : ℕ) → lists_task task tasks ≡ false
    → is_hit journal tasks task ≡ hits_bodies journal tasks task
unnamed_hit journal tasks task unnamed = hit_parts journal tasks task ∙ ap (λ (b : Bool). b || hits_bodies journal tasks task) unnamed

-- who was made under no master depends on no body
pub none_above : (journal : List Event) (tasks : List TaskNo) (task : ℕ) → IsLawful journal
    → option_map (λ (c : Creation). c.master) (creation_of journal task) ≡ None → hits_bodies journal tasks task ≡ false
none_above journal tasks task lawful none =
    any_same (λ (t : TaskNo). depends_on journal task (Body t)) (λ (t : TaskNo). false) tasks
    (λ t. tasks_depend_by_parents journal (record { 0 = task }) (Body t) lawful ∙ rw none refl)
    ∙ any_none tasks

-- a task depends on the body of one that an abort names where the abort hits the task that holds what it was made under
hit_outwards : (journal : List Event) (tasks : List TaskNo) (task : ℕ) (c : Creation) → IsLawful journal → task < task_count journal
    → creation_of journal task ≡ Some c → (held : IsHeld journal task c.master) → hits_bodies journal tasks task ≡ is_hit journal tasks held.holder
hit_outwards journal tasks task c lawful known made held =
    let below : held.holder < task_count journal = omega (arith, held.before, known) in
    any_same (λ (t : TaskNo). depends_on journal task (Body t)) (λ (t : TaskNo). t.0 == held.holder || depends_on journal held.holder (Body t)) tasks
    (λ t. tasks_depend_by_parents journal (record { 0 = task }) (Body t) lawful ∙ rw made refl
    ∙ reaches_held journal held.holder c.master (Body t) lawful below held.held)

-- the flag of whoever holds what a task was made under says whether the task depends on the body of one that an abort names
pub holder_tells : (journal : List Event) (tasks : List TaskNo) (flags : List Bool) (task : ℕ) (m : Master) (flag : Bool) → IsLawful journal
    → task < task_count journal → is_terminated journal task ≡ false → option_map (λ (c : Creation). c.master) (creation_of journal task) ≡ Some m
    → ((holder : ℕ) → holds holder (nest journal holder) m ≡ true → flag ≡ get_or flags holder false) → length flags ≡ task
    → TellsOfLive journal flags (is_hit journal tasks) → flag ≡ hits_bodies journal tasks task
holder_tells journal tasks flags task m flag lawful known live under by many told =
    let (c, made, same) = option_map-some (λ (c : Creation). c.master) (creation_of journal task) m under in
    let held = masters_are_held journal task c lawful made live in
    by held.holder (subst (λ (x : Master). holds held.holder (nest journal held.holder) x ≡ true) same held.held)
    ∙ told held.holder (omega (arith, held.before, many)) held.live
    ∙ sym (hit_outwards journal tasks task c lawful known made held)

-- the task that is within a block opened it
pub opened_by : (journal : List Event) (task p : ℕ) → holds task (nest journal task) (Block p) ≡ true
    → option_map (λ (o : Opening). o.by) (opening_at journal p) ≡ Some task
opened_by journal task p within =
    let own = (block_in_nest journal task p within).0 in
    ap (option_map (λ (o : Opening). o.by)) (ap (option_and_then opening_in) own.stands ∙ own.says) ∙ ap Some own.by

-- one more flag
pub flags_more : (journal : List Event) (flags : List Bool) (test : ℕ → Bool) (many : ℕ) (flag : Bool) → length flags ≡ many → TellsOfLive journal flags test
    → (is_terminated journal many ≡ false → flag ≡ test many) → TellsOfLive journal (flags ++ flag ∷ []) test
flags_more journal flags test many flag long told says task below live =
    elim (cases_lt task (length flags)) [
      | inl old ↦ get_or_append_left flags (flag ∷ []) false task old ∙ told task old live
      | inr last ↦
          let at : task ≡ length flags = omega (arith, last, below, length-append flags (flag ∷ [])) in
          ap (λ n. get_or (flags ++ flag ∷ []) n false) at
          ∙ get_or-append_seam flags flag [] false
          ∙ says (subst (λ n. is_terminated journal n ≡ false) (at ∙ long) live)
          ∙ ap test (sym (at ∙ long))
    ]

none_flagged : (many task : ℕ) → get_or (replicate many false) task false ≡ false
none_flagged zero task = refl
none_flagged (suc many) zero = refl
none_flagged (suc many) (suc task) = none_flagged many task

-- who depends on no body of those that an abort names where it hits none of the tasks that were made before
spared_by : (journal : List Event) (tasks : List TaskNo) (task : ℕ) (m : Option Master) → IsLawful journal → task < task_count journal
    → is_terminated journal task ≡ false → TellsOfLive journal (replicate task false) (is_hit journal tasks)
    → option_map (λ (c : Creation). c.master) (creation_of journal task) ≡ m → hits_bodies journal tasks task ≡ false
spared_by journal tasks task None lawful known live told under = none_above journal tasks task lawful under
spared_by journal tasks task (Some m) lawful known live told under =
    sym (holder_tells journal tasks (replicate task false) task m false lawful known live under (λ holder held. sym (none_flagged task holder))
    (length-replicate task false) told)

-- before the first task that is named none is hit
spared_so_far : (journal : List Event) (tasks : List TaskNo) (first many : ℕ) → IsLawful journal → first ≤ task_count journal → many ≤ first
    → ((task : ℕ) → task < first → lists_task task tasks ≡ false) → TellsOfLive journal (replicate many false) (is_hit journal tasks)
spared_so_far journal tasks first zero lawful known few unnamed = λ task below live. absurd (omega (arith, below))
spared_so_far journal tasks first (suc many) lawful known few unnamed = λ task below live.
    let told = spared_so_far journal tasks first many lawful known (omega (arith, few)) unnamed in
    none_flagged (suc many) task
    ∙ elim (cases_lt task many) [
      | inl old ↦ sym (none_flagged many task) ∙ told task (omega (arith, old, length-replicate many false)) live
      | inr last ↦
          let at : task ≡ many = omega (arith, last, below, length-replicate (suc many) false) in
          sym (unnamed_hit journal tasks task (unnamed task (omega (arith, at, few)))
          ∙ spared_by journal tasks task (option_map (λ (c : Creation). c.master) (creation_of journal task)) lawful (omega (arith, at, few, known))
          live (subst (λ n. TellsOfLive journal (replicate n false) (is_hit journal tasks)) (sym at) told) refl)
    ]

pub none_before : (journal : List Event) (tasks : List TaskNo) (first task : ℕ) → IsLawful journal → first ≤ task_count journal
    → ((task : ℕ) → task < first → lists_task task tasks ≡ false) → task < first → is_terminated journal task ≡ false → is_hit journal tasks task ≡ false
none_before journal tasks first task lawful known unnamed below live =
    sym (spared_so_far journal tasks first first lawful known (omega arith) unnamed task (omega (arith, below, length-replicate first false)) live)
    ∙ none_flagged first task

-- so the flags begin with those of nobody
pub flags_begin : (journal : List Event) (tasks : List TaskNo) (first many : ℕ) (flags : List Bool) → IsLawful journal → first ≤ task_count journal
    → first ≤ many → ((task : ℕ) → task < first → lists_task task tasks ≡ false) → flags ≡ take first (replicate many false)
    → (length flags ≡ first) × TellsOfLive journal flags (is_hit journal tasks)
flags_begin journal tasks first many flags lawful known few unnamed are =
    let same : flags ≡ replicate first false = are ∙ take-replicate first many false few in (
      ap length same ∙ length-replicate first false,
      subst (λ fs. TellsOfLive journal fs (is_hit journal tasks)) (sym same)
          (spared_so_far journal tasks first first lawful known (omega arith) unnamed),
    )
