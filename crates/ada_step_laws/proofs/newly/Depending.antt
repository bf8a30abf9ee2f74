-- What a row asks of dependents, and which masters have any.
use Rattle.std.proofs.Common.{◌≡◌, ℕ, ◌<◌, ◌≤◌, Bool, true, false, not, ◌&&◌, ◌||◌, List, [], ◌∷◌, sym, ◌∙◌, arith, inl, inr, eqb}
use Rattle.std.specs.List.{list_any}
use Rattle.std.proofs.lemmas.Bool.{and_parts, or_cases, or_parts, not-true, not-false, both_ways, true≢false, false≢true, ltb-true}
use Rattle.ada_events.specs.declared.event.Event.{Event}
use Rattle.ada_events.specs.declared.names.TaskNo.{TaskNo}
use Rattle.ada_events.specs.declared.names.Master.{Master}
use Rattle.ada_events.specs.declared.names.Master.TheVariants.{Body}
use Rattle.ada_events.specs.Search.{all_below}
use Rattle.ada_events.specs.Says.{aborted_in}
use Rattle.ada_events.specs.Tasks.{task_count, has_task}
use Rattle.ada_events.specs.Masters.{depends_on}
use Rattle.ada_events.specs.Phases.{is_terminated, is_abnormal}
use Rattle.ada_events.specs.Nests.{frame}
use Rattle.ada_events.specs.Termination.{all_terminated, is_complete, is_ready_to_quit}
use Rattle.ada_events.specs.Forced.{is_to_quit}
use Rattle.ada_events.specs.Lawful.{IsLawful}
use Rattle.ada_laws.specs.Masters.{IsKnown}
use Rattle.ada_laws.proofs.searching.Searching.{all_below-fails, all_below-holds}
use Rattle.ada_laws.proofs.searching.Growing.{task_count-more}
use Rattle.ada_laws.proofs.within.Reaching.{creation_asked, frame_known, reaches_known}
use Rattle.ada_laws.proofs.within.Depending.{depends_on-cases, depends_reaches, depends_exists}
use Rattle.ada_laws.proofs.forced.Stepping.{middle_false}

-- a live dependent of a master
pub record IsLiveDependent (journal : List Event) (m : Master) : Type 0 where
  pub task : ℕ
  pub depends : depends_on journal task m ≡ true
  pub live : is_terminated journal task ≡ false

last_part : (a b c : Bool) → (a && not b && c) ≡ true → c ≡ true
last_part true false c all = all
last_part true true c all = absurd (false≢true all)
last_part false b c all = absurd (false≢true all)

some_live : (journal : List Event) (m : Master) → all_terminated journal m ≡ false → IsLiveDependent journal m
unfolding all_terminated
some_live journal m fails =
    let (u, below, unpassed) = all_below-fails (λ u. not (depends_on journal u m) || is_terminated journal u) (task_count journal) fails in
    let both = or_parts (not (depends_on journal u m)) (is_terminated journal u) unpassed in
    record { task = u; depends = not-false (depends_on journal u m) both.0; live = both.1 }

-- a master that quits has a live dependent, and each live one is ready
pub quits_live : (journal : List Event) (m : Master) → is_to_quit journal m ≡ true → IsLiveDependent journal m
unfolding is_to_quit
quits_live journal m quits =
    let ready = all_below (λ u. not (depends_on journal u m) || is_terminated journal u || is_ready_to_quit journal u) (task_count journal) in
    some_live journal m (middle_false (is_complete journal m) (all_terminated journal m) ready quits)

pub quits_ready : (journal : List Event) (m : Master) (u : ℕ) → is_to_quit journal m ≡ true → depends_on journal u m ≡ true → is_terminated journal u ≡ false
    → is_ready_to_quit journal u ≡ true
unfolding is_to_quit
quits_ready journal m u quits depends live =
    let ready = all_below (λ u. not (depends_on journal u m) || is_terminated journal u || is_ready_to_quit journal u) (task_count journal) in
    let all = last_part (is_complete journal m) (all_terminated journal m) ready quits in
    let here =
    all_below-holds (λ u. not (depends_on journal u m) || is_terminated journal u || is_ready_to_quit journal u) (task_count journal) u all
    (depends_exists journal u m depends) in
    elim (or_cases (not (depends_on journal u m) || is_terminated journal u) (is_ready_to_quit journal u) here) [
      | inr passes ↦ passes
      | inl other ↦
          elim (or_cases (not (depends_on journal u m)) (is_terminated journal u) other) [
            | inl alone ↦ absurd (true≢false (sym depends ∙ not-true (depends_on journal u m) alone))
            | inr ended ↦ absurd (both_ways (is_terminated journal u) live ended)
          ]
    ]

-- what a task depends on was known before the event
pub depended_known : (event : Event) (before : List Event) (u : ℕ) (m : Master) → IsLawful (event ∷ before) → depends_on (event ∷ before) u m ≡ true
    → IsKnown before m
depended_known event before u m lawful depends =
    elim (depends_on-cases event before u m depends) [
      | inl made ↦
          let by = creation_asked event before made.creation lawful.1 made.says in
          let known =
          reaches_known before lawful.0 (frame before made.creation.by) made.creation.master (frame_known before made.creation.by by.asked.exists) by.reached in
          reaches_known before lawful.0 made.creation.master m known made.reached
      | inr older ↦
          reaches_known before lawful.0 (Body (record { 0 = u })) m (depends_exists before u m older) (depends_reaches before (record { 0 = u }) m older)
    ]

-- an abnormal task exists
pub abnormal_exists : (journal : List Event) (task : ℕ) → is_abnormal journal task ≡ true → task < task_count journal
unfolding is_abnormal
abnormal_exists [] task abnormal = absurd (false≢true abnormal)
abnormal_exists (event ∷ before) task abnormal =
    let more : task_count before ≤ task_count (event ∷ before) = task_count-more event before in
    let listed = list_any (λ (t : TaskNo). eqb t.0 task || depends_on before task (Body t)) (aborted_in event) in
    elim (or_cases (listed && has_task before task && not (is_terminated before task)) (is_abnormal before task) abnormal) [
      | inl now ↦
          let below : task < task_count before =
          ltb-true task (task_count before)
          (and_parts listed (has_task before task) (and_parts (listed && has_task before task) (not (is_terminated before task)) now).0).1 in
          omega arith
      | inr was ↦
          let below : task < task_count before = abnormal_exists before task was in
          omega arith
    ]
