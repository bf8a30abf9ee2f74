-- What a step that a row gives behind an event says of the task or the master at its key.
use Rattle.std.proofs.Common.{◌≡◌, ℕ, ◌<◌, ◌==◌, Bool, true, false, not, ◌&&◌, ◌||◌, arith, Some, None, List, ◌∷◌, sym, refl, ap, ◌∙◌, ◌⊎◌, inl, inr}
use Rattle.std.proofs.lemmas.Bool.{and_parts, or_cases, or_left, or_right, not-true, not_from_false, and_from, true≢false, false_from_ne_true, eqb-true, ne_eqb}
use Rattle.ada_events.specs.declared.event.Event.{Event}
use Rattle.ada_events.specs.declared.event.Event.TheVariants.{Gone, Quit}
use Rattle.ada_events.specs.declared.names.TaskNo.{TaskNo}
use Rattle.ada_events.specs.declared.names.Master.{Master}
use Rattle.ada_events.specs.declared.names.Master.TheVariants.{Body, Block}
use Rattle.ada_events.specs.Search.{is_number}
use Rattle.ada_events.specs.Says.{Creation, completed_in}
use Rattle.ada_events.specs.Tasks.{creation_of}
use Rattle.ada_events.specs.Phases.{has_start, is_completed, is_terminated}
use Rattle.ada_events.specs.Termination.{is_complete, is_abandoned, all_terminated}
use Rattle.ada_events.specs.Forced.{task_no, is_to_go, is_to_quit}
use Rattle.ada_laws.proofs.within.Depending.{created_positive}
use Rattle.ada_laws.proofs.searching.Growing.{is_terminated-more, is_completed-same}
use Rattle.ada_laws.proofs.searching.Searching.{then_some-some, option_map_or-true}
use Rattle.ada_step_laws.specs.declared.row.Row.TheVariants.{Terminating, QuittingBody}
use Rattle.ada_step_laws.specs.Rows.{step_at}
use Rattle.ada_step_laws.specs.Kinds.{quitting_row, quitting_key}
use Rattle.ada_step_laws.proofs.newly.Refining.{task_step}
use Rattle.ada_triggers.specs.internal.Keys.{may_be_abandoned, may_go, may_quit}

-- the main program isn't abandoned
not_main : (journal : List Event) (t : ℕ) → is_abandoned journal t ≡ true → not (t == 0) ≡ true
unfolding is_abandoned
not_main journal t abandoned =
    let over : Creation → Bool = λ c. is_complete journal c.under || is_terminated journal c.by in
    let (c, made, is) = option_map_or-true over (creation_of journal t) (and_parts _ (not (has_start journal t)) abandoned).0 in
    let later : 0 < t = created_positive journal t c made in
    not_from_false (t == 0) (ne_eqb t 0 (λ main. omega (arith, later, main)))

-- who goes is completed, or was made and never started
goes_so : (journal : List Event) (t : ℕ) → is_to_go journal t ≡ true → may_go journal t ≡ true
unfolding is_to_go is_abandoned
goes_so journal t goes =
    let both = and_parts (not (is_terminated journal t)) _ goes in
    elim (or_cases (is_completed journal t && all_terminated journal (Body (task_no t))) (is_abandoned journal t) both.1) [
      | inl done ↦ or_left (is_completed journal t) _ (and_parts (is_completed journal t) (all_terminated journal (Body (task_no t))) done).0
      | inr abandoned ↦
          or_right (is_completed journal t) _
          (and_from (not (has_start journal t)) (not (t == 0)) (and_parts _ (not (has_start journal t)) abandoned).1 (not_main journal t abandoned))
    ]

unstarted : (event : Event) (before : List Event) (t : ℕ) → not (has_start (event ∷ before) t) ≡ true → not (has_start before t) ≡ true
unfolding has_start
unstarted event before t never =
    ap not (false_from_ne_true (has_start before t) (λ started.
    true≢false (sym (or_right _ (has_start before t) started) ∙ not-true (has_start (event ∷ before) t) never)))

pub goer : (event step : Event) (before : List Event) (t : ℕ) → completed_in event ≡ None → step_at (event ∷ before) Terminating t ≡ Some step
    → may_go before t ≡ true
goer event step before t none gives =
    let after = event ∷ before in
    let goes = (then_some-some (is_to_go after t) (Gone (task_no t)) step (task_step after Terminating t step refl gives)).0 in
    elim (or_cases (is_completed after t) (not (has_start after t) && not (t == 0)) (goes_so after t goes)) [
      | inl done ↦ or_left (is_completed before t) _ (sym (is_completed-same event before t none) ∙ done)
      | inr never ↦
          let both = and_parts (not (has_start after t)) (not (t == 0)) never in
          or_right (is_completed before t) _
          (and_from (not (has_start before t)) (not (t == 0)) (unstarted event before t both.0) both.1)
    ]

-- who goes isn't terminated before either
not_gone : (event step : Event) (before : List Event) (t : ℕ) → step_at (event ∷ before) Terminating t ≡ Some step → is_terminated before t ≡ false
unfolding is_to_go
not_gone event step before t gives =
    let after = event ∷ before in
    let goes = (then_some-some (is_to_go after t) (Gone (task_no t)) step (task_step after Terminating t step refl gives)).0 in
    let live = not-true (is_terminated after t) (and_parts (not (is_terminated after t)) _ goes).0 in
    false_from_ne_true (is_terminated before t) (λ ended. true≢false (sym (is_terminated-more event before t ended) ∙ live))

-- who goes and was never started may be abandoned
pub abandons_so : (event step : Event) (before : List Event) (t : ℕ) → has_start before t ≡ false → step_at (event ∷ before) Terminating t ≡ Some step
    → may_be_abandoned before t ≡ true
abandons_so event step before t never gives =
    and_from (not (has_start before t)) (not (is_terminated before t)) (not_from_false (has_start before t) never)
    (not_from_false (is_terminated before t) (not_gone event step before t gives))

-- a body whose dependents quit is that of a completed task
body_done : (journal : List Event) (t : TaskNo) → is_to_quit journal (Body t) ≡ true → is_completed journal t.0 ≡ true
unfolding is_to_quit is_complete
body_done journal t quits = (and_parts (is_completed journal t.0) _ (and_parts _ _ quits).0).0

pub quitter : (event step : Event) (before : List Event) (m : Master) → completed_in event ≡ None
    → step_at (event ∷ before) (quitting_row m) (quitting_key m) ≡ Some step → may_quit before m ≡ true
quitter event step before (Body t) none gives =
    let quits = (then_some-some (is_to_quit (event ∷ before) (Body (task_no t.0))) (Quit (Body (task_no t.0))) step
    (task_step (event ∷ before) QuittingBody t.0 step refl gives)).0 in
    sym (is_completed-same event before t.0 none) ∙ body_done (event ∷ before) t quits
quitter event step before (Block p) none gives = refl

-- where the event completes a task, the body may be that task's own
quitter_of_body : (event step : Event) (before : List Event) (task t : TaskNo) → completed_in event ≡ Some task.0
    → step_at (event ∷ before) QuittingBody t.0 ≡ Some step → (Body t ≡ Body task) ⊎ (is_completed before t.0 ≡ true)
unfolding is_completed
quitter_of_body event step before task t completes gives =
    let quits = (then_some-some (is_to_quit (event ∷ before) (Body (task_no t.0))) (Quit (Body (task_no t.0))) step
    (task_step (event ∷ before) QuittingBody t.0 step refl gives)).0 in
    elim (or_cases (is_number t.0 (completed_in event)) (is_completed before t.0) (body_done (event ∷ before) t quits)) [
      | inl own ↦ inl (ap (λ n. Body (record { 0 = n })) (eqb-true t.0 task.0 (ap (is_number t.0) (sym completes) ∙ own)))
      | inr was ↦ inr was
    ]

pub quitter_of : (event step : Event) (before : List Event) (task : TaskNo) (m : Master) → completed_in event ≡ Some task.0
    → step_at (event ∷ before) (quitting_row m) (quitting_key m) ≡ Some step → (m ≡ Body task) ⊎ (may_quit before m ≡ true)
quitter_of event step before task (Body t) completes gives = quitter_of_body event step before task t completes gives
quitter_of event step before task (Block p) completes gives = inr refl
