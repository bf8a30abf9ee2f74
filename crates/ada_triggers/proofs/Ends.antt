-- What the end of a task adds to an agenda.
use Rattle.std.proofs.Common.{◌≡◌, ℕ, true, false, not, List, Some, None, ◌∷◌, sym, refl, ap, ◌∙◌, subst, inl, inr}
use Rattle.std.specs.Option.{option_map}
use Rattle.std.proofs.lemmas.Bool.{true≢false, eq-eqb, false_from_ne_true, both_ways}
use Rattle.std.proofs.lemmas.Option.{none-some, same_Some}
use Rattle.ada_events.specs.declared.event.Event.{Event}
use Rattle.ada_events.specs.declared.event.Event.TheVariants.{Completed, Elaborated, Gone, Quit}
use Rattle.ada_events.specs.declared.names.TaskNo.{TaskNo}
use Rattle.ada_events.specs.declared.names.Master.{Master}
use Rattle.ada_events.specs.declared.names.Master.TheVariants.{Body, Block}
use Rattle.ada_events.specs.Forced.{task_no, is_to_quit, is_done_activating}
use Rattle.ada_events.specs.Says.{Creation, creation_in, gone_in, completed_in}
use Rattle.ada_events.specs.Tasks.{creation_of}
use Rattle.ada_events.specs.Masters.{depends_on}
use Rattle.ada_events.specs.Phases.{is_terminated}
use Rattle.ada_events.specs.Termination.{all_terminated}
use Rattle.ada_events.specs.Nests.{nest}
use Rattle.ada_events.specs.Lawful.{IsLawful}
use Rattle.ada_laws.specs.Suspension.{IsSuspendedAt}
use Rattle.ada_laws.proofs.within.Depending.{depends_on-cases, depends_exists, depends_reaches}
use Rattle.ada_laws.proofs.searching.Growing.{is_terminated-more}
use Rattle.ada_laws.proofs.searching.Searching.{then_some-some}
use Rattle.ada_laws.proofs.within.Reaching.{reaches_known}
use Rattle.ada_laws.proofs.within.DependentLaws.{going, all_terminated_at}
use Rattle.ada_step_laws.specs.Rows.{step_at}
use Rattle.ada_step_laws.specs.declared.row.Row.{Row}
use Rattle.ada_step_laws.specs.declared.row.Row.TheVariants.{Activating, Terminating, QuittingBody, QuittingBlock, Leaving}
use Rattle.ada_agenda.specs.Keeping.{has_key, Puts, KeepsUp}
use Rattle.ada_agenda.specs.internal.Keeping.{Both}
use Rattle.ada_step_laws.specs.Kinds.{quitting_row, quitting_key, OfElaboration, OfCompletion, OfTermination}
use Rattle.ada_step_laws.specs.Kinds.OfElaboration.{activates as task_up}
use Rattle.ada_step_laws.specs.Kinds.OfCompletion.{goes as task_goes, quits as body_quits, fails as call_fails, activates as start_ends}
use Rattle.ada_step_laws.specs.Kinds.OfCompletion.{abandons as task_abandons}
use Rattle.ada_step_laws.specs.Kinds.OfTermination.{fails as end_fails, activates as end_activates, goes as end_goes, quits as end_quits, leaves as end_leaves}
use Rattle.ada_step_laws.proofs.newly.StartedTasks.{created_exists}
use Rattle.ada_step_laws.proofs.newly.Depending.{quits_live}
use Rattle.ada_agenda.proofs.Noting.{grows_same, noted, noted_giving}
use Rattle.ada_step_laws.proofs.newly.Refining.{task_step, position_step, quits_block}
use Rattle.ada_step_laws.specs.Holders.{IsHeld}
use Rattle.ada_step_laws.proofs.holding.LiveHolders.{of_master}
use Rattle.ada_laws.proofs.within.Owners.{has_contained}
use Rattle.ada_view.proofs.Orphans.{gone_stays}
use Rattle.ada_triggers.specs.internal.Keys.{AsHeld, AsUncallable, AsDependent, AsActivation, AsCompletion}
use Rattle.ada_agenda.specs.Keeping.AsKey.{itself}
use Rattle.ada_triggers.specs.internal.Keys.AsHeld.{held}
use Rattle.ada_triggers.specs.internal.Keys.AsUnstarted.{goes}
use Rattle.ada_triggers.specs.internal.Keys.AsUncallable.{loses}
use Rattle.ada_agenda.specs.Keeping.When.{holds_so}
use Rattle.ada_triggers.specs.internal.Keys.AsHolder.{quits, goes as holder_goes, leaves}
use Rattle.ada_triggers.specs.internal.Keys.AsDependent.{through}
use Rattle.ada_triggers.specs.internal.Keys.AsActivation.{activates}
use Rattle.ada_triggers.proofs.Giving.{abandons_so, goer, quitter}

-- a master on which a live task depends is held
pub dependent_held : (before : List Event) (t : ℕ) (m : Master) → IsLawful before → is_terminated before t ≡ false → depends_on before t m ≡ true
    → IsHeld before t m
dependent_held before t m lawful live depends =
    of_master before t m lawful
    (reaches_known before lawful (Body (record { 0 = t })) m (depends_exists before t m depends) (depends_reaches before (record { 0 = t }) m depends))
    live depends

-- a start that names a task, at its maker
activation_key : (before : List Event) (new : List (List ℕ)) (task : TaskNo) (by : ℕ) (row : Row) (key : ℕ)
    → option_map (λ (c : Creation). c.by) (creation_of before task.0) ≡ Some by
    → ((row : Row) (key : ℕ) → AsHeld before Activating by row key → has_key new row key ≡ true) → AsActivation before task row key → has_key new row key ≡ true
activation_key before new task by row key made here (activates p active) =
    let same : active.creation.by ≡ by =
    same_Some active.creation.by by (sym (ap (option_map (λ (c : Creation). c.by)) active.made) ∙ made) in
    here Activating p (held active.stands.event p active.stands.stands (rw active.stands.says refl)
    (subst (λ n. IsSuspendedAt before n p) same active.suspended))

pub activation_put : (before : List Event) (old new : List (List ℕ)) (task : TaskNo) (by : ℕ)
    → option_map (λ (c : Creation). c.by) (creation_of before task.0) ≡ Some by
    → Puts old new (AsHeld before Activating by) → Puts old new (AsActivation before task)
activation_put before old new task by made puts =
    record { grows = puts.grows; here = λ row key of. activation_key before new task by row key made puts.here of }

no_activation_key : (before : List Event) (new : List (List ℕ)) (task : TaskNo) (row : Row) (key : ℕ)
    → option_map (λ (c : Creation). c.by) (creation_of before task.0) ≡ None → AsActivation before task row key → has_key new row key ≡ true
no_activation_key before new task row key none (activates p active) =
    absurd (none-some active.creation.by (sym none ∙ ap (option_map (λ (c : Creation). c.by)) active.made))

pub no_activation : (before : List Event) (old : List (List ℕ)) (task : TaskNo)
    → option_map (λ (c : Creation). c.by) (creation_of before task.0) ≡ None → Puts old old (AsActivation before task)
no_activation before old task none = record { grows = grows_same old; here = λ row key of. no_activation_key before old task row key none of }

-- no start waits for who is done
waits_no_more : (before : List Event) (new : List (List ℕ)) (task : TaskNo) (row : Row) (key : ℕ) → is_done_activating before task ≡ true
    → AsActivation before task row key → has_key new row key ≡ true
waits_no_more before new task row key done (activates p active) = absurd (both_ways (is_done_activating before task) active.undone done)

pub done_before : (before : List Event) (old : List (List ℕ)) (task : TaskNo) → is_done_activating before task ≡ true
    → Puts old old (AsActivation before task)
done_before before old task done = record { grows = grows_same old; here = λ row key of. waits_no_more before old task row key done of }

-- where dependents of a body quit behind an event that makes no task, some of them lived before it
depended_before : (event : Event) (before : List Event) (u : ℕ) (m : Master) → creation_in event ≡ None → depends_on (event ∷ before) u m ≡ true
    → depends_on before u m ≡ true
depended_before event before u m makes depends =
    elim (depends_on-cases event before u m depends) [
      | inl made ↦ absurd (none-some made.creation (sym makes ∙ made.says))
      | inr older ↦ older
    ]

quits_lived : (event : Event) (before : List Event) (m : Master) → creation_in event ≡ None → is_to_quit (event ∷ before) m ≡ true
    → all_terminated before m ≡ false
quits_lived event before m makes now =
    let live = quits_live (event ∷ before) m now in
    let depended = depended_before event before live.task m makes live.depends in
    false_from_ne_true (all_terminated before m) (λ all.
    true≢false (sym (is_terminated-more event before live.task (all_terminated_at before m live.task all depended)) ∙ live.live))

body_lived : (event step : Event) (before : List Event) (task : TaskNo) → creation_in event ≡ None → step_at (event ∷ before) QuittingBody task.0 ≡ Some step
    → all_terminated before (Body task) ≡ false
body_lived event step before task makes gives =
    quits_lived event before (Body (task_no task.0)) makes
    (then_some-some (is_to_quit (event ∷ before) (Body (task_no task.0))) (Quit (Body (task_no task.0))) step
    (task_step (event ∷ before) QuittingBody task.0 step refl gives)).0

pub block_lived : (event step : Event) (before : List Event) (block : ℕ) → creation_in event ≡ None
    → step_at (event ∷ before) QuittingBlock block ≡ Some step → all_terminated before (Block block) ≡ false
block_lived event step before block makes gives =
    quits_lived event before (Block block) makes (quits_block event step before block (position_step (event ∷ before) QuittingBlock block step refl gives))

pub completion_key : (event step : Event) (before : List Event) (task : TaskNo) (row : Row) (key : ℕ) → IsLawful before → creation_in event ≡ None
    → step_at (event ∷ before) row key ≡ Some step → OfCompletion before task row key → AsCompletion before task row key
completion_key event step before task row key lawful makes gives task_goes = inl (inl (inl (inl itself)))
completion_key event step before task row key lawful makes gives body_quits =
    inl (inl (inl (inr (holds_so (ap not (body_lived event step before task makes gives)) itself))))
completion_key event step before task row key lawful makes gives (call_fails p was of) = inl (inl (inr (loses p was of)))
completion_key event step before task row key lawful makes gives (start_ends p active) = inl (inr (activates p active))
completion_key event step before task row key lawful makes gives (task_abandons u of) =
    inr (record {
      task = u;
      among = created_exists before u of.creation of.made;
      of = goes of.creation of.made (abandons_so event step before u of.never gives);
    })

completes_alone : (task : TaskNo) → creation_in (Completed task) ≡ None
unfolding creation_in
completes_alone task = refl

pub completion_noted : (before : List Event) (old new : List (List ℕ)) (task : TaskNo) → Puts old new (AsCompletion before task)
    → KeepsUp before (Completed task) old new
completion_noted before old new task puts lawful agenda =
    noted_giving (Completed task) before old new (AsCompletion before task) lawful agenda puts (λ row key step added gives.
    completion_key (Completed task) step before task row key lawful.0 (completes_alone task) gives added)

fails_alone : (task : TaskNo) → creation_in (Elaborated task false) ≡ None
unfolding creation_in
fails_alone task = refl

pub failure_noted : (before : List Event) (old new : List (List ℕ)) (task : TaskNo) → Puts old new (AsCompletion before task)
    → KeepsUp before (Elaborated task false) old new
failure_noted before old new task puts lawful agenda =
    noted_giving (Elaborated task false) before old new (AsCompletion before task) lawful agenda puts (λ row key step added gives.
    completion_key (Elaborated task false) step before task row key lawful.0 (fails_alone task) gives added)

gone_completes : (task : TaskNo) → completed_in (Gone task) ≡ None
unfolding completed_in
gone_completes task = refl

-- who goes isn't terminated yet
gone_here : (task : TaskNo) → gone_in (Gone task) ≡ Some task.0
unfolding gone_in
gone_here task = refl

goer_live : (before : List Event) (task : TaskNo) → IsLawful (Gone task ∷ before) → is_terminated before task.0 ≡ false
goer_live before task lawful =
    false_from_ne_true (is_terminated before task.0) (λ ended.
    true≢false (sym (going (Gone task) before task.0 lawful.1 (gone_here task)) ∙ sym (gone_stays before task.0 ended)))

-- all that was put for a termination
abbrev pub TerminationKeys : List Event → TaskNo → Row → ℕ → Type 0
TerminationKeys before task =
    Both (Both (AsUncallable before task.0) (AsActivation before task)) (AsDependent before task.0)

termination_key : (event step : Event) (before : List Event) (task : TaskNo) (row : Row) (key : ℕ) → IsLawful before → completed_in event ≡ None
    → is_terminated before task.0 ≡ false → step_at (event ∷ before) row key ≡ Some step → OfTermination before task row key
    → TerminationKeys before task row key
termination_key event step before task row key lawful none live gives (end_fails p was of) = inl (inl (loses p was of))
termination_key event step before task row key lawful none live gives (end_activates p active) = inl (inr (activates p active))
termination_key event step before task row key lawful none live gives (end_goes t depends) =
    inr (through t.0 (Body t) Terminating t.0 live depends (eq-eqb t.0 t.0 refl) (holder_goes (goer event step before t.0 none gives)))
termination_key event step before task row key lawful none live gives (end_quits m depends) =
    let by = dependent_held before task.0 m lawful live depends in
    inr (through by.holder m (quitting_row m) (quitting_key m) live depends by.held (quits m by.held (quitter event step before m none gives)))
termination_key event step before task row key lawful none live gives (end_leaves block p depends leaving) =
    let (k, below, is) = leaving.within in
    inr (through leaving.closing.by (Block block) Leaving p live depends (has_contained (nest before leaving.closing.by) block k below is)
    (leaves leaving.stands.event p leaving.stands.stands (rw leaving.stands.says refl) leaving.suspended))

pub termination_noted : (before : List Event) (old new : List (List ℕ)) (task : TaskNo) → Puts old new (TerminationKeys before task)
    → KeepsUp before (Gone task) old new
termination_noted before old new task puts lawful agenda =
    noted_giving (Gone task) before old new (TerminationKeys before task) lawful agenda puts (λ row key step added gives.
    termination_key (Gone task) step before task row key lawful.0 (gone_completes task) (goer_live before task lawful) gives added)

-- the end of an activation without an exception
up_key : (before : List Event) (task : TaskNo) (row : Row) (key : ℕ) → OfElaboration before task row key → AsActivation before task row key
up_key before task row key (task_up p active) = activates p active

pub up_noted : (before : List Event) (old new : List (List ℕ)) (task : TaskNo) → Puts old new (AsActivation before task)
    → KeepsUp before (Elaborated task true) old new
up_noted before old new task puts lawful agenda =
    noted (Elaborated task true) before old new (AsActivation before task) lawful agenda puts (up_key before task)
