-- What the termination of all that depend on a master adds.
use Rattle.std.proofs.Common.{◌≡◌, ℕ, true, false, Some, List, [], ◌∷◌, sym, refl, ap, ◌∙◌, subst, inl, inr}
use Rattle.std.proofs.lemmas.Bool.{or_parts, or_right, both_ways}
use Rattle.std.proofs.lemmas.Option.{none-some, same_Some}
use Rattle.ada_events.specs.declared.event.Event.{Event}
use Rattle.ada_events.specs.declared.event.Event.TheVariants as event
use Rattle.ada_events.specs.declared.names.TaskNo.{TaskNo}
use Rattle.ada_events.specs.declared.names.Master.{Master}
use Rattle.ada_events.specs.declared.names.Master.TheVariants.{Body, Block}
use Rattle.ada_events.specs.Search.{event_at}
use Rattle.ada_events.specs.Says.{Call, call_in, wait_in, delay_in, start_in, closing_in, opening_in, released_in, completed_in, gone_in, quit_in, aborted_in}
use Rattle.ada_events.specs.Says.{elaborated_in, creation_in, moment_in, meeting_in}
use Rattle.ada_events.specs.Masters.{same_master, parent_in, reaches, depends_on}
use Rattle.ada_events.specs.Phases.{is_completed, is_terminated, has_ended}
use Rattle.ada_events.specs.Forced.{task_no, is_to_quit}
use Rattle.ada_events.specs.Nests.{frame}
use Rattle.ada_events.specs.Lawful.{IsLawful}
use Rattle.ada_laws.specs.Calls.{IsCallAt}
use Rattle.ada_laws.specs.Suspension.{IsSuspendedAt}
use Rattle.ada_laws.proofs.searching.Searching.{event_at-cases}
use Rattle.ada_laws.proofs.searching.Growing.{is_terminated-quit}
use Rattle.ada_laws.proofs.within.Framing.{IsBlockOf, frame_is}
use Rattle.ada_laws.proofs.within.Reaching.{reaches-same, reaches_up, reaches_trans, parent_in-opened, opening_asked}
use Rattle.ada_laws.proofs.within.Depending.{depends_on-cases, depends_reaches, depends_exists, depends_trans, reaches_from_body}
use Rattle.ada_laws.proofs.within.DependentLaws.{IsEnd, is_terminated-cases}
use Rattle.ada_laws.proofs.within.DependentLaws.IsEnd.{alone, together, earlier}
use Rattle.ada_laws.proofs.held.Suspending.{suspended_once}
use Rattle.ada_step_laws.specs.declared.row.Row.{Row}
use Rattle.ada_step_laws.proofs.changing.QueueChanges.{ends}
use Rattle.ada_step_laws.specs.Kinds.{IsUnstartedBy, OfQuit}
use Rattle.ada_step_laws.specs.Kinds.OfQuit.{ends as ends_each, abandons}
use Rattle.ada_step_laws.proofs.newly.StartedTasks.{made_within}
use Rattle.ada_step_laws.proofs.newly.Changing.{IsNewlyOver, newly_over}
use Rattle.ada_step_laws.proofs.newly.Completing.{IsNewlyAbandoned, IsBlockEnded}
use Rattle.ada_step_laws.proofs.newly.Completions.{one_owner, no_body}
use Rattle.ada_step_laws.proofs.newly.Depending.{quits_live, quits_ready}
use Rattle.ada_step_laws.proofs.newly.Refining.{Key}
use Rattle.ada_step_laws.proofs.newly.Releases.{only_calls, same_event}
use Rattle.ada_step_laws.proofs.newly.Unstarted.{quit_quits}
use Rattle.ada_step_laws.proofs.newly.Waiting.{at_wait, ready_parts}
use Rattle.ada_step_laws.proofs.newly.Endings.{OnlyEnds, IsEndOf, EndKey, end_key}
use Rattle.ada_step_laws.proofs.newly.Endings.EndKey.{each, leaves_alone, ends_owner, leaves_around, ends_caller}

-- all that depend on a master terminate
abbrev pub quits_all : Master → Event
quits_all m = event.Quit m

quits_only : (m : Master) → OnlyEnds (quits_all m)
unfolding completed_in aborted_in creation_in released_in meeting_in elaborated_in call_in wait_in delay_in start_in closing_in moment_in
quits_only m = record {
  completes = refl;
  aborts = refl;
  elaborates = refl;
  makes = refl;
  releases = refl;
  meeting = refl;
  silent = record { calls = refl; waits = refl; delays = refl; starts = refl; closes = refl; moment = refl };
}

-- the task terminates with the master's dependents
pub record IsQuitter (before : List Event) (m : Master) (u : ℕ) : Type 0 where
  pub depends : depends_on before u m ≡ true
  pub live : is_terminated before u ≡ false

quits_depends : (m : Master) (before : List Event) (u : ℕ) → ends (quits_all m) before u ≡ true → depends_on before u m ≡ true
unfolding completed_in gone_in quit_in
quits_depends m before u ended = ended

pub unended_live : (before : List Event) (u : ℕ) → has_ended before u ≡ false → is_terminated before u ≡ false
unfolding has_ended
unended_live before u live = (or_parts (is_completed before u) (is_terminated before u) live).1

quits_ended_by : (m : Master) (before : List Event) (u : ℕ) → is_terminated before u ≡ false → IsEnd (quits_all m) before u → depends_on before u m ≡ true
unfolding gone_in quit_in
quits_ended_by m before u was (alone says) = absurd (none-some u says)
quits_ended_by m before u was (together n says depends) = ap (depends_on before u) (same_Some m n says) ∙ depends
quits_ended_by m before u was (earlier now) = absurd (both_ways (is_terminated before u) was now)

quits_of : (m : Master) (before : List Event) → IsEndOf (quits_all m) before (IsQuitter before m)
quits_of m before = record {
  only = quits_only m;
  over = λ u over. record { depends = quits_depends m before u (newly_over (quits_all m) before u over); live = unended_live before u over.was };
  ended = λ u end. record { depends = quits_ended_by m before u end.was (is_terminated-cases (quits_all m) before u end.now); live = end.was };
}

-- a block reaches the body of the task that opened it
from_parent : (e : Event) (before : List Event) (task : TaskNo) (p : ℕ) → parent_in before e (Block p) ≡ frame before task.0
    → ((q : ℕ) → IsBlockOf before task.0 q → reaches before (Block q) (Body task) ≡ true) → reaches (e ∷ before) (Block p) (Body task) ≡ true
unfolding reaches
from_parent e before task p parent inner =
    or_right (same_master (Block p) (Body task)) (reaches before (parent_in before e (Block p)) (Body task))
    (rw parent (elim (frame_is before task.0) [
      | inl body ↦ rw body (reaches-same before (Body task))
      | inr block ↦ rw block.2 (inner block.0 block.1)
    ]))

block_reaches_owner : (journal : List Event) (task : TaskNo) (p : ℕ) → IsLawful journal → IsBlockOf journal task.0 p
    → reaches journal (Block p) (Body task) ≡ true
unfolding event_at
block_reaches_owner [] task p lawful block = absurd (none-some block.event block.stands)
block_reaches_owner (e ∷ before) task p lawful block =
    elim (event_at-cases e before p block.event block.stands) [
      | inl newest ↦
          let says : opening_in e ≡ Some block.opening = ap opening_in newest.1 ∙ block.says in
          let asked = opening_asked e before block.opening lawful.1 says in
          from_parent e before task p (parent_in-opened e before p block.opening says newest.0 ∙ (asked.within ∙ ap (frame before) block.by))
          (λ q inner. block_reaches_owner before task q lawful.0 inner)
      | inr older ↦
          let inner : IsBlockOf before task.0 p = record { event = block.event; opening = block.opening; stands = older; says = block.says; by = block.by } in
          reaches_up e before (Block p) (Body task) (record { event = inner.event; opening = inner.opening; stands = inner.stands; says = inner.says })
          (block_reaches_owner before task p lawful.0 inner)
    ]

-- a dependent of a block that a quitter opened quits too
depends_too : (before : List Event) (m : Master) (task u : TaskNo) (p : ℕ) → IsLawful before → depends_on before task.0 m ≡ true → IsBlockOf before task.0 p
    → depends_on before u.0 (Block p) ≡ true → depends_on before u.0 m ≡ true
depends_too before m task u p lawful depends block on_block =
    let known = depends_exists before u.0 (Block p) on_block in
    let reached =
    reaches_trans before lawful (Body u) (Block p) (Body task) known (depends_reaches before u (Block p) on_block)
    (block_reaches_owner before task p lawful block) in
    elim (reaches_from_body before u (Body task) reached) [
      | inl same ↦
          let one : task.0 ≡ u.0 = sym (ap (λ (t : TaskNo). t.0) (cc same)) in
          subst (λ (n : ℕ). depends_on before n m ≡ true) one depends
      | inr on_task ↦ depends_trans before u task m lawful on_task depends
    ]

pub live_depends : (m : Master) (before : List Event) (u : ℕ) (n : Master) → depends_on (quits_all m ∷ before) u n ≡ true → depends_on before u n ≡ true
unfolding creation_in
live_depends m before u n depends =
    elim (depends_on-cases (quits_all m) before u n depends) [
      | inl made_under ↦ absurd (none-some made_under.creation made_under.says)
      | inr older ↦ older
    ]

no_live : (m : Master) (before : List Event) (task : TaskNo) (p : ℕ) → IsLawful (quits_all m ∷ before) → depends_on before task.0 m ≡ true
    → IsBlockOf before task.0 p → is_to_quit (quits_all m ∷ before) (Block p) ≡ true → ⊥
unfolding quit_in
no_live m before task p lawful depends block quit =
    let live = quits_live (quits_all m ∷ before) (Block p) quit in
    let on_block = live_depends m before live.task (Block p) live.depends in
    let on_m = depends_too before m task (task_no live.task) p lawful.0 depends block on_block in
    both_ways (is_terminated (quits_all m ∷ before) live.task) live.live (is_terminated-quit (quits_all m) before live.task m refl on_m)

pub quitter_of : (m : Master) (before : List Event) (u : ℕ) → IsNewlyOver (quits_all m) before u → IsQuitter before m u
quitter_of m before u over = (quits_of m before).over u over

made_by_owner : (m : Master) (before : List Event) (p u : ℕ) (new : IsNewlyAbandoned (quits_all m) before u) (over : IsBlockEnded (quits_all m) before p)
    → IsLawful before → new.creation.under ≡ Block p → IsUnstartedBy before u over.task
made_by_owner m before p u new over lawful under =
    let by : new.creation.by ≡ over.task =
    elim ((made_within before u new.creation lawful new.made).within) [
      | inl body ↦ absurd (no_body (task_no new.creation.by) p (sym body ∙ under))
      | inr block ↦
          let one : block.0 ≡ p = cc (sym block.2 ∙ under) in
          one_owner before p new.creation.by over.task (subst (λ (n : ℕ). IsBlockOf before new.creation.by n) one block.1) over.block
    ] in
    record { creation = new.creation; made = new.made; by = by; never = new.never }

waits_not_calls : (m : Master) (before : List Event) (p u : ℕ) (call : Call) → IsLawful (quits_all m ∷ before) → IsQuitter before m u → IsSuspendedAt before u p
    → IsCallAt before call p → ⊥
unfolding quit_in
waits_not_calls m before p u call lawful quitter suspended at =
    let ready = ready_parts before u (quits_ready before m u (quit_quits (quits_all m) before m lawful.1 refl) quitter.depends quitter.live) in
    let waits = at_wait before u ready.waits ready.live in
    let same : waits.position ≡ p = suspended_once before u waits.position p lawful.0 waits.suspended suspended in
    let one = same_event before p waits.event at.event (ap (event_at before) (sym same) ∙ waits.stands) at.stands in
    none-some waits.wait (sym (only_calls at.event call at.says).waits ∙ (ap wait_in (sym one) ∙ waits.says))

quit_key : (m : Master) (before : List Event) (row : Row) (key : ℕ) → IsLawful (quits_all m ∷ before) → EndKey before (quits_all m) (IsQuitter before m) row key
    → OfQuit before m row key
quit_key m before row key lawful (each t same also quitter of) = ends_each t row key quitter.depends quitter.live of
quit_key m before row key lawful (leaves_alone t u end new left) =
    let quitter = (quits_of m before).ended t.0 end in
    abandons t u quitter.depends quitter.live left
quit_key m before row key lawful (ends_owner p over quit) =
    let quitter = quitter_of m before over.task (record { was = over.was; now = over.now }) in
    absurd (no_live m before (task_no over.task) p lawful quitter.depends over.block quit)
quit_key m before row key lawful (leaves_around p u new over under) =
    let quitter = quitter_of m before over.task (record { was = over.was; now = over.now }) in
    abandons (task_no over.task) u quitter.depends quitter.live (made_by_owner m before p u new over lawful.0 under)
quit_key m before row key lawful (ends_caller n p u call over suspended at) =
    absurd (waits_not_calls m before p u call lawful (quitter_of m before u over) suspended at)

pub quit_adds : (m : Master) (before : List Event) (row : Row) (key : ℕ) → IsLawful (quits_all m ∷ before) → Key (quits_all m) before row key
    → OfQuit before m row key
quit_adds m before row key lawful touched =
    quit_key m before row key lawful (end_key (quits_all m) before row key (IsQuitter before m) lawful (quits_of m before) touched)
