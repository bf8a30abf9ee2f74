-- Agendas that are kept up with their journal, by kind of event.
use Rattle.std.proofs.Common.{◌≡◌, ℕ, ◌+◌, ◌<◌, ◌≤◌, Bool, true, not, List, Some, None, ◌∷◌, length, sym, refl, ap, subst, ◌∙◌, arith, inl, inr}
use Rattle.std.proofs.lemmas.Bool.{true≢false, or_cases, and_parts, and_from, ltb-true, not-true}
use Rattle.ada_events.specs.declared.event.Event.{Event}
use Rattle.ada_events.specs.declared.event.Event.TheVariants.{Closed, Aborted}
use Rattle.ada_events.specs.declared.limits.TheConstants.{MOST_TASKS}
use Rattle.ada_events.specs.declared.names.TaskNo.{TaskNo}
use Rattle.ada_events.specs.declared.names.Master.TheVariants.{Block}
use Rattle.ada_events.specs.Says.{Closing, aborted_in, creation_in}
use Rattle.ada_events.specs.Tasks.{task_count}
use Rattle.ada_events.specs.Tasks.{has_task}
use Rattle.ada_events.specs.Phases.{is_abnormal, is_terminated}
use Rattle.ada_events.specs.Termination.{all_terminated}
use Rattle.ada_events.specs.Lawful.{IsLawful}
use Rattle.ada_laws.proofs.queues.CallLaws.{open_calls_suspend}
use Rattle.ada_laws.proofs.asking.LimitLaws.{tasks_are_few}
use Rattle.ada_laws.proofs.held.Suspending.{suspended_exists}
use Rattle.ada_step_laws.specs.Rows.{step_at}
use Rattle.ada_step_laws.specs.declared.row.Row.{Row}
use Rattle.ada_step_laws.specs.declared.row.Row.TheVariants.{Failing, QuittingBlock, Leaving}
use Rattle.ada_agenda.specs.declared.numbers.TheConstants.{MOST_KEYS}
use Rattle.ada_step_laws.specs.Additions.{adds_nothing}
use Rattle.ada_agenda.specs.Keeping.{has_key, IsAgendaOf, Puts, AsKey, When, KeepsUp}
use Rattle.ada_agenda.specs.internal.Keeping.{Both}
use Rattle.ada_step_laws.specs.Kinds.{itself as own, IsOpenCallTo, IsHit, OfClose, OfAbort}
use Rattle.ada_step_laws.specs.Kinds.OfClose.{leaves as close_leaves, quits as close_quits, abandons as close_abandons}
use Rattle.ada_step_laws.specs.Kinds.OfAbort.{halts as abort_halts, fails as abort_fails}
use Rattle.ada_step_laws.proofs.newly.StartedTasks.{created_exists}
use Rattle.ada_step_laws.proofs.newly.Adding.{agendas_stay}
use Rattle.ada_agenda.proofs.Noting.{noted_giving, own_is}
use Rattle.ada_step_laws.proofs.newly.Places.{closing_open}
use Rattle.ada_step_laws.proofs.changing.NestKinds.{closed_says}
use Rattle.ada_records.specs.Records.{ListsLive, is_hit}
use Rattle.ada_laws.proofs.within.Owners.{nest_has_block}
use Rattle.ada_view.specs.Flags.{AreNamed}
use Rattle.ada_view.specs.Views.{IsHeldBySome}
use Rattle.ada_view.proofs.Blocks.{opener_exists}
use Rattle.ada_triggers.specs.internal.Keys.{OfFirst, AsHit, AsUnstarted, is_flagged, may_halt}
use Rattle.ada_agenda.specs.Keeping.When.{holds_so}
use Rattle.ada_agenda.specs.Keeping.AsKey.{itself}
use Rattle.ada_triggers.specs.internal.Keys.AsCaller.{fails}
use Rattle.ada_triggers.specs.internal.Keys.AsUnstarted.{goes}
use Rattle.ada_triggers.proofs.Ends.{block_lived}
use Rattle.ada_triggers.proofs.Giving.{abandons_so}
use Rattle.ada_triggers.proofs.Halting.{haltable}
use Rattle.ada_triggers.proofs.Holding.{block_fits}

pub nothing_noted : (event : Event) (before : List Event) (old : List (List ℕ)) → IsLawful (event ∷ before) → IsAgendaOf old before
    → adds_nothing event ≡ true → IsAgendaOf old (event ∷ before)
nothing_noted event before old lawful agenda nothing =
    record { covers = agendas_stay event before (has_key old) lawful agenda.covers nothing }

pub closed_fits : (before : List Event) (by : TaskNo) (block : ℕ) → IsLawful (Closed by block ∷ before) → block < MOST_KEYS
closed_fits before by block lawful =
    let closing : Closing = record { by = by.0; block = block } in
    block_fits before by.0 block lawful.0 (closing_open (Closed by block) before closing lawful.1 (closed_says by block)).block

-- who closes a block is within it
pub close_held : (before : List Event) (by : TaskNo) (block : ℕ) → IsLawful (Closed by block ∷ before) → IsHeldBySome before (Block block)
close_held before by block lawful =
    let closing : Closing = record { by = by.0; block = block } in
    let opened = closing_open (Closed by block) before closing lawful.1 (closed_says by block) in
    let own = opened.block in
    record {
      task = by.0;
      known = subst (λ t. t < task_count before) own.by (opener_exists before block own.event own.opening lawful.0 own.stands own.says);
      held = nest_has_block before by.0 block own opened.unleft;
    }

closes_alone : (by : TaskNo) (block : ℕ) → creation_in (Closed by block) ≡ None
unfolding creation_in
closes_alone by block = refl

-- all that was put for a close
abbrev pub CloseKeys : List Event → ℕ → ℕ → Row → ℕ → Type 0
CloseKeys before at block =
    let quits = When (not (all_terminated before (Block block))) (AsKey QuittingBlock block) in
    Both (Both (AsKey Leaving at) quits) (OfFirst (AsUnstarted before) (task_count before))

close_key : (by : TaskNo) (step : Event) (before : List Event) (at block : ℕ) (row : Row) (key : ℕ) → at ≡ own before
    → step_at (Closed by block ∷ before) row key ≡ Some step → OfClose before block row key → CloseKeys before at block row key
close_key by step before at block row key same gives close_leaves = inl (inl (rw same itself))
close_key by step before at block row key same gives close_quits =
    inl (inr (holds_so (ap not (block_lived (Closed by block) step before block (closes_alone by block) gives)) itself))
close_key by step before at block row key same gives (close_abandons u of) =
    inr (record {
      task = u;
      among = created_exists before u of.creation of.made;
      of = goes of.creation of.made (abandons_so (Closed by block) step before u of.never gives);
    })

pub close_noted : (before : List Event) (old new : List (List ℕ)) (by : TaskNo) (block at : ℕ) → at ≡ length before + 1
    → Puts old new (CloseKeys before at block) → KeepsUp before (Closed by block) old new
close_noted before old new by block at same puts lawful agenda =
    noted_giving (Closed by block) before old new (CloseKeys before at block) lawful agenda puts (λ row key step added gives.
    close_key by step before at block row key (own_is before at same) gives added)

-- an abort
module _ (before : List Event) (by : TaskNo) (tasks hit : List TaskNo) (flags : List Bool) (lawful : IsLawful before)
    (lists : ListsLive before hit (is_hit before tasks)) (named : AreNamed flags hit) where
  -- whom it makes abnormal is flagged
  hit_flagged : (u : ℕ) → IsHit (Aborted by tasks) before u → (u < task_count before) × (is_flagged flags u ≡ true)
  unfolding is_abnormal aborted_in
  hit_flagged u is =
      elim (or_cases _ (is_abnormal before u) is.now) [
        | inl newly ↦
            let both = and_parts _ (not (is_terminated before u)) newly in
            let hits = and_parts (is_hit before tasks u) (has_task before u) both.0 in
            let exists : u < task_count before = ltb-true u (task_count before) hits.1 in
            let few : task_count before ≤ MOST_TASKS = tasks_are_few before lawful in (
              exists,
              named u (omega (arith, exists, few)) ∙ lists.tells u exists (not-true (is_terminated before u) both.1) ∙ hits.0,
            )
        | inr was ↦ absurd (true≢false (sym was ∙ is.was))
      ]

  -- the caller of an open call to such a task is suspended at it
  flagged_call : (u p : ℕ) → is_flagged flags u ≡ true → IsOpenCallTo before u p → OfFirst (AsHit before flags) (task_count before) Failing p
  flagged_call u p flagged of =
      let suspended = open_calls_suspend before of.call p of.opened in
      record {
        task = of.call.by;
        among = suspended_exists before of.call.by p lawful suspended;
        of = inr (fails of.call p of.opened.stands suspended (ap (is_flagged flags) of.to ∙ flagged));
      }

  abort_key : (step : Event) (row : Row) (key : ℕ) → step_at (Aborted by tasks ∷ before) row key ≡ Some step
      → OfAbort (Aborted by tasks) before row key → OfFirst (AsHit before flags) (task_count before) row key
  abort_key step row key gives (abort_halts u is) =
      let (exists, flagged) = hit_flagged u is in
      let may = and_from (is_flagged flags u) (may_halt before u) flagged (haltable before by tasks u step gives) in
      record { task = u; among = exists; of = inl (holds_so may itself) }
  abort_key step row key gives (abort_fails u p is of) = flagged_call u p (hit_flagged u is).1 of

pub abort_noted : (before : List Event) (old new : List (List ℕ)) (by : TaskNo) (tasks hit : List TaskNo) (flags : List Bool)
    → ListsLive before hit (is_hit before tasks) → AreNamed flags hit → Puts old new (OfFirst (AsHit before flags) (task_count before))
    → KeepsUp before (Aborted by tasks) old new
abort_noted before old new by tasks hit flags lists named puts lawful agenda =
    noted_giving (Aborted by tasks) before old new (OfFirst (AsHit before flags) (task_count before)) lawful agenda puts (λ row key step added gives.
    abort_key before by tasks hit flags lawful.0 lists named step row key gives added)
