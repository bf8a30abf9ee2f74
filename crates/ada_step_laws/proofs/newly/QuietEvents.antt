-- What an event touches that ends, aborts and makes nobody.
use Rattle.std.proofs.Common.{◌≡◌, ℕ, ℤ, true, false, Some, List, ◌∷◌, sym, refl, ◌∙◌, ◌⊎◌, inl, inr}
use Rattle.std.proofs.lemmas.Bool.{both_ways}
use Rattle.std.proofs.lemmas.Option.{none-some}
use Rattle.ada_events.specs.declared.event.Event.{Event}
use Rattle.ada_events.specs.declared.names.Master.{Master}
use Rattle.ada_events.specs.declared.names.Master.TheVariants.{Body, Block}
use Rattle.ada_events.specs.Says.{Call, Creation, call_in, released_in, moment_in}
use Rattle.ada_events.specs.Tasks.{creation_of}
use Rattle.ada_events.specs.Masters.{depends_on}
use Rattle.ada_events.specs.Phases.{has_start, is_terminated, has_ended, is_abnormal}
use Rattle.ada_events.specs.Forced.{is_done_activating}
use Rattle.ada_events.specs.Termination.{is_complete, is_ready_to_quit}
use Rattle.ada_events.specs.Lawful.{IsLawful}
use Rattle.ada_laws.specs.Calls.{IsCallAt}
use Rattle.ada_laws.specs.Suspension.{IsSuspendedAt}
use Rattle.ada_step_laws.specs.declared.row.Row.{Row}
use Rattle.ada_step_laws.specs.declared.row.Row.TheVariants.{Halting, Meeting, Terminating, QuittingBlock}
use Rattle.ada_step_laws.specs.TouchedKeys.{is_uncallable}
use Rattle.ada_step_laws.proofs.changing.Holding.{IsQuiet, quiet_ended}
use Rattle.ada_step_laws.proofs.changing.Calling.{same_terminated, same_abnormal, not_done}
use Rattle.ada_step_laws.specs.Kinds.{itself, quitting_row, quitting_key, IsUnstartedIn, ComesDue}
use Rattle.ada_step_laws.proofs.newly.Completing.{IsNewlyAbandoned, IsClosed, body_newly, block_newly}
use Rattle.ada_step_laws.proofs.newly.Readying.{IsOpenWait, IsUnqueued}
use Rattle.ada_step_laws.proofs.newly.Refining.{says_row, IsNewlyEnded, Key}
use Rattle.ada_step_laws.proofs.newly.Refining.Key.{own, made, hit, freed, lost, called, due, done, completed, abandoned, going, quits_done, quits_ended}
use Rattle.ada_step_laws.proofs.newly.Refining.Key.{quits_idle}
use Rattle.ada_step_laws.proofs.newly.Refining.Key.{leaving}

-- what such an event touches
pub data QuietKey (event : Event) (before : List Event) : Row → ℕ → Type 0 where
  at_own : (row : Row) → says_row before row event ≡ true → QuietKey event before row (itself before)
  frees_caller : (u p : ℕ) (call : Call) → released_in event ≡ Some p → IsCallAt before call p → call.by ≡ u → is_abnormal before u ≡ true
      → QuietKey event before Halting u
  calls_waiting : (call : Call) (p : ℕ) → call_in event ≡ Some call → IsSuspendedAt before call.callee p → QuietKey event before Meeting p
  brings_moment : (now : ℤ) (row : Row) (p : ℕ) → moment_in event ≡ Some now → ComesDue before now row p → QuietKey event before row p
  closes_around : (u p : ℕ) → IsClosed event p → IsUnstartedIn before u p → QuietKey event before Terminating u
  closes_block : (p : ℕ) → IsClosed event p → QuietKey event before QuittingBlock p
  waits_open : (m : Master) (v : ℕ) → IsOpenWait event v → depends_on before v m ≡ true → QuietKey event before (quitting_row m) (quitting_key m)
  empties_queue : (m : Master) (v : ℕ) → IsUnqueued event before v → is_ready_to_quit (event ∷ before) v ≡ true → depends_on before v m ≡ true
      → QuietKey event before (quitting_row m) (quitting_key m)

-- a block is newly complete only where the event closes it
block_closed : (event : Event) (before : List Event) (p : ℕ) → IsLawful (event ∷ before) → IsQuiet event → is_complete before (Block p) ≡ false
    → is_complete (event ∷ before) (Block p) ≡ true → IsClosed event p
block_closed event before p lawful quiet was now =
    elim (block_newly event before p lawful was now) [
      | inl closed ↦ closed
      | inr over ↦ absurd (both_ways (has_ended before over.task) over.was (sym (quiet_ended event before over.task quiet) ∙ over.now))
    ]

left_within : (event : Event) (before : List Event) (u : ℕ) (c : Creation) (m : Master) → IsLawful (event ∷ before) → IsQuiet event
    → creation_of before u ≡ Some c → has_start before u ≡ false → c.under ≡ m → is_complete before m ≡ false → is_complete (event ∷ before) m ≡ true
    → QuietKey event before Terminating u
left_within event before u c (Body t) lawful quiet is never under was now = absurd (none-some t.0 (sym quiet.completes ∙ body_newly event before t was now))
left_within event before u c (Block p) lawful quiet is never under was now =
    closes_around u p (block_closed event before p lawful quiet was now) (record { creation = c; made = is; within = under; never = never })

left_why : (event : Event) (before : List Event) (u : ℕ) → IsLawful (event ∷ before) → IsQuiet event → IsNewlyAbandoned event before u
    → QuietKey event before Terminating u
left_why event before u lawful quiet new =
    elim (new.why) [
      | inl complete ↦ left_within event before u new.creation new.creation.under lawful quiet new.made new.never refl complete.0 complete.1
      | inr ended ↦ absurd (both_ways (is_terminated before new.creation.by) ended.0 (sym (same_terminated event before new.creation.by quiet) ∙ ended.1))
    ]

done_why : (event : Event) (before : List Event) (m : Master) → IsLawful (event ∷ before) → IsQuiet event → is_complete before m ≡ false
    → is_complete (event ∷ before) m ≡ true → QuietKey event before (quitting_row m) (quitting_key m)
done_why event before (Body t) lawful quiet was now = absurd (none-some t.0 (sym quiet.completes ∙ body_newly event before t was now))
done_why event before (Block p) lawful quiet was now = closes_block p (block_closed event before p lawful quiet was now)

idle_why : (event : Event) (before : List Event) (m : Master) (v : ℕ) → IsOpenWait event v ⊎ IsUnqueued event before v
    → is_ready_to_quit (event ∷ before) v ≡ true → depends_on before v m ≡ true → QuietKey event before (quitting_row m) (quitting_key m)
idle_why event before m v (inl waits) ready depends = waits_open m v waits depends
idle_why event before m v (inr unqueued) ready depends = empties_queue m v unqueued ready depends

pub not_ended : (event : Event) (before : List Event) (d : ℕ) → IsQuiet event → IsNewlyEnded event before d → ⊥
not_ended event before d quiet end = both_ways (is_terminated before d) end.was (sym (same_terminated event before d quiet) ∙ end.now)

pub quietly : (event : Event) (before : List Event) (row : Row) (key : ℕ) → IsLawful (event ∷ before) → IsQuiet event → Key event before row key
    → QuietKey event before row key
quietly event before row key lawful quiet (own same says) = at_own same says
quietly event before row key lawful quiet (made c says) = absurd (none-some c (sym quiet.makes ∙ says))
quietly event before row key lawful quiet (hit u new) = absurd (both_ways (is_abnormal before u) new.was (sym (same_abnormal event before u quiet) ∙ new.now))
quietly event before row key lawful quiet (freed u p call released at by abnormal) =
    frees_caller u p call released at by (sym (same_abnormal event before u quiet) ∙ abnormal)
quietly event before row key lawful quiet (lost u p call was now) =
    absurd (both_ways (is_uncallable before u) was (sym (rw (quiet_ended event before u quiet, same_abnormal event before u quiet) refl) ∙ now))
quietly event before row key lawful quiet (called call p says waits) = calls_waiting call p says waits
quietly event before row key lawful quiet (due now same p says comes) = brings_moment now same p says comes
quietly event before row key lawful quiet (done t p of was now) =
    absurd (both_ways (is_done_activating before t) was (sym (not_done event before t quiet) ∙ now))
quietly event before row key lawful quiet (completed u says) = absurd (none-some u (sym quiet.completes ∙ says))
quietly event before row key lawful quiet (abandoned u new) = left_why event before u lawful quiet new
quietly event before row key lawful quiet (going d u end depends) = absurd (not_ended event before d quiet end)
quietly event before row key lawful quiet (quits_done m quits was now) = done_why event before m lawful quiet was now
quietly event before row key lawful quiet (quits_ended m d end depends) = absurd (not_ended event before d quiet end)
quietly event before row key lawful quiet (quits_idle m v why ready depends) = idle_why event before m v why ready depends
quietly event before row key lawful quiet (leaving d block p end depends leaves) = absurd (not_ended event before d quiet end)
