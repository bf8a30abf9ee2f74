-- Tasks don't go on for the same reasons.
use Rattle.std.proofs.Common.{◌≡◌, ℕ, Bool, true, false, if◌then◌else◌, Option, Some, None, List, refl, inl, inr}
use Rattle.std.specs.Option.{option_map, option_or}
use Rattle.std.proofs.lemmas.Bool.{cases_Bool}
use Rattle.std.proofs.lemmas.Option.{none-some}
use Rattle.ada_events.specs.declared.event.Event.{Event}
use Rattle.ada_events.specs.declared.event.Event.TheVariants as event
use Rattle.ada_events.specs.Says.{Call, Wait, Delay, Start, Closing, call_in, wait_in, delay_in, start_in, closing_in}
use Rattle.ada_events.specs.Phases.{is_completed, is_terminated, is_started, has_ended}
use Rattle.ada_events.specs.Calls.{is_met}
use Rattle.ada_standing.specs.Renaming.{Renaming}
use Rattle.ada_standing.specs.Holds.{IsSameHold}
use Rattle.ada_standing.specs.StandsIn.{StandsIn}
use Rattle.ada_waiting.specs.declared.reasons.Reason.{Reason}
use Rattle.ada_waiting.specs.declared.reasons.Reason.TheVariants as reason
use Rattle.ada_waiting.specs.Reasons.{reason_by, reason_at, held_reason, reason_of}
use Rattle.ada_lasting.specs.Waiting.{renamed_reason}
use Rattle.ada_lasting.proofs.waits.Suspended.{AreSuspendedAlike}

-- the second reason is what the first is, renamed
abbrev pub AreReasonsAlike : Renaming → Option Reason → Option Reason → Type 0
AreReasonsAlike names o n = option_map (renamed_reason names) o ≡ option_map Some n

-- the reason that each kind of event is

pub call_reason : (met : Bool) (p : ℕ) (e : Event) (c : Call) → call_in e ≡ Some c
    → reason_by met p e ≡ Some (if met then reason.InRendezvous p else reason.Queued p)
unfolding reason_by call_in
call_reason met p (event.Called by callee entry patience due) c says = refl
call_reason met p _ c says = absurd (none-some c says)

pub wait_reason : (met : Bool) (p : ℕ) (e : Event) (w : Wait) → wait_in e ≡ Some w → reason_by met p e ≡ Some (reason.Waiting p)
unfolding reason_by wait_in
wait_reason met p (event.Waiting by pick choices tail) w says = refl
wait_reason met p _ w says = absurd (none-some w says)

pub delay_reason : (met : Bool) (p : ℕ) (e : Event) (d : Delay) → delay_in e ≡ Some d → reason_by met p e ≡ Some (reason.Delayed p)
unfolding reason_by delay_in
delay_reason met p (event.Paused by due) d says = refl
delay_reason met p _ d says = absurd (none-some d says)

pub start_reason : (met : Bool) (p : ℕ) (e : Event) (s : Start) → start_in e ≡ Some s → reason_by met p e ≡ Some (reason.Activating p)
unfolding reason_by start_in
start_reason met p (event.Started by tasks) s says = refl
start_reason met p _ s says = absurd (none-some s says)

pub closing_reason : (met : Bool) (p : ℕ) (e : Event) (c : Closing) → closing_in e ≡ Some c → reason_by met p e ≡ Some (reason.Leaving p)
unfolding reason_by closing_in
closing_reason met p (event.Closed by block) c says = refl
closing_reason met p _ c says = absurd (none-some c says)

-- what holds up alike is the same reason
hold_reason : (old new : List Event) (names : Renaming) (p q : ℕ) (d e : Event) → names.position p ≡ Some q → IsSameHold old new names p q d e
    → AreReasonsAlike names (reason_at old p d) (reason_at new q e)
unfolding renamed_reason
hold_reason old new names p q d e placed (IsSameHold.call c b is has same) =
    rw (call_reason (is_met old p) p d c is, call_reason (is_met new q) q e b has, same.met) (by_met (is_met old p))
  where
    by_met : (met : Bool) → AreReasonsAlike names (Some (if met then reason.InRendezvous p else reason.Queued p))
        (Some (if met then reason.InRendezvous q else reason.Queued q))
    by_met true = rw placed refl
    by_met false = rw placed refl
hold_reason old new names p q d e placed (IsSameHold.wait w v is has same) =
    rw (wait_reason (is_met old p) p d w is, wait_reason (is_met new q) q e v has, placed) refl
hold_reason old new names p q d e placed (IsSameHold.pause a b is has same) =
    rw (delay_reason (is_met old p) p d a is, delay_reason (is_met new q) q e b has, placed) refl
hold_reason old new names p q d e placed (IsSameHold.start s r is has same) =
    rw (start_reason (is_met old p) p d s is, start_reason (is_met new q) q e r has, placed) refl
hold_reason old new names p q d e placed (IsSameHold.close a b is has same) =
    rw (closing_reason (is_met old p) p d a is, closing_reason (is_met new q) q e b has, placed) refl

pub held_reason_alike : (old new : List Event) (names : Renaming) (u v : ℕ) → AreSuspendedAlike old new names u v
    → AreReasonsAlike names (held_reason old u) (held_reason new v)
unfolding held_reason
held_reason_alike old new names u v (AreSuspendedAlike.both p q is has pair) =
    rw (is, has, pair.held.stands, pair.holds.stands) (hold_reason old new names p q pair.held.event pair.holds.event pair.placed pair.alike)
held_reason_alike old new names u v (AreSuspendedAlike.neither is has) = rw (is, has) refl

or_unstarted : (names : Renaming) (o n : Option Reason) (started : Bool) → AreReasonsAlike names o n
    → AreReasonsAlike names (option_or o (if started then None else Some reason.NotStarted)) (option_or n (if started then None else Some reason.NotStarted))
unfolding renamed_reason
or_unstarted names (Some x) (Some y) started same = same
or_unstarted names None None true same = refl
or_unstarted names None None false same = refl
or_unstarted names None (Some y) started same = absurd (none-some (Some y) same)
or_unstarted names (Some x) None started same = absurd cc

pub reasons_alike : (old new : List Event) (names : Renaming) (u v : ℕ) → StandsIn old new names → names.task u ≡ Some v
    → AreSuspendedAlike old new names u v → AreReasonsAlike names (reason_of old u) (reason_of new v)
unfolding reason_of renamed_reason has_ended
reasons_alike old new names u v stands named suspended =
    let same = stands.same u v named in
    elim (cases_Bool (is_terminated old u)) [
      | inl ended ↦ rw (same.exists, same.existed, same.terminated, ended) refl
      | inr still ↦
          let completed = (stands.dependents u v named still).completed in
          elim (cases_Bool (is_completed old u)) [
            | inl over ↦ rw (same.exists, same.existed, same.terminated, still, completed, over) refl
            | inr goes ↦
                let active : has_ended old u ≡ false = rw (goes, still) refl in
                rw (same.exists, same.existed, same.terminated, still, completed, goes, (stands.active u v named active).started)
                (or_unstarted names (held_reason old u) (held_reason new v) (is_started old u) (held_reason_alike old new names u v suspended))
          ]
    ]
