-- Tasks wait until the same moments, and the first of these is the same.
use Rattle.std.proofs.Common.{◌≡◌, ℕ, ◌<◌, ℤ, Bool, true, false, if◌then◌else◌, Option, Some, None, List, refl, sym, ap, ◌∙◌, arith, int_le}
use Rattle.std.proofs.lemmas.Bool.{true≢false, false≢true}
use Rattle.std.proofs.lemmas.Int.{ints}
use Rattle.std.specs.Option.{option_and_then}
use Rattle.std.proofs.lemmas.Option.{none-some, same_Some}
use Rattle.ada_events.specs.declared.event.Event.{Event}
use Rattle.ada_events.specs.declared.event.Event.TheVariants as event
use Rattle.ada_events.specs.Search.{event_at}
use Rattle.ada_events.specs.Says.{Call, Wait, Delay, Start, Closing, call_in, wait_in, delay_in, start_in, closing_in}
use Rattle.ada_events.specs.Tasks.{task_count}
use Rattle.ada_events.specs.Calls.{is_met}
use Rattle.ada_events.specs.Waits.{is_due, tail_due, due_by}
use Rattle.ada_laws.specs.Unlimited.{IsLawfulUnlimited}
use Rattle.ada_laws.proofs.within.Parents.{same_truth}
use Rattle.ada_standing.specs.Renaming.{Renaming}
use Rattle.ada_standing.specs.Holds.{IsSameHold}
use Rattle.ada_standing.specs.StandsIn.{StandsIn, is_live}
use Rattle.ada_standing.proofs.alike.Pairs.{live_from, live_parts, live_alike, live_back, active_parts}
use Rattle.ada_waiting.specs.Reasons.{suspended_at}
use Rattle.ada_waiting.specs.Standstill.{due_at, due_of, first_due_below, first_due}
use Rattle.ada_waiting.proofs.Holding.{suspended_at_from}
use Rattle.ada_waiting.proofs.Moments.{first_comes}
use Rattle.ada_waiting.proofs.Ticking.{some_task}
use Rattle.ada_lasting.proofs.waits.Suspended.{AreSuspendedAlike, suspended_alike}

-- the moment of each kind of event

call_due : (met : Bool) (e : Event) (c : Call) → call_in e ≡ Some c → due_by met e ≡ (if met then None else c.due)
unfolding due_by call_in
call_due met (event.Called by callee entry patience due) c says = ap (λ (d : Call). if met then None else d.due) (same_Some _ c says)
call_due met _ c says = absurd (none-some c says)

wait_due : (met : Bool) (e : Event) (w : Wait) → wait_in e ≡ Some w → due_by met e ≡ tail_due w.tail
unfolding due_by wait_in
wait_due met (event.Waiting by pick choices tail) w says = ap (λ (v : Wait). tail_due v.tail) (same_Some _ w says)
wait_due met _ w says = absurd (none-some w says)

delay_due : (met : Bool) (e : Event) (d : Delay) → delay_in e ≡ Some d → due_by met e ≡ Some d.due
unfolding due_by delay_in
delay_due met (event.Paused by due) d says = ap (λ (x : Delay). Some x.due) (same_Some _ d says)
delay_due met _ d says = absurd (none-some d says)

start_due : (met : Bool) (e : Event) (s : Start) → start_in e ≡ Some s → due_by met e ≡ None
unfolding due_by start_in
start_due met (event.Started by tasks) s says = refl
start_due met _ s says = absurd (none-some s says)

closing_due : (met : Bool) (e : Event) (c : Closing) → closing_in e ≡ Some c → due_by met e ≡ None
unfolding due_by closing_in
closing_due met (event.Closed by block) c says = refl
closing_due met _ c says = absurd (none-some c says)

-- what holds up alike does so until the same moment
hold_due : (old new : List Event) (names : Renaming) (p q : ℕ) (d e : Event) → IsSameHold old new names p q d e → due_at new q e ≡ due_at old p d
hold_due old new names p q d e (IsSameHold.call c b is has same) =
    rw (call_due (is_met old p) d c is, call_due (is_met new q) e b has, same.met) (by_met (is_met old p) same.due)
  where
    by_met : (met : Bool) → (met ≡ false → b.due ≡ c.due) → ◌≡◌ {A = Option ℤ} (if met then None else b.due) (if met then None else c.due)
    by_met true same_due = refl
    by_met false same_due = same_due refl
hold_due old new names p q d e (IsSameHold.wait w v is has same) =
    rw (wait_due (is_met old p) d w is, wait_due (is_met new q) e v has, same.tail) refl
hold_due old new names p q d e (IsSameHold.pause a b is has same) =
    rw (delay_due (is_met old p) d a is, delay_due (is_met new q) e b has, same) refl
hold_due old new names p q d e (IsSameHold.start s r is has same) =
    rw (start_due (is_met old p) d s is, start_due (is_met new q) e r has) refl
hold_due old new names p q d e (IsSameHold.close a b is has same) =
    rw (closing_due (is_met old p) d a is, closing_due (is_met new q) e b has) refl

pub due_alike : (old new : List Event) (names : Renaming) (u v : ℕ) → AreSuspendedAlike old new names u v → due_of new v ≡ due_of old u
unfolding due_of
due_alike old new names u v (AreSuspendedAlike.both p q is has pair) =
    rw (is, has, pair.held.stands, pair.holds.stands) (hold_due old new names p q pair.held.event pair.holds.event pair.alike)
due_alike old new names u v (AreSuspendedAlike.neither is has) = rw (is, has) refl

-- ---- the first of all

-- a task that waits for a moment is live
due_live : (journal : List Event) (u : ℕ) (now : ℤ) → u < task_count journal → is_due now (due_of journal u) ≡ true → is_live journal u ≡ true
unfolding due_of
due_live journal u now below comes = by_place (suspended_at journal u) refl comes
  where
    by_place : (o : Option ℕ) → suspended_at journal u ≡ o
        → is_due now (option_and_then (λ p. option_and_then (due_at journal p) (event_at journal p)) o) ≡ true → is_live journal u ≡ true
    by_place None is comes = absurd (false≢true comes)
    by_place (Some p) is comes = live_from journal u below (active_parts journal u (suspended_at_from journal u p is).live).1

at_itself : (m : ℤ) → int_le m m ≡ true
at_itself m = grind (arith, ints)

-- moments that have come alike, whatever the present one, are the same
same_moment : (o n : Option ℤ) → ((now : ℤ) → is_due now o ≡ is_due now n) → n ≡ o
same_moment None None alike = refl
same_moment None (Some n) alike = absurd (false≢true (alike n ∙ at_itself n))
same_moment (Some m) None alike = absurd (true≢false (sym (at_itself m) ∙ alike m))
same_moment (Some m) (Some n) alike =
    let below : int_le n m ≡ true = sym (alike m) ∙ at_itself m in
    let above : int_le m n ≡ true = alike n ∙ at_itself n in
    ap Some (grind (arith, ints))

pub first_due_alike : (old new : List Event) (names : Renaming) → StandsIn old new names → IsLawfulUnlimited old → IsLawfulUnlimited new
    → first_due new ≡ first_due old
unfolding first_due
first_due_alike old new names stands lawful also =
    same_moment (first_due_below old (task_count old)) (first_due_below new (task_count new)) (λ now.
    same_truth (is_due now (first_due_below old (task_count old))) (is_due now (first_due_below new (task_count new)))
    (λ comes.
    let due = some_task old (task_count old) now comes in
    let live = due_live old due.task now due.below due.comes in
    let (v, named) = stands.tasks.live due.task live in
    let below = (live_parts new v (live_alike old new names due.task v stands named ∙ live)).0 in
    first_comes new (task_count new) v now below
    (ap (is_due now) (due_alike old new names due.task v (suspended_alike old new names due.task v stands lawful also named)) ∙ due.comes))
    (λ comes.
    let due = some_task new (task_count new) now comes in
    let (u, named, live) = live_back old new names due.task stands (due_live new due.task now due.below due.comes) in
    first_comes old (task_count old) u now (live_parts old u live).0
    (ap (is_due now) (sym (due_alike old new names u due.task (suspended_alike old new names u due.task stands lawful also named))) ∙ due.comes)))
