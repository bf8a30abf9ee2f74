-- Tasks wait for the same tasks.
use Rattle.std.proofs.Common.{◌≡◌, ℕ, Bool, true, false, if◌then◌else◌, not, ◌&&◌, ◌||◌, eqb, Option, Some, None, List, refl, sym, ap, ◌∙◌, inl, inr}
use Rattle.std.specs.Bool.{then_some}
use Rattle.std.specs.Option.{option_and_then, option_or}
use Rattle.std.proofs.lemmas.Bool.{cases_Bool, true≢false, eqb-true, false_from_ne_true}
use Rattle.std.proofs.lemmas.Option.{none-some}
use Rattle.std.proofs.Math.Bool.{and-false}
use Rattle.ada_events.specs.declared.event.Event.{Event}
use Rattle.ada_events.specs.declared.names.Master.{Master}
use Rattle.ada_events.specs.declared.names.Master.TheVariants.{Body, Block}
use Rattle.ada_events.specs.Search.{is_some_and}
use Rattle.ada_events.specs.Says.{Creation, Call, Start, Closing, call_in, start_in, closing_in}
use Rattle.ada_events.specs.Tasks.{has_task, creation_of}
use Rattle.ada_events.specs.Phases.{has_start, lists_task, is_elaborated, is_completed, is_terminated, is_started, has_ended}
use Rattle.ada_events.specs.Calls.{is_met}
use Rattle.ada_events.specs.Forced.{task_no, is_done_activating}
use Rattle.ada_events.specs.Lawful.{IsSettled}
use Rattle.ada_standing.specs.Renaming.{Renaming, renamed_master}
use Rattle.ada_standing.specs.Holds.{IsSameCall, IsSameStart, IsSameHold}
use Rattle.ada_standing.specs.StandsIn.{StandsIn, is_live, activator_of}
use Rattle.ada_standing.proofs.alike.Orderly.{IsOrderly}
use Rattle.ada_standing.proofs.alike.Pairs.{IsPair}
use Rattle.ada_standing.proofs.alike.Activating.{done_one}
use Rattle.ada_standing.proofs.alike.Calling.{same_task_alike}
use Rattle.ada_standing.proofs.alike.Mastering.{depends_alike}
use Rattle.ada_waiting.specs.declared.reasons.Reason.{Reason}
use Rattle.ada_waiting.specs.declared.reasons.Reason.TheVariants as reason
use Rattle.ada_waiting.specs.Reasons.{reason_at, held_reason, reason_of}
use Rattle.ada_waiting.specs.Awaited.{has_made, is_activating, is_called, is_live_dependent, is_left_behind, awaits, waits_for}
use Rattle.ada_waiting.proofs.Awaiting.{no_start, only_live_tasks_are_awaited}
use Rattle.ada_lasting.proofs.waits.Suspended.{AreSuspendedAlike}
use Rattle.ada_lasting.proofs.waits.Reasons.{AreReasonsAlike, call_reason, wait_reason, delay_reason, start_reason, closing_reason, held_reason_alike}

-- ---- for whom each kind of event has a task wait

-- a call: for the task that is called
called_alike : (old new : List Event) (names : Renaming) (p q t w : ℕ) (pair : IsPair old new names p q) (c b : Call) → StandsIn old new names
    → names.task t ≡ Some w → call_in pair.held.event ≡ Some c → call_in pair.holds.event ≡ Some b → IsSameCall old new names p q c b
    → is_called new q w ≡ is_called old p t
called_alike old new names p q t w pair c b stands named is has same =
    rw (pair.held.stands, pair.holds.stands, is, has) (sym (same_task_alike old new names c.callee t b.callee w stands same.callee named))

undone : (a b c : Bool) → (a && not b && not c) ≡ (a && not (b || c))
undone true true c = refl
undone true false c = refl
undone false b c = refl

while_undone : (a b x y : Bool) → x ≡ y → (x ≡ false → a ≡ b) → (a && not y) ≡ (b && not x)
while_undone a b false y same alike = rw (← same, alike refl) refl
while_undone a b true y same alike = rw (← same) (and-false a ∙ sym (and-false b))

-- a start: for those of its tasks whose activation hasn't ended
activating_alike : (old new : List Event) (names : Renaming) (p q t w : ℕ) (pair : IsPair old new names p q) (s r : Start) → StandsIn old new names
    → names.task t ≡ Some w → start_in pair.held.event ≡ Some s → start_in pair.holds.event ≡ Some r → IsSameStart old new names s r
    → is_activating new q w ≡ is_activating old p t
unfolding is_done_activating
activating_alike old new names p q t w pair s r stands named is has same =
    rw (pair.held.stands, pair.holds.stands, is, has)
    (undone (lists_task w r.tasks) (is_elaborated new w) (has_ended new w)
    ∙ (while_undone (lists_task w r.tasks) (lists_task t s.tasks) (is_done_activating old (task_no t)) (is_done_activating new (task_no w))
    (done_one old new names t w stands named) (λ waits. same.pending t w named waits)
    ∙ sym (undone (lists_task t s.tasks) (is_elaborated old t) (has_ended old t))))

-- a master: for the live tasks that depend on it
dependent_alike : (old new : List Event) (names : Renaming) (t w : ℕ) (x y : Master) → StandsIn old new names → IsOrderly old → IsOrderly new
    → names.task t ≡ Some w → renamed_master names x ≡ Some y → is_live_dependent new y w ≡ is_live_dependent old x t
dependent_alike old new names t w x y stands orderly also named is =
    let same = stands.same t w named in
    while_undone _ _ (is_terminated old t) (is_terminated new w) (sym same.terminated) (λ still.
    let live : is_live old t ≡ true = rw (same.existed, still) refl in
    sym (depends_alike old new names t w x y stands orderly also named live is))

-- a close: for those that depend on its block
left_behind_alike : (old new : List Event) (names : Renaming) (p q t w : ℕ) (pair : IsPair old new names p q) (a b : Closing) → StandsIn old new names
    → IsOrderly old → IsOrderly new → names.task t ≡ Some w → closing_in pair.held.event ≡ Some a → closing_in pair.holds.event ≡ Some b
    → names.position a.block ≡ Some b.block → is_left_behind new q w ≡ is_left_behind old p t
unfolding renamed_master
left_behind_alike old new names p q t w pair a b stands orderly also named is has same =
    rw (pair.held.stands, pair.holds.stands, is, has)
    (dependent_alike old new names t w (Block a.block) (Block b.block) stands orderly also named (rw same refl))

-- what holds tasks up alike has them wait for the same
hold_awaited : (old new : List Event) (names : Renaming) (u v p q t w : ℕ) (pair : IsPair old new names p q) → StandsIn old new names → IsOrderly old
    → IsOrderly new → names.task t ≡ Some w → IsSameHold old new names p q pair.held.event pair.holds.event
    → is_some_and (reason_at new q pair.holds.event) (awaits new v w) ≡ is_some_and (reason_at old p pair.held.event) (awaits old u t)
unfolding awaits
hold_awaited old new names u v p q t w pair stands orderly also named (IsSameHold.call c b is has same) =
    rw (call_reason (is_met old p) p pair.held.event c is, call_reason (is_met new q) q pair.holds.event b has, same.met) (by_met (is_met old p))
  where
    by_met : (met : Bool)
        → awaits new v w (if met then reason.InRendezvous q else reason.Queued q) ≡ awaits old u t (if met then reason.InRendezvous p else reason.Queued p)
    by_met true = called_alike old new names p q t w pair c b stands named is has same
    by_met false = called_alike old new names p q t w pair c b stands named is has same
hold_awaited old new names u v p q t w pair stands orderly also named (IsSameHold.wait x y is has same) =
    rw (wait_reason (is_met old p) p pair.held.event x is, wait_reason (is_met new q) q pair.holds.event y has) refl
hold_awaited old new names u v p q t w pair stands orderly also named (IsSameHold.pause a b is has same) =
    rw (delay_reason (is_met old p) p pair.held.event a is, delay_reason (is_met new q) q pair.holds.event b has) refl
hold_awaited old new names u v p q t w pair stands orderly also named (IsSameHold.start s r is has same) =
    rw (start_reason (is_met old p) p pair.held.event s is, start_reason (is_met new q) q pair.holds.event r has)
    (activating_alike old new names p q t w pair s r stands named is has same)
hold_awaited old new names u v p q t w pair stands orderly also named (IsSameHold.close a b is has same) =
    rw (closing_reason (is_met old p) p pair.held.event a is, closing_reason (is_met new q) q pair.holds.event b has)
    (left_behind_alike old new names p q t w pair a b stands orderly also named is has same)

held_awaited : (old new : List Event) (names : Renaming) (u v t w : ℕ) → StandsIn old new names → IsOrderly old → IsOrderly new
    → names.task t ≡ Some w → AreSuspendedAlike old new names u v
    → is_some_and (held_reason new v) (awaits new v w) ≡ is_some_and (held_reason old u) (awaits old u t)
unfolding held_reason
held_awaited old new names u v t w stands orderly also named (AreSuspendedAlike.both p q is has pair) =
    rw (is, has, pair.held.stands, pair.holds.stands) (hold_awaited old new names u v p q t w pair stands orderly also named pair.alike)
held_awaited old new names u v t w stands orderly also named (AreSuspendedAlike.neither is has) = rw (is, has) refl

-- ---- the maker of a task that isn't started

-- a live task made a task that no start names exactly if it may activate that
maker_activates : (journal : List Event) (task maker : ℕ) → has_start journal task ≡ false → is_terminated journal maker ≡ false
    → has_made journal maker task ≡ is_some_and (activator_of journal task) (λ m. eqb m maker)
unfolding activator_of
maker_activates journal task maker unnamed still = rw unnamed (by_creation (creation_of journal task))
  where
    by_maker : (c : Creation) (ended : Bool) → is_terminated journal c.by ≡ ended
        → eqb c.by maker ≡ is_some_and (then_some (not ended) c.by) (λ m. eqb m maker)
    by_maker c false is = refl
    by_maker c true is =
        false_from_ne_true (eqb c.by maker) (λ same. true≢false (sym is ∙ (ap (is_terminated journal) (eqb-true c.by maker same) ∙ still)))

    by_creation : (o : Option Creation) → is_some_and o (λ (c : Creation). eqb c.by maker)
        ≡ is_some_and (option_and_then (λ (c : Creation). then_some (not false && not (is_terminated journal c.by)) c.by) o) (λ m. eqb m maker)
    by_creation None = refl
    by_creation (Some c) = by_maker c (is_terminated journal c.by) refl

-- the one that stands for a task is the one that stands for another
same_named : (old new : List Event) (names : Renaming) (t w : ℕ) (o : Option ℕ) → StandsIn old new names → names.task t ≡ Some w
    → is_some_and (option_and_then names.task o) (λ m. eqb m w) ≡ is_some_and o (λ m. eqb m t)
same_named old new names t w None stands named = refl
same_named old new names t w (Some m) stands named = by_name (names.task m) refl
  where
    by_name : (n : Option ℕ) → names.task m ≡ n → is_some_and n (λ m. eqb m w) ≡ eqb m t
    by_name (Some n) is = sym (same_task_alike old new names m t n w stands is named)
    by_name None is =
        sym (false_from_ne_true (eqb m t) (λ same. none-some w (sym is ∙ (ap names.task (eqb-true m t same) ∙ named))))

made_alike : (old new : List Event) (names : Renaming) (u v t w : ℕ) → StandsIn old new names → names.task u ≡ Some v → names.task t ≡ Some w
    → has_start old u ≡ false → has_start new v ≡ false → is_terminated old t ≡ false → has_made new w v ≡ has_made old t u
made_alike old new names u v t w stands named other unnamed unnamed_too still =
    maker_activates new v w unnamed_too ((stands.same t w other).terminated ∙ still)
    ∙ (ap (λ o. is_some_and o (λ m. eqb m w)) (stands.same u v named).activator
    ∙ (same_named old new names t w (activator_of old u) stands other ∙ sym (maker_activates old u t unnamed still)))

-- ---- all reasons

or_unstarted : (names : Renaming) (o n : Option Reason) (test there : Reason → Bool) (started : Bool) → AreReasonsAlike names o n
    → is_some_and n there ≡ is_some_and o test → (started ≡ false → there reason.NotStarted ≡ test reason.NotStarted)
    → is_some_and (option_or n (if started then None else Some reason.NotStarted)) there
    ≡ is_some_and (option_or o (if started then None else Some reason.NotStarted)) test
or_unstarted names (Some x) (Some y) test there started alike same unstarted = same
or_unstarted names None None test there true alike same unstarted = refl
or_unstarted names None None test there false alike same unstarted = unstarted refl
or_unstarted names None (Some y) test there started alike same unstarted = absurd (none-some (Some y) alike)
or_unstarted names (Some x) None test there started alike same unstarted = absurd cc

-- a task waits for a live one as the task that stands for it waits for the one that stands for that
live_awaited : (old new : List Event) (names : Renaming) (u v t w : ℕ) → StandsIn old new names → IsOrderly old → IsOrderly new
    → names.task u ≡ Some v → names.task t ≡ Some w → AreSuspendedAlike old new names u v → is_terminated old t ≡ false
    → waits_for new v w ≡ waits_for old u t
unfolding waits_for reason_of awaits has_ended renamed_master
live_awaited old new names u v t w stands orderly also named other suspended live =
    let same = stands.same u v named in
    elim (cases_Bool (is_terminated old u)) [
      | inl ended ↦ rw (same.exists, same.existed, same.terminated, ended) refl
      | inr still ↦
          let dependent = stands.dependents u v named still in
          elim (cases_Bool (is_completed old u)) [
            | inl over ↦
                rw (same.exists, same.existed, same.terminated, still, dependent.completed, over)
                (dependent_alike old new names t w (Body (task_no u)) (Body (task_no v)) stands orderly also other (rw named refl))
            | inr goes ↦
                let active : has_ended old u ≡ false = rw (goes, still) refl in
                rw (same.exists, same.existed, same.terminated, still, dependent.completed, goes, (stands.active u v named active).started)
                (or_unstarted names (held_reason old u) (held_reason new v) (awaits old u t) (awaits new v w) (is_started old u)
                (held_reason_alike old new names u v suspended) (held_awaited old new names u v t w stands orderly also other suspended)
                (λ unstarted.
                let unnamed = no_start old u active unstarted in
                made_alike old new names u v t w stands named other unnamed (dependent.named ∙ unnamed) live))
          ]
    ]

-- where nothing is forced, only live tasks are awaited
pub awaited_alike : (old new : List Event) (names : Renaming) (u v t w : ℕ) → StandsIn old new names → IsOrderly old → IsOrderly new → IsSettled old
    → IsSettled new → names.task u ≡ Some v → names.task t ≡ Some w → AreSuspendedAlike old new names u v → waits_for new v w ≡ waits_for old u t
awaited_alike old new names u v t w stands orderly also settled settled_too named other suspended =
    elim (cases_Bool (is_terminated old t)) [
      | inl ended ↦ nobody new v w settled_too ((stands.same t w other).terminated ∙ ended) ∙ sym (nobody old u t settled ended)
      | inr live ↦ live_awaited old new names u v t w stands orderly also named other suspended live
    ]
  where
    nobody : (journal : List Event) (task other : ℕ) → IsSettled journal → is_terminated journal other ≡ true → waits_for journal task other ≡ false
    nobody journal task other settled ended =
        false_from_ne_true (waits_for journal task other) (λ waits.
        true≢false (sym ended ∙ only_live_tasks_are_awaited journal task other settled waits))

-- whoever has no name is terminated, so nobody waits for him
pub unnamed_unawaited : (old new : List Event) (names : Renaming) (task t : ℕ) → StandsIn old new names → IsSettled old → has_task old t ≡ true
    → names.task t ≡ None → waits_for old task t ≡ false
unnamed_unawaited old new names task t stands settled exists unnamed =
    false_from_ne_true (waits_for old task t) (λ waits.
    let live : is_live old t ≡ true = rw (exists, only_live_tasks_are_awaited old task t settled waits) refl in
    let (v, named) = stands.tasks.live t live in
    none-some v (sym unnamed ∙ named))
