-- The rows that search for a position: what one journal forces, renamed, is what the other forces.
use Rattle.std.proofs.Common.{◌≡◌, ℕ, Bool, true, false, not, ◌&&◌, ◌||◌, Option, Some, None, List, refl, sym, ap, ◌∙◌, inl, inr, int_le, ◌≢◌}
use Rattle.std.specs.Option.{option_map, option_and_then}
use Rattle.std.specs.Bool.{then_some}
use Rattle.std.proofs.lemmas.Bool.{cases_Bool, and_parts, and_right, not_from_true}
use Rattle.std.proofs.lemmas.Option.{same_Some, none-some}
use Rattle.ada_events.specs.declared.event.Event.{Event}
use Rattle.ada_events.specs.declared.event.Event.TheVariants.{Failed, Met, Cancelled, Passed, Woken, Left}
use Rattle.ada_events.specs.declared.event.Way.{Way}
use Rattle.ada_events.specs.declared.names.Master.TheVariants.{Block}
use Rattle.ada_events.specs.Search.{is_some_and, first_given, event_at}
use Rattle.ada_events.specs.Says.{Call, Delay, Closing, call_in, wait_in, delay_in, closing_in, held_in}
use Rattle.ada_events.specs.Tasks.{moment}
use Rattle.ada_events.specs.Phases.{has_ended, is_abnormal}
use Rattle.ada_events.specs.Calls.{is_pending, is_met, is_open_at, is_queued_at}
use Rattle.ada_events.specs.Waits.{is_due, taken_call, way_of}
use Rattle.ada_events.specs.Termination.{all_terminated}
use Rattle.ada_events.specs.Forced.{is_conditional, is_to_fail, failed, met_at, met, is_to_cancel, cancelled, passed_at, passed, is_to_wake, woken}
use Rattle.ada_events.specs.Forced.{is_to_leave, left}
use Rattle.ada_laws.specs.Calls.{IsWaitAt}
use Rattle.ada_laws.specs.Suspension.{IsSuspendedAt}
use Rattle.ada_laws.proofs.searching.Searching.{option_map_or-true, option_and_then-some, then_some-some, if_some}
use Rattle.ada_laws.proofs.searching.Saying.{held_in-wait, held_in-delay, held_in-closing}
use Rattle.ada_laws.proofs.forced.Stepping.{pending_parts}
use Rattle.ada_standing.specs.Renaming.{Renaming, renamed_master, renamed_event}
use Rattle.ada_standing.specs.Holds.{IsSameWait, is_same_kind}
use Rattle.ada_standing.specs.StandsIn.{StandsIn}
use Rattle.ada_standing.proofs.alike.Orderly.{IsOrderly}
use Rattle.ada_standing.proofs.alike.Kinds.{AreBoth, AreDueAlike, AreClosesAlike, calls_alike, waits_alike, delays_alike, closes_alike}
use Rattle.ada_standing.proofs.alike.Kinds.{both_calls, both_waits, both_delays, both_closes}
use Rattle.ada_standing.proofs.alike.Pairs.{IsPair, first_alike, ended_alike}
use Rattle.ada_standing.proofs.alike.Mastering.{all_terminated_alike}
use Rattle.ada_standing.proofs.alike.Calling.{pending_from, wait_by, open_held, queued_held, open_at_alike, queued_at_alike}
use Rattle.ada_standing.proofs.alike.Queueing.{taken_call_alike}

-- the second option is what the first is, renamed
abbrev pub AreAlike : Renaming → Option Event → Option Event → Type 0
AreAlike names o n = option_map (renamed_event names) o ≡ option_map Some n

pub then_alike : (names : Renaming) (a b : Bool) (x y : Event) → a ≡ b → renamed_event names x ≡ Some y → AreAlike names (then_some a x) (then_some b y)
then_alike names true b x y same is = rw (← same) (ap Some is)
then_alike names false b x y same is = rw (← same) refl

-- what an event says, where it is pending, gives alike

abbrev pub AreHeld : {X : Type 0} → List Event → (Event → Option X) → (ℕ → X → Option Event) → Type 0
AreHeld {X} journal say give =
    (p : ℕ) (e : Event) (x : X) (y : Event) → event_at journal p ≡ Some e → say e ≡ Some x → give p x ≡ Some y → (u : ℕ) × IsSuspendedAt journal u p

said_held : {X : Type 0} (journal : List Event) (say : Event → Option X) (give : ℕ → X → Option Event) → AreHeld journal say give
    → (p : ℕ) (d y : Event) → event_at journal p ≡ Some d → option_and_then (give p) (say d) ≡ Some y → (u : ℕ) × IsSuspendedAt journal u p
said_held journal say give held p d y at gives =
    let (x, says, is) = option_and_then-some (give p) (say d) y gives in
    held p d x y at says is

-- and if at several positions, only by events of one kind
abbrev pub AreOneKind : {X : Type 0} → List Event → (Event → Option X) → (ℕ → X → Option Event) → Type 0
AreOneKind {X} journal say give =
    (p q : ℕ) (d e : Event) (x y : X) (a b : Event) → event_at journal p ≡ Some d → event_at journal q ≡ Some e → p ≢ q → say d ≡ Some x
    → say e ≡ Some y → give p x ≡ Some a → give q y ≡ Some b → is_same_kind d e ≡ true

pub said_alike : {X : Type 0} (old new : List Event) (names : Renaming) (say : Event → Option X) (give there : ℕ → X → Option Event)
    (Same : ℕ → ℕ → X → X → Type 0) → StandsIn old new names → IsOrderly old → IsOrderly new → AreHeld old say give → AreHeld new say there
    → AreOneKind old say give
    → ((p q : ℕ) (pair : IsPair old new names p q) → AreBoth (Same p q) (say pair.held.event) (say pair.holds.event))
    → ((p q : ℕ) (pair : IsPair old new names p q) (x y : X) → say pair.held.event ≡ Some x → say pair.holds.event ≡ Some y → Same p q x y
    → AreAlike names (give p x) (there q y))
    → AreAlike names (first_given (λ p e. option_and_then (give p) (say e)) old) (first_given (λ q e. option_and_then (there q) (say e)) new)
said_alike old new names say give there Same stands orderly also held holds kinds both alike =
    first_alike old new names (renamed_event names) (λ p e. option_and_then (give p) (say e)) (λ q e. option_and_then (there q) (say e)) stands orderly also
    (said_held old say give held) (said_held new say there holds)
    (λ p q d e x y at there apart one other.
    let (c, says, is) = option_and_then-some (give p) (say d) x one in
    let (b, has, makes) = option_and_then-some (give q) (say e) y other in
    kinds p q d e c b x y at there apart says has is makes)
    (λ p q pair.
    elim (both p q pair) [
      | AreBoth.both x y is has same ↦ rw (is, has) (alike p q pair x y is has same)
      | AreBoth.neither is has ↦ rw (is, has) refl
    ])

-- what is pending holds its task up
pub pending_held : (journal : List Event) (u p : ℕ) (e : Event) → event_at journal p ≡ Some e → held_in e ≡ Some u → is_pending journal p u ≡ true
    → (t : ℕ) × IsSuspendedAt journal t p
pending_held journal u p e at holds pending =
    let both = pending_parts journal p u pending in
    (u, record { event = e; stands = at; holds = holds; unreleased = both.0; live = both.1 })

-- and what holds a task up is pending
pub pending_by : (journal : List Event) (u t p : ℕ) (held : IsSuspendedAt journal u p) → held_in held.event ≡ Some t → is_pending journal p t ≡ true
pending_by journal u t p held by = rw (same_Some t u (sym by ∙ held.holds)) (pending_from journal u p held)

-- a call fails
to_fail_alike : (old new : List Event) (names : Renaming) (p q : ℕ) (pair : IsPair old new names p q) → StandsIn old new names
    → is_to_fail old p pair.held.event ≡ is_to_fail new q pair.holds.event
unfolding is_to_fail
to_fail_alike old new names p q pair stands =
    elim (calls_alike old new names p q pair.held.event pair.holds.event pair.alike) [
      | AreBoth.both c b is has same ↦
          rw (is, has, open_at_alike old new names p q pair, finished c.callee b.callee same.callee (has_ended old c.callee) refl) refl
      | AreBoth.neither is has ↦ rw (is, has) refl
    ]
  where
    finished : (u v : ℕ) → names.task u ≡ Some v → (b : Bool) → has_ended old u ≡ b
        → (has_ended old u || is_abnormal old u) ≡ (has_ended new v || is_abnormal new v)
    finished u v named true ended = rw (ended_alike old new names u v stands named, ended) refl
    finished u v named false active = rw (ended_alike old new names u v stands named, (stands.active u v named active).abnormal) refl

to_fail_held : (journal : List Event) (p : ℕ) (e y : Event) → event_at journal p ≡ Some e → then_some (is_to_fail journal p e) (Failed p) ≡ Some y
    → (u : ℕ) × IsSuspendedAt journal u p
unfolding is_to_fail
to_fail_held journal p e y at gives =
    open_held journal p e at
    (and_parts (is_some_and (call_in e) (λ (c : Call). has_ended journal c.callee || is_abnormal journal c.callee)) (is_open_at journal p e)
    (then_some-some (is_to_fail journal p e) (Failed p) y gives).0).1

to_fail_call : (journal : List Event) (p : ℕ) (e y : Event) → then_some (is_to_fail journal p e) (Failed p) ≡ Some y → (c : Call) × (call_in e ≡ Some c)
unfolding is_to_fail
to_fail_call journal p e y gives =
    let (c, says, test) = option_map_or-true (λ (c : Call). has_ended journal c.callee || is_abnormal journal c.callee) (call_in e)
    (and_parts (is_some_and (call_in e) (λ (c : Call). has_ended journal c.callee || is_abnormal journal c.callee)) (is_open_at journal p e)
    (then_some-some (is_to_fail journal p e) (Failed p) y gives).0).0 in
    (c, says)

pub failed_alike : (old new : List Event) (names : Renaming) → StandsIn old new names → IsOrderly old → IsOrderly new
    → AreAlike names (failed old) (failed new)
unfolding failed renamed_event
failed_alike old new names stands orderly also =
    first_alike old new names (renamed_event names) (λ p e. then_some (is_to_fail old p e) (Failed p)) (λ q e. then_some (is_to_fail new q e) (Failed q))
    stands orderly also (to_fail_held old) (to_fail_held new)
    (λ p q d e x y at there apart one other.
    let (c, says) = to_fail_call old p d x one in
    let (b, has) = to_fail_call old q e y other in
    both_calls d e c b says has)
    (λ p q pair.
    then_alike names (is_to_fail old p pair.held.event) (is_to_fail new q pair.holds.event) (Failed p) (Failed q)
    (to_fail_alike old new names p q pair stands) (ap (option_map Failed) pair.placed))

-- a wait takes a call
meetings_alike : (names : Renaming) (p q : ℕ) (o n : Option ℕ) → names.position p ≡ Some q → option_map names.position o ≡ option_map Some n
    → AreAlike names (option_map (λ call. Met call p) o) (option_map (λ call. Met call q) n)
unfolding renamed_event
meetings_alike names p q None None placed same = refl
meetings_alike names p q (Some c) (Some d) placed same =
    let one : names.position c ≡ Some d = same_Some (names.position c) (Some d) same in
    rw (one, placed) refl
meetings_alike names p q None (Some d) placed same = absurd (none-some (Some d) same)
meetings_alike names p q (Some c) None placed same = absurd (none-some (names.position c) (sym same))

pub met_alike : (old new : List Event) (names : Renaming) → StandsIn old new names → IsOrderly old → IsOrderly new → AreAlike names (met old) (met new)
unfolding met met_at
met_alike old new names stands orderly also =
    said_alike old new names wait_in (met_at old) (met_at new) (λ p q. IsSameWait) stands orderly also
    (λ p e w y at says gives.
    pending_held old w.by p e at (held_in-wait e w says) (if_some (is_pending old p w.by) (option_map (λ call. Met call p) (taken_call old w)) y gives).0)
    (λ q e w y at says gives.
    pending_held new w.by q e at (held_in-wait e w says) (if_some (is_pending new q w.by) (option_map (λ call. Met call q) (taken_call new w)) y gives).0)
    (λ p q d e w v x y at there apart says has gives makes.
    absurd (apart (orderly.meets p q w v x y (record { event = d; stands = at; says = says }) (record { event = e; stands = there; says = has }) gives makes)))
    (λ p q pair. waits_alike old new names p q pair.held.event pair.holds.event pair.alike)
    (λ p q pair w x is has same.
    let by : w.by ≡ pair.task = wait_by old pair.task p pair.held w is in
    let also_by : x.by ≡ pair.stand = wait_by new pair.stand q pair.holds x has in
    rw (
      pending_by old pair.task w.by p pair.held (held_in-wait pair.held.event w is),
      pending_by new pair.stand x.by q pair.holds (held_in-wait pair.holds.event x has),
    )
    (meetings_alike names p q (taken_call old w) (taken_call new x) pair.placed
    (taken_call_alike old new names w x stands orderly also (ap names.task by ∙ (pair.named ∙ ap Some (sym also_by))) same)))

-- a call is cancelled
joined_stays : (journal : List Event) (p : ℕ) (e : Event) → is_met journal p ≡ true → is_to_cancel journal p e ≡ false
unfolding is_to_cancel is_queued_at
joined_stays journal p e met =
    and_right (is_some_and (call_in e) (λ (c : Call). is_conditional c.patience || is_due (moment journal) c.due))
    (is_open_at journal p e && not (is_met journal p))
    (and_right (is_open_at journal p e) (not (is_met journal p)) (not_from_true (is_met journal p) met))

to_cancel_alike : (old new : List Event) (names : Renaming) (p q : ℕ) (pair : IsPair old new names p q) → StandsIn old new names
    → is_to_cancel old p pair.held.event ≡ is_to_cancel new q pair.holds.event
unfolding is_to_cancel
to_cancel_alike old new names p q pair stands =
    elim (calls_alike old new names p q pair.held.event pair.holds.event pair.alike) [
      | AreBoth.both c b is has same ↦
          elim (cases_Bool (is_met old p)) [
            | inl met ↦ joined_stays old p pair.held.event met ∙ sym (joined_stays new q pair.holds.event (same.met ∙ met))
            | inr unmet ↦ rw (is, has, same.conditional unmet, same.due unmet, stands.moments, queued_at_alike old new names p q pair) refl
          ]
      | AreBoth.neither is has ↦ rw (is, has) refl
    ]

to_cancel_held : (journal : List Event) (p : ℕ) (e y : Event) → event_at journal p ≡ Some e → then_some (is_to_cancel journal p e) (Cancelled p) ≡ Some y
    → (u : ℕ) × IsSuspendedAt journal u p
unfolding is_to_cancel
to_cancel_held journal p e y at gives =
    queued_held journal p e at
    (and_parts (is_some_and (call_in e) (λ (c : Call). is_conditional c.patience || is_due (moment journal) c.due)) (is_queued_at journal p e)
    (then_some-some (is_to_cancel journal p e) (Cancelled p) y gives).0).1

to_cancel_call : (journal : List Event) (p : ℕ) (e y : Event) → then_some (is_to_cancel journal p e) (Cancelled p) ≡ Some y
    → (c : Call) × (call_in e ≡ Some c)
unfolding is_to_cancel
to_cancel_call journal p e y gives =
    let (c, says, test) = option_map_or-true (λ (c : Call). is_conditional c.patience || is_due (moment journal) c.due) (call_in e)
    (and_parts (is_some_and (call_in e) (λ (c : Call). is_conditional c.patience || is_due (moment journal) c.due)) (is_queued_at journal p e)
    (then_some-some (is_to_cancel journal p e) (Cancelled p) y gives).0).0 in
    (c, says)

pub cancelled_alike : (old new : List Event) (names : Renaming) → StandsIn old new names → IsOrderly old → IsOrderly new
    → AreAlike names (cancelled old) (cancelled new)
unfolding cancelled renamed_event
cancelled_alike old new names stands orderly also =
    first_alike old new names (renamed_event names) (λ p e. then_some (is_to_cancel old p e) (Cancelled p))
    (λ q e. then_some (is_to_cancel new q e) (Cancelled q)) stands orderly also (to_cancel_held old) (to_cancel_held new)
    (λ p q d e x y at there apart one other.
    let (c, says) = to_cancel_call old p d x one in
    let (b, has) = to_cancel_call old q e y other in
    both_calls d e c b says has)
    (λ p q pair.
    then_alike names (is_to_cancel old p pair.held.event) (is_to_cancel new q pair.holds.event) (Cancelled p) (Cancelled q)
    (to_cancel_alike old new names p q pair stands) (ap (option_map Cancelled) pair.placed))

-- a wait ends without a call
passes_alike : (names : Renaming) (p q : ℕ) (o n : Option Way) → names.position p ≡ Some q → o ≡ n
    → AreAlike names (option_map (Passed p) o) (option_map (Passed q) n)
unfolding renamed_event
passes_alike names p q None n placed same = rw (← same) refl
passes_alike names p q (Some way) n placed same = rw (← same, placed) refl

pub passed_alike : (old new : List Event) (names : Renaming) → StandsIn old new names → IsOrderly old → IsOrderly new
    → AreAlike names (passed old) (passed new)
unfolding passed passed_at
passed_alike old new names stands orderly also =
    said_alike old new names wait_in (passed_at old) (passed_at new) (λ p q. IsSameWait) stands orderly also
    (λ p e w y at says gives.
    pending_held old w.by p e at (held_in-wait e w says)
    (if_some (is_pending old p w.by) (option_map (Passed p) (way_of (moment old) w.choices w.pick w.tail)) y gives).0)
    (λ q e w y at says gives.
    pending_held new w.by q e at (held_in-wait e w says)
    (if_some (is_pending new q w.by) (option_map (Passed q) (way_of (moment new) w.choices w.pick w.tail)) y gives).0)
    (λ p q d e w v x y at there apart says has gives makes.
    let one : IsWaitAt old w p = record { event = d; stands = at; says = says } in
    let other : IsWaitAt old v q = record { event = e; stands = there; says = has } in
    both_waits d e w v says has (orderly.passes p q w v x y one other gives makes apart)
    (orderly.passes q p v w y x other one makes gives (λ same. apart (sym same))))
    (λ p q pair. waits_alike old new names p q pair.held.event pair.holds.event pair.alike)
    (λ p q pair w x is has same.
    rw (
      pending_by old pair.task w.by p pair.held (held_in-wait pair.held.event w is),
      pending_by new pair.stand x.by q pair.holds (held_in-wait pair.holds.event x has),
    )
    (passes_alike names p q (way_of (moment old) w.choices w.pick w.tail) (way_of (moment new) x.choices x.pick x.tail) pair.placed
    (rw (same.choices, same.tail, same.pick, stands.moments) refl)))

-- a delay ends
to_wake_alike : (old new : List Event) (names : Renaming) (p q : ℕ) (pair : IsPair old new names p q) (a b : Delay) → StandsIn old new names
    → delay_in pair.held.event ≡ Some a → delay_in pair.holds.event ≡ Some b → b.due ≡ a.due → is_to_wake old p a ≡ is_to_wake new q b
unfolding is_to_wake
to_wake_alike old new names p q pair a b stands is has same =
    rw (
      pending_by old pair.task a.by p pair.held (held_in-delay pair.held.event a is),
      pending_by new pair.stand b.by q pair.holds (held_in-delay pair.holds.event b has),
      same,
      stands.moments,
    ) refl

to_wake_pending : (journal : List Event) (p : ℕ) (d : Delay) → is_to_wake journal p d ≡ true → is_pending journal p d.by ≡ true
unfolding is_to_wake
to_wake_pending journal p d wake = (and_parts (int_le d.due (moment journal)) (is_pending journal p d.by) wake).1

pub woken_alike : (old new : List Event) (names : Renaming) → StandsIn old new names → IsOrderly old → IsOrderly new
    → AreAlike names (woken old) (woken new)
unfolding woken renamed_event
woken_alike old new names stands orderly also =
    said_alike old new names delay_in (λ p d. then_some (is_to_wake old p d) (Woken p)) (λ q d. then_some (is_to_wake new q d) (Woken q)) (λ p q. AreDueAlike)
    stands orderly also
    (λ p e d y at says gives.
    pending_held old d.by p e at (held_in-delay e d says) (to_wake_pending old p d (then_some-some (is_to_wake old p d) (Woken p) y gives).0))
    (λ q e d y at says gives.
    pending_held new d.by q e at (held_in-delay e d says) (to_wake_pending new q d (then_some-some (is_to_wake new q d) (Woken q) y gives).0))
    (λ p q d e a b x y at there apart says has gives makes. both_delays d e a b says has)
    (λ p q pair. delays_alike old new names p q pair.held.event pair.holds.event pair.alike)
    (λ p q pair a b is has same.
    then_alike names (is_to_wake old p a) (is_to_wake new q b) (Woken p) (Woken q) (to_wake_alike old new names p q pair a b stands is has same)
    (ap (option_map Woken) pair.placed))

-- a task leaves a block
to_leave_alike : (old new : List Event) (names : Renaming) (p q : ℕ) (pair : IsPair old new names p q) (a b : Closing) → StandsIn old new names
    → IsOrderly old → IsOrderly new → closing_in pair.held.event ≡ Some a → closing_in pair.holds.event ≡ Some b → names.position a.block ≡ Some b.block
    → is_to_leave old p a ≡ is_to_leave new q b
unfolding is_to_leave renamed_master
to_leave_alike old new names p q pair a b stands orderly also is has same =
    rw (
      pending_by old pair.task a.by p pair.held (held_in-closing pair.held.event a is),
      pending_by new pair.stand b.by q pair.holds (held_in-closing pair.holds.event b has),
    )
    (all_terminated_alike old new names (Block a.block) (Block b.block) stands orderly also (ap (option_map Block) same))

to_leave_pending : (journal : List Event) (p : ℕ) (c : Closing) → is_to_leave journal p c ≡ true → is_pending journal p c.by ≡ true
unfolding is_to_leave
to_leave_pending journal p c leave = (and_parts (is_pending journal p c.by) (all_terminated journal (Block c.block)) leave).0

pub left_alike : (old new : List Event) (names : Renaming) → StandsIn old new names → IsOrderly old → IsOrderly new
    → AreAlike names (left old) (left new)
unfolding left renamed_event
left_alike old new names stands orderly also =
    said_alike old new names closing_in (λ p c. then_some (is_to_leave old p c) (Left p)) (λ q c. then_some (is_to_leave new q c) (Left q))
    (λ p q. AreClosesAlike names) stands orderly also
    (λ p e c y at says gives.
    pending_held old c.by p e at (held_in-closing e c says) (to_leave_pending old p c (then_some-some (is_to_leave old p c) (Left p) y gives).0))
    (λ q e c y at says gives.
    pending_held new c.by q e at (held_in-closing e c says) (to_leave_pending new q c (then_some-some (is_to_leave new q c) (Left q) y gives).0))
    (λ p q d e a b x y at there apart says has gives makes. both_closes d e a b says has)
    (λ p q pair. closes_alike old new names p q pair.held.event pair.holds.event pair.alike)
    (λ p q pair a b is has same.
    then_alike names (is_to_leave old p a) (is_to_leave new q b) (Left p) (Left q) (to_leave_alike old new names p q pair a b stands orderly also is has same)
    (ap (option_map Left) pair.placed))
