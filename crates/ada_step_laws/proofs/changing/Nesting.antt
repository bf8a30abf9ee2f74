-- What one more event changes in what a task is within.
use Rattle.std.proofs.Common.{◌≡◌, ℕ, suc, ◌≤◌, Bool, true, false, not, ◌&&◌, Option, Some, None, List, [], ◌∷◌, ◌++◌, length, sym, refl, ap, ◌∙◌, arith, inl}
use Rattle.std.proofs.Common.{inr, eqb}
use Rattle.std.specs.Option.{option_map_or, option_or, option_to_list, option_and_then}
use Rattle.std.specs.Bool.{then_some}
use Rattle.std.proofs.lemmas.Bool.{ne_eqb, cases_eq}
use Rattle.std.proofs.lemmas.Option.{same_Some}
use Rattle.ada_events.specs.declared.event.Event.{Event}
use Rattle.ada_events.specs.declared.event.Event.TheVariants as event
use Rattle.ada_events.specs.declared.names.Member.TheVariants.{Block, Rendezvous}
use Rattle.ada_events.specs.Search.{is_number, any_event, gathered, event_at, is_some_and}
use Rattle.ada_events.specs.Says.{Call, Closing, Opening, Meeting, Wait, call_in, closing_in, opening_in, meeting_in, wait_in, left_in, released_in}
use Rattle.ada_events.specs.Phases.{is_released}
use Rattle.ada_events.specs.Calls.{is_open_at, is_open_call, is_pending}
use Rattle.ada_events.specs.Nests.{is_left_close, is_left, is_wait_of, member_at, nest}
use Rattle.ada_events.specs.Lawful.{IsLawful}
use Rattle.ada_laws.proofs.searching.Searching.{event_at-older, event_at-newest, event_at-within}
use Rattle.ada_laws.proofs.queues.Meeting.{met_taking, taken_queued}
use Rattle.ada_laws.proofs.queues.Queueing.{is_open_at-from}
use Rattle.ada_step_laws.proofs.changing.Holding.{IsQuiet, quiet_ended}
use Rattle.ada_step_laws.proofs.changing.Saying.{release_only, not_both, met_says, met_frees}
use Rattle.ada_events.proofs.Positions.{event_at-other}

-- searches that test or give the same at each event find the same
pub any_event-agree : (f g : ℕ → Event → Bool) (journal : List Event) → ((p : ℕ) (e : Event) → event_at journal p ≡ Some e → f p e ≡ g p e)
    → any_event f journal ≡ any_event g journal
unfolding any_event
any_event-agree f g [] same = refl
any_event-agree f g (event ∷ before) same =
    rw (
      any_event-agree f g before (λ p e at. same p e (event_at-older event before p e at)),
      same (suc (length before)) event
          (event_at-newest event before),
    ) refl

pub gathered-agree : {A : Type 0} (give more : ℕ → Event → Option A) (journal : List Event)
    → ((p : ℕ) (e : Event) → event_at journal p ≡ Some e → more p e ≡ give p e) → gathered more journal ≡ gathered give journal
unfolding gathered
gathered-agree give more [] same = refl
gathered-agree give more (event ∷ before) same =
    rw (
      gathered-agree give more before (λ p e at. same p e (event_at-older event before p e at)),
      same (suc (length before)) event
          (event_at-newest event before),
    ) refl

pub and_true : (b : Bool) → (b && true) ≡ b
and_true true = refl
and_true false = refl

-- an event that leaves and closes nothing leaves no block
pub left_same : (event : Event) (before : List Event) (p : ℕ) → left_in event ≡ None → closing_in event ≡ None → is_left (event ∷ before) p ≡ is_left before p
unfolding is_left any_event is_left_close
left_same event before p leaves closes =
    rw closes
    (any_event-agree (λ q e. is_some_and (closing_in e) (λ (c : Closing). eqb c.block p) && is_left_close (event ∷ before) q)
    (λ q e. is_some_and (closing_in e) (λ (c : Closing). eqb c.block p) && is_left_close before q) before
    (λ q e at. ap (λ b. is_some_and (closing_in e) (λ (c : Closing). eqb c.block p) && b) (rw leaves refl)))

-- beyond a journal nothing stands
pub nothing_beyond : (before : List Event) (o : Option Event) → event_at before (suc (length before)) ≡ o → o ≡ None
nothing_beyond before None same = refl
nothing_beyond before (Some e) same =
    let within : suc (length before) ≤ length before = event_at-within before (suc (length before)) e same in
    absurd (omega arith)

-- what an event that gives nothing of a kind changes in what is given of that kind at a position
pub given_same : {A : Type 0} (give : Event → Option A) (event : Event) (before : List Event) (p : ℕ) → give event ≡ None
    → option_and_then give (event_at (event ∷ before) p) ≡ option_and_then give (event_at before p)
given_same give event before p none = elim (cases_eq p (suc (length before))) [
  | inl same ↦ rw (same, event_at-newest event before, nothing_beyond before (event_at before (suc (length before))) refl) none
  | inr other ↦ ap (option_and_then give) (event_at-other event before p other)
]

pub wait_same : (event : Event) (before : List Event) (task w : ℕ) → wait_in event ≡ None → is_wait_of (event ∷ before) task w ≡ is_wait_of before task w
unfolding is_wait_of
wait_same event before task w waits = ap (λ (o : Option Wait). is_some_and o (λ (x : Wait). eqb x.by task)) (given_same wait_in event before w waits)

-- an older call stays open unless the event releases it or ends somebody
open_same : (event : Event) (before : List Event) (p : ℕ) (e : Event) → IsQuiet event
    → ((c : Call) → call_in e ≡ Some c → is_number p (released_in event) ≡ false) → (o : Option Call) → call_in e ≡ o
    → is_open_at (event ∷ before) p e ≡ is_open_at before p e
unfolding is_open_at is_pending is_released
open_same event before p e quiet stays None says = rw says refl
open_same event before p e quiet stays (Some c) says = rw (says, quiet_ended event before c.by quiet, stays c says) refl

pub no_open : (event : Event) (before : List Event) → call_in event ≡ None → is_open_at (event ∷ before) (suc (length before)) event ≡ false
unfolding is_open_at
no_open event before none = rw none refl

open_call_same : (event : Event) (before : List Event) (call : ℕ) → IsQuiet event → call_in event ≡ None
    → ((p : ℕ) (e : Event) (c : Call) → event_at before p ≡ Some e → call_in e ≡ Some c → is_number p (released_in event) ≡ false)
    → is_open_call (event ∷ before) call ≡ is_open_call before call
unfolding is_open_call
open_call_same event before call quiet calls stays = elim (cases_eq call (suc (length before))) [
  | inl same ↦ rw (same, event_at-newest event before, nothing_beyond before (event_at before (suc (length before))) refl) (no_open event before calls)
  | inr other ↦ rw (event_at-other event before call other) (of_event (event_at before call) refl)
]
  where
    of_event : (o : Option Event) → event_at before call ≡ o → is_some_and o (is_open_at (event ∷ before) call) ≡ is_some_and o (is_open_at before call)
    of_event None at = refl
    of_event (Some e) at = open_same event before call e quiet (λ c says. stays call e c at says) (call_in e) refl

meeting_same : (event : Event) (before : List Event) (task : ℕ) (o : Option Meeting) → wait_in event ≡ None
    → ((call : ℕ) → is_open_call (event ∷ before) call ≡ is_open_call before call)
    → option_map_or (λ (m : Meeting). then_some (is_wait_of (event ∷ before) task m.wait && is_open_call (event ∷ before) m.call) (Rendezvous m.call)) o None
    ≡ option_map_or (λ (m : Meeting). then_some (is_wait_of before task m.wait && is_open_call before m.call) (Rendezvous m.call)) o None
meeting_same event before task None waits opens = refl
meeting_same event before task (Some m) waits opens = rw (wait_same event before task m.wait waits, opens m.call) refl

-- what a task is within after an event that leaves, closes, waits and calls nothing, ends nobody, and releases no
-- call: as before, and what the event puts into it
pub nest_kept : (event : Event) (before : List Event) (task : ℕ) → IsQuiet event → left_in event ≡ None → closing_in event ≡ None → wait_in event ≡ None
    → call_in event ≡ None → ((p : ℕ) (e : Event) (c : Call) → event_at before p ≡ Some e → call_in e ≡ Some c → is_number p (released_in event) ≡ false)
    → nest (event ∷ before) task ≡ nest before task ++ option_to_list (member_at (event ∷ before) task (suc (length before)) event)
unfolding nest gathered member_at
nest_kept event before task quiet leaves closes waits calls stays =
    ap (λ xs. xs ++ option_to_list (member_at (event ∷ before) task (suc (length before)) event))
    (gathered-agree (member_at before task) (member_at (event ∷ before) task) before
    (λ p e at.
    rw (left_same event before p leaves closes)
    (ap (λ m. option_or (option_map_or (λ (o : Opening). then_some (eqb o.by task && not (is_left before p)) (Block p)) (opening_in e) None) m)
    (meeting_same event before task (meeting_in e) waits (λ call. open_call_same event before call quiet calls stays)))))

met_only : (e : Event) (call wait : ℕ) → e ≡ event.Met call wait → (left_in e ≡ None) × (closing_in e ≡ None) × (wait_in e ≡ None) × (call_in e ≡ None)
    × (opening_in e ≡ None) × (meeting_in e ≡ Some (record { call = call; wait = wait }))
unfolding left_in closing_in wait_in call_in opening_in meeting_in
met_only e call wait is = (ap left_in is, ap closing_in is, ap wait_in is, ap call_in is, ap opening_in is, ap meeting_in is)

-- after a rendezvous began, the task that waited is within it, and nobody else is within anything more
pub nest_met : (e : Event) (before : List Event) (task call wait : ℕ) → IsLawful (e ∷ before) → e ≡ event.Met call wait
    → nest (e ∷ before) task ≡ nest before task ++ option_to_list (then_some (is_wait_of before task wait) (Rendezvous call))
unfolding member_at is_open_call
nest_met e before task call wait lawful is =
    let only = met_only e call wait is in
    let frees : released_in e ≡ Some wait = ap released_in is ∙ (met_frees call wait).0 in
    let quiet = (release_only e wait frees).plain.quiet in
    let taking = met_taking before e (record { call = call; wait = wait }) lawful.1 (ap meeting_in is ∙ met_says call wait) in
    let stays : (p : ℕ) (f : Event) (c : Call) → event_at before p ≡ Some f → call_in f ≡ Some c → is_number p (released_in e) ≡ false =
    λ p f c at says. rw (frees) (ne_eqb p wait (λ same.
    let one : f ≡ taking.stands.event = same_Some f taking.stands.event (sym at ∙ ap (event_at before) same ∙ taking.stands.stands) in
    not_both taking.stands.event c taking.wait (ap call_in (sym one) ∙ says) taking.stands.says)) in
    let (choice, queued) = taken_queued before call wait taking in
    let opened : is_open_call before call ≡ true =
    rw queued.opened.stands.stands (is_open_at-from before queued.call call queued.opened) in
    nest_kept e before task quiet only.0 only.1 only.2 only.3 stays
    ∙ rw (only.4, only.5, wait_same e before task wait only.2, open_call_same e before call quiet only.3 stays, opened)
    (ap (λ b. nest before task ++ option_to_list (then_some b (Rendezvous call))) (and_true (is_wait_of before task wait)))
