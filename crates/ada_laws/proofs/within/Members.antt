-- What stands in a nest: a block that its task opened and hasn't left, or a rendezvous that a wait of it began, with an open call.
use Rattle.std.proofs.Common.{◌≡◌, ℕ, ◌-◌, Bool, true, false, not, ◌&&◌, eqb, Option, Some, None, List, length, refl, sym, ap, ◌∙◌}
use Rattle.std.proofs.Common.{subst, inl, inr}
use Rattle.std.specs.Option.{option_map_or}
use Rattle.std.specs.Bool.{then_some}
use Rattle.std.specs.List.{Contains}
use Rattle.std.proofs.lemmas.Bool.{and_parts, eqb-true, not-false, not-true, false≢true}
use Rattle.std.proofs.lemmas.Option.{none-some, same_Some, slice_get_within, get_or_from_slice_get}
use Rattle.ada_events.specs.declared.event.Event.{Event}
use Rattle.ada_events.specs.declared.event.Event.TheVariants.{Ended}
use Rattle.ada_events.specs.declared.names.Member.{Member}
use Rattle.ada_events.specs.declared.names.Member.TheVariants.{Block, Rendezvous}
use Rattle.ada_events.specs.declared.names.TaskNo.{TaskNo}
use Rattle.ada_events.specs.declared.request.Request.{Request}
use Rattle.ada_events.specs.declared.request.Request.TheVariants as request
use Rattle.ada_events.specs.Asks.{asked_event, member_position}
use Rattle.ada_events.specs.Calls.{is_met, is_open_call}
use Rattle.ada_events.specs.Lawful.{MayFollow}
use Rattle.ada_events.specs.Nests.{is_left, is_wait_of, member_at, nest, innermost}
use Rattle.ada_events.specs.Refusals.{refusal, is_rendezvous, is_not_in_accept}
use Rattle.ada_events.specs.Search.{is_some_and, event_at}
use Rattle.ada_events.specs.Says.{Opening, Meeting, opening_in, meeting_in}
use Rattle.ada_laws.specs.Unlimited.{refusal_but_limits}
use Rattle.ada_laws.proofs.asking.Limitless.{accepted_without_limits, is_accepted-unlimited}
use Rattle.ada_laws.proofs.searching.Gathering.{gathered-found}
use Rattle.ada_laws.proofs.queues.Meeting.{meeting_in-met, is_met-from}
use Rattle.ada_laws.proofs.forced.Rows.{IsRow, forced-row}
use Rattle.ada_laws.proofs.forced.Rows.IsRow.{fails}
use Rattle.ada_laws.proofs.searching.Searching.{option_or-some, then_some-some}

-- what a member of a nest is
pub data IsMember (journal : List Event) (task : ℕ) : Member → Type 0 where
  block_in : (p : ℕ) (e : Event) (o : Opening) → event_at journal p ≡ Some e → opening_in e ≡ Some o → o.by ≡ task → is_left journal p ≡ false
      → IsMember journal task (Block p)
  rendezvous_in : (call q : ℕ) (e : Event) (m : Meeting) → m.call ≡ call → event_at journal q ≡ Some e → meeting_in e ≡ Some m
      → is_wait_of journal task m.wait ≡ true → is_open_call journal call ≡ true → IsMember journal task (Rendezvous call)

pub nest_member : (journal : List Event) (task : ℕ) (x : Member) → Contains (nest journal task) x → IsMember journal task x
unfolding nest member_at
nest_member journal task x contains =
    let (q, e, at, gives) = gathered-found (member_at journal task) journal x contains in
    elim (option_or-some
    (option_map_or (λ (o : Opening). then_some (eqb o.by task && not (is_left journal q)) (Block q)) (opening_in e) None)
    (option_map_or (λ (m : Meeting). then_some (is_wait_of journal task m.wait && is_open_call journal m.call) (Rendezvous m.call)) (meeting_in e) None)
    x gives) [
      | inl opening ↦ by_opening q e at (opening_in e) refl opening
      | inr meeting ↦ by_meeting q e at (meeting_in e) refl meeting
    ]
  where
    by_opening : (q : ℕ) (e : Event) → event_at journal q ≡ Some e → (o : Option Opening) → opening_in e ≡ o
        → option_map_or (λ (o : Opening). then_some (eqb o.by task && not (is_left journal q)) (Block q)) o None ≡ Some x → IsMember journal task x
    by_opening q e at None says gives = absurd (none-some x gives)
    by_opening q e at (Some o) says gives =
        let found = then_some-some (eqb o.by task && not (is_left journal q)) (Block q) x gives in
        let both = and_parts (eqb o.by task) (not (is_left journal q)) found.0 in
        subst (IsMember journal task) found.1 (block_in q e o at says (eqb-true o.by task both.0) (not-true (is_left journal q) both.1))

    by_meeting : (q : ℕ) (e : Event) → event_at journal q ≡ Some e → (m : Option Meeting) → meeting_in e ≡ m
        → option_map_or (λ (m : Meeting). then_some (is_wait_of journal task m.wait && is_open_call journal m.call) (Rendezvous m.call)) m None ≡ Some x
        → IsMember journal task x
    by_meeting q e at None says gives = absurd (none-some x gives)
    by_meeting q e at (Some m) says gives =
        let found = then_some-some (is_wait_of journal task m.wait && is_open_call journal m.call) (Rendezvous m.call) x gives in
        let both = and_parts (is_wait_of journal task m.wait) (is_open_call journal m.call) found.0 in
        subst (IsMember journal task) found.1 (rendezvous_in m.call q e m refl at says both.0 both.1)

-- a rendezvous in a nest is one with an open call
pub nest_open : (journal : List Event) (task call : ℕ) → Contains (nest journal task) (Rendezvous call) → is_open_call journal call ≡ true
nest_open journal task call contains = of_member (nest_member journal task (Rendezvous call) contains)
  where
    of_member : IsMember journal task (Rendezvous call) → is_open_call journal call ≡ true
    of_member (rendezvous_in p q e m same at says waits unended) = unended

-- and it began
pub nest_met : (journal : List Event) (task call : ℕ) → Contains (nest journal task) (Rendezvous call) → is_met journal call ≡ true
nest_met journal task call contains = of_member (nest_member journal task (Rendezvous call) contains)
  where
    of_member : IsMember journal task (Rendezvous call) → is_met journal call ≡ true
    of_member (rendezvous_in p q e m same at says waits unended) =
        subst (λ (n : ℕ). is_met journal n ≡ true) same (is_met-from journal m.call m.wait q (at ∙ ap Some (meeting_in-met e m says)))

-- the innermost member of a nest, where it is a rendezvous, stands there
pub innermost_within : (journal : List Event) (task : ℕ) (o : Option Member) → innermost (nest journal task) ≡ o → is_some_and o is_rendezvous ≡ true
    → Contains (nest journal task) (Rendezvous (member_position o))
innermost_within journal task None is served = absurd (false≢true served)
innermost_within journal task (Some (Block p)) is served = absurd (false≢true served)
innermost_within journal task (Some (Rendezvous call)) is served =
    let place = length (nest journal task) - 1 in (
      place,
      slice_get_within (nest journal task) place (Rendezvous call) is,
      get_or_from_slice_get (nest journal task) place (Rendezvous call) (Rendezvous call) is,
    )

-- who may end a rendezvous is within it
pub end_within-unlimited : (journal : List Event) (by : TaskNo) (raised : Bool) → refusal_but_limits journal (request.End by raised) ≡ None
    → Contains (nest journal by.0) (Rendezvous (member_position (innermost (nest journal by.0))))
unfolding is_not_in_accept
end_within-unlimited journal by raised accepted =
    innermost_within journal by.0 (innermost (nest journal by.0)) refl
    (not-false (is_some_and (innermost (nest journal by.0)) is_rendezvous) (is_accepted-unlimited journal (request.End by raised) accepted).in_accept)

pub end_within : (journal : List Event) (by : TaskNo) (raised : Bool) → refusal journal (request.End by raised) ≡ None
    → Contains (nest journal by.0) (Rendezvous (member_position (innermost (nest journal by.0))))
end_within journal by raised accepted = end_within-unlimited journal by raised (accepted_without_limits journal (request.End by raised) accepted)

-- who ends a rendezvous, and with which call
abbrev ending : Event → Option (ℕ × ℕ)
ending (Ended by call raised) = Some (by.0, call)
ending _ = None

row_ends_none : (journal : List Event) (event : Event) → IsRow journal event → ending event ≡ None
row_ends_none journal event (fails q e at fail) = refl
row_ends_none journal event _ = refl

asked_within : (journal : List Event) (r : Request) (task call : ℕ) → refusal journal r ≡ None → ending (asked_event journal r) ≡ Some (task, call)
    → Contains (nest journal task) (Rendezvous call)
unfolding asked_event
asked_within journal (request.End by raised) task call accepted ends =
    let same : (by.0, member_position (innermost (nest journal by.0))) ≡ (task, call) = same_Some _ _ ends in
    subst (λ (both : ℕ × ℕ). Contains (nest journal both.0) (Rendezvous both.1)) same (end_within journal by raised accepted)
asked_within journal _ task call accepted ends = absurd (none-some (task, call) ends)

-- a task is within the rendezvous that it ends
pub ended_within : (event : Event) (before : List Event) (by : TaskNo) (call : ℕ) (raised : Bool) → MayFollow refusal before event
    → event ≡ Ended by call raised → Contains (nest before by.0) (Rendezvous call)
ended_within event before by call raised (inl forces) is =
    absurd (none-some (by.0, call) (sym (row_ends_none before event (forced-row before event forces)) ∙ ap ending is))
ended_within event before by call raised (inr asked) is =
    asked_within before asked.request by.0 call asked.accepted (ap ending (sym asked.becomes) ∙ ap ending is)

-- a block stands where it was opened
pub block_place : (journal : List Event) (task p b : ℕ) (e : Event) → member_at journal task p e ≡ Some (Block b) → p ≡ b
unfolding member_at
block_place journal task p b e gives =
    elim (option_or-some
    (option_map_or (λ (o : Opening). then_some (eqb o.by task && not (is_left journal p)) (Block p)) (opening_in e) None)
    (option_map_or (λ (m : Meeting). then_some (is_wait_of journal task m.wait && is_open_call journal m.call) (Rendezvous m.call)) (meeting_in e) None)
    (Block b) gives) [
      | inl opened ↦ by_opening (opening_in e) opened
      | inr met ↦ absurd (by_meeting (meeting_in e) met)
    ]
  where
    by_opening : (o : Option Opening) → option_map_or (λ (o : Opening). then_some (eqb o.by task && not (is_left journal p)) (Block p)) o None
        ≡ Some (Block b) → p ≡ b
    by_opening None gives = absurd (none-some (Block b) gives)
    by_opening (Some o) gives =
        let found = then_some-some (eqb o.by task && not (is_left journal p)) (Block p) (Block b) gives in
        cc (found.1)

    by_meeting : (m : Option Meeting) → option_map_or
        (λ (m : Meeting). then_some (is_wait_of journal task m.wait && is_open_call journal m.call) (Rendezvous m.call)) m None ≡ Some (Block b) → ⊥
    by_meeting None gives = none-some (Block b) gives
    by_meeting (Some m) gives =
        let found = then_some-some (is_wait_of journal task m.wait && is_open_call journal m.call) (Rendezvous m.call) (Block b) gives in
        cc (found.1)
