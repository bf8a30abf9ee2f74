-- Members of nests stay, and are put in, alike by one more event of both journals.
use Rattle.std.proofs.Common.{◌≡◌, ℕ, suc, Bool, true, false, not, ◌&&◌, eqb, Some, None, List, [], ◌∷◌, length}
use Rattle.std.proofs.Common.{refl, sym, ap, ◌∙◌, inl, inr, subst}
use Rattle.std.specs.Bool.{then_some}
use Rattle.std.specs.Option.{option_map}
use Rattle.std.specs.List.{Contains, list_any}
use Rattle.std.proofs.lemmas.Bool.{and_parts, or_left, or_right, eqb-true, eq-eqb, true≢false, false_from_ne_true}
use Rattle.std.proofs.lemmas.Option.{none-some, same_Some}
use Rattle.ada_events.specs.declared.event.Event.{Event}
use Rattle.ada_events.specs.declared.names.Member.{Member}
use Rattle.ada_events.specs.declared.names.Member.TheVariants.{Block as BlockMember, Rendezvous}
use Rattle.ada_events.specs.Search.{event_at}
use Rattle.ada_events.specs.Says.{Call, Wait, Meeting, call_in, wait_in, meeting_in}
use Rattle.ada_events.specs.Calls.{is_pending, is_open_at, is_open_call}
use Rattle.ada_events.specs.Nests.{is_left_close, is_left, is_wait_of, member_at, nest}
use Rattle.ada_laws.specs.Suspension.{IsSuspendedAt}
use Rattle.ada_laws.proofs.searching.Searching.{event_at-older, event_at-cases, any_event-found, option_map_or-true, option_map-some}
use Rattle.ada_laws.proofs.searching.Saying.{held_in-wait}
use Rattle.ada_laws.proofs.forced.Stepping.{pending_parts}
use Rattle.ada_laws.proofs.queues.Queueing.{is_open_at-from}
use Rattle.ada_laws.proofs.queues.Meeting.{IsTaking, taken_queued}
use Rattle.ada_laws.proofs.within.Members.{nest_open}
use Rattle.ada_laws.proofs.within.Parents.{same_truth}
use Rattle.ada_laws.proofs.within.Owners.{own_member}
use Rattle.ada_laws.proofs.forced.Parts.{closes_block}
use Rattle.ada_standing.specs.Renaming.{Renaming, renamed_member}
use Rattle.ada_standing.specs.internal.Next.{next_names}
use Rattle.ada_standing.proofs.alike.Kinds.{AreBoth, calls_alike}
use Rattle.ada_standing.proofs.alike.Pairs.{IsPair, pair_forth}
use Rattle.ada_standing.proofs.alike.Calling.{open_held, call_by, wait_by}
use Rattle.ada_standing.proofs.held.Saying.{openings_both, meetings_both}
use Rattle.ada_standing.proofs.held.Fitting.{FitsHeld}
use Rattle.ada_standing.proofs.held.Setting.{AreNext, TerminatedKept, CompletedKept, is_like, task_later, position_later, position_newest}
use Rattle.ada_standing.proofs.held.Phases.{released_kept, ended_kept}
use Rattle.ada_standing.proofs.held.Suspending.{kept_one}
use Rattle.ada_standing.proofs.held.Remaining.{remains, opened_member, met_member, no_member}
use Rattle.ada_standing.proofs.held.Leaving.{left_alike}

-- whether a call is open after one more event, by what it says
open_is : (event : Event) (before : List Event) (call : ℕ) (d : Event) (c : Call) → event_at before call ≡ Some d → call_in d ≡ Some c
    → is_open_call (event ∷ before) call ≡ is_pending (event ∷ before) call c.by
unfolding is_open_call is_open_at
open_is event before call d c at says = rw (event_at-older event before call d at, says) refl

-- a task's wait stays its own
wait_is : (event : Event) (before : List Event) (u wait : ℕ) (d : Event) (w : Wait) → event_at before wait ≡ Some d → wait_in d ≡ Some w
    → is_wait_of (event ∷ before) u wait ≡ eqb w.by u
unfolding is_wait_of
wait_is event before u wait d w at says = rw (event_at-older event before wait d at, says) refl

taking_suspends : (journal : List Event) (call wait : ℕ) (taking : IsTaking journal call wait) → IsSuspendedAt journal taking.wait.by wait
taking_suspends journal call wait taking =
    let parts = pending_parts journal wait taking.wait.by taking.pending in
    record {
      event = taking.stands.event;
      stands = taking.stands.stands;
      holds = held_in-wait taking.stands.event taking.wait taking.stands.says;
      unreleased = parts.0;
      live = parts.1;
    }

-- the call that a wait takes is open
taking_opens : (journal : List Event) (call wait : ℕ) → IsTaking journal call wait → is_open_call journal call ≡ true
unfolding is_open_call
taking_opens journal call wait taking =
    let queued = (taken_queued journal call wait taking).1 in
    rw queued.opened.stands.stands (is_open_at-from journal queued.call call queued.opened)

pub list_any-at : (test : Event → Bool) (journal : List Event) (q : ℕ) (e : Event) → event_at journal q ≡ Some e → test e ≡ true → list_any test journal ≡ true
unfolding event_at
list_any-at test [] q e at passes = absurd (none-some e at)
list_any-at test (event ∷ before) q e at passes =
    elim (event_at-cases event before q e at) [
      | inl newest ↦ or_left (test event) (list_any test before) (ap test newest.1 ∙ passes)
      | inr older ↦ or_right (test event) (list_any test before) (list_any-at test before q e older passes)
    ]

-- a block that is opened now isn't left
newest_unleft : (event : Event) (before : List Event) → FitsHeld before event → is_left (event ∷ before) (suc (length before)) ≡ false
unfolding is_left
newest_unleft event before fits = false_from_ne_true _ (λ left.
    let (q, e, at, passes) = any_event-found (λ q e. closes_block (suc (length before)) e && is_left_close (event ∷ before) q) (event ∷ before) left in
    true≢false (sym (list_any-at (closes_block (suc (length before))) (event ∷ before) q e at
    (and_parts (closes_block (suc (length before)) e) (is_left_close (event ∷ before) q) passes).0) ∙ fits.unclosed))

module _ (old new : List Event) (names : Renaming) (event copy : Event) (next : AreNext old new names event copy)
    (terminated_kept : TerminatedKept old new names event copy) (completed_kept : CompletedKept old new names event copy) where
  -- a call that was open stays so alike
  pub open_alike : (p q : ℕ) → names.position p ≡ Some q → is_open_call old p ≡ true → is_open_call (copy ∷ new) q ≡ is_open_call (event ∷ old) p
  unfolding is_open_call is_pending
  open_alike p q placed opened =
      let (d, at, here) = option_map_or-true (is_open_at old p) (event_at old p) opened in
      let (u, held) = open_held old p d at here in
      let (a, pair) = pair_forth old new names u p next.stands next.orderly held in
      let same : a ≡ q = same_Some a q (sym pair.placed ∙ placed) in
      subst (λ (n : ℕ). is_open_call (copy ∷ new) n ≡ is_open_call (event ∷ old) p) same (of_pair a pair d at here)
    where
      no_call : (d : Event) → call_in d ≡ None → is_open_at old p d ≡ true → ⊥
      no_call d none here =
          let (c, says, pending) = option_map_or-true (λ (c : Call). is_pending old p c.by) (call_in d) (unfold is_open_at in here) in
          none-some c (sym none ∙ says)

      of_pair : (a : ℕ) (pair : IsPair old new names p a) (d : Event) → event_at old p ≡ Some d → is_open_at old p d ≡ true
          → is_open_call (copy ∷ new) a ≡ is_open_call (event ∷ old) p
      of_pair a pair d at here = elim (calls_alike old new names p a pair.held.event pair.holds.event pair.alike) [
        | AreBoth.both c b is has like ↦
            let released = released_kept old new names event copy next p a pair.placed (pair.holds.unreleased ∙ sym pair.held.unreleased) in
            let ended = ended_kept old new names event copy next terminated_kept completed_kept pair.task pair.stand
            (task_later old new names event copy next pair.task pair.stand pair.named) in
            let by : b.by ≡ pair.stand = call_by new pair.stand a pair.holds b has in
            let caller : c.by ≡ pair.task = call_by old pair.task p pair.held c is in
            open_is copy new a pair.holds.event b pair.holds.stands has
            ∙ (ap (λ n. is_pending (copy ∷ new) a n) by
            ∙ ((λ i. not (released i) && not (ended i))
            ∙ (ap (λ n. is_pending (event ∷ old) p n) (sym caller)
            ∙ sym (open_is event old p pair.held.event c pair.held.stands is))))
        | AreBoth.neither is has ↦
            let one : pair.held.event ≡ d = same_Some pair.held.event d (sym pair.held.stands ∙ at) in
            absurd (no_call d (sym (ap call_in one) ∙ is) here)
      ]

  -- tasks that stand for others are the same alike
  pub by_alike : (t w u v : ℕ) → names.task t ≡ Some w → (next_names old new event names).task u ≡ Some v → eqb w v ≡ eqb t u
  by_alike t w u v first named =
      same_truth (eqb w v) (eqb t u)
      (λ same. eq-eqb t u (kept_one old new names event copy next t u v (first ∙ ap Some (eqb-true w v same)) named))
      (λ same. eq-eqb w v (same_Some w v (sym (task_later old new names event copy next t w first)
      ∙ (ap (next_names old new event names).task (eqb-true t u same) ∙ named))))

  -- a member of a nest stays as the one that stands for it does
  pub member_stays : (u v : ℕ) (x y : Member) → Contains (nest old u) x → Contains (nest new v) y → renamed_member names x ≡ Some y
      → remains (copy ∷ new) y ≡ remains (event ∷ old) x
  unfolding renamed_member
  member_stays u v (BlockMember p) y here there same =
      let (q, placed, made) = option_map-some BlockMember (names.position p) y same in
      let unleft = (own_member old u p here).unleft in
      let still = (own_member new v q (subst (Contains (nest new v)) (sym made) there)).unleft in
      ap (remains (copy ∷ new)) (sym made) ∙ ap not (left_alike old new names event copy next p q placed unleft still)
  member_stays u v (Rendezvous call) y here there same =
      let (q, placed, made) = option_map-some Rendezvous (names.position call) y same in
      ap (remains (copy ∷ new)) (sym made) ∙ open_alike call q placed (nest_open old u call here)

  waits_own : (u v : ℕ) (m n : Meeting) → (next_names old new event names).task u ≡ Some v → meeting_in event ≡ Some m → meeting_in copy ≡ Some n
      → names.position m.wait ≡ Some n.wait → is_wait_of (copy ∷ new) v n.wait ≡ is_wait_of (event ∷ old) u m.wait
  waits_own u v m n named is has placed =
      let taking = next.fits.meets m is in
      let took = next.fitted.meets n has in
      let held = taking_suspends old m.call m.wait taking in
      let (a, pair) = pair_forth old new names taking.wait.by m.wait next.stands next.orderly held in
      let same : a ≡ n.wait = same_Some a n.wait (sym pair.placed ∙ placed) in
      let one : taking.stands.event ≡ pair.held.event =
      same_Some taking.stands.event pair.held.event (sym taking.stands.stands ∙ pair.held.stands) in
      let other : took.stands.event ≡ pair.holds.event =
      same_Some took.stands.event pair.holds.event (sym took.stands.stands ∙ (ap (event_at new) (sym same) ∙ pair.holds.stands)) in
      let by : taking.wait.by ≡ pair.task =
      wait_by old pair.task m.wait pair.held taking.wait (ap wait_in (sym one) ∙ taking.stands.says) in
      let stand : took.wait.by ≡ pair.stand =
      wait_by new pair.stand a pair.holds took.wait (ap wait_in (sym other) ∙ took.stands.says) in
      wait_is copy new v n.wait took.stands.event took.wait took.stands.stands took.stands.says
      ∙ (by_alike taking.wait.by took.wait.by u v (ap names.task by ∙ (pair.named ∙ ap Some (sym stand))) named
      ∙ sym (wait_is event old u m.wait taking.stands.event taking.wait taking.stands.stands taking.stands.says))

  pub added_alike : (u v : ℕ) → (next_names old new event names).task u ≡ Some v
      → option_map Some (member_at (copy ∷ new) v (suc (length new)) copy)
      ≡ option_map (renamed_member (next_names old new event names)) (member_at (event ∷ old) u (suc (length old)) event)
  added_alike u v named = elim (openings_both names event copy (is_like old new names event copy next)) [
    | AreBoth.both o p is has same ↦
        rw (
          opened_member (event ∷ old) u (suc (length old)) event o is,
          opened_member (copy ∷ new) v (suc (length new)) copy p has,
          newest_unleft event old next.fits,
          newest_unleft copy new next.fitted,
          by_alike o.by p.by u v same.by named,
        )
        (given (eqb o.by u && not false) (BlockMember (suc (length old))) (BlockMember (suc (length new)))
        (unfold renamed_member in ap (option_map BlockMember) (position_newest old new names event copy next)))
    | AreBoth.neither no_opening none ↦ elim (meetings_both names event copy (is_like old new names event copy next)) [
      | AreBoth.both m n is has same ↦
          rw (
            met_member (event ∷ old) u (suc (length old)) event m is,
            met_member (copy ∷ new) v (suc (length new)) copy n has,
            waits_own u v m n named is has same.wait,
            open_alike m.call n.call same.call (taking_opens old m.call m.wait (next.fits.meets m is)),
          )
          (given (is_wait_of (event ∷ old) u m.wait && is_open_call (event ∷ old) m.call) (Rendezvous m.call) (Rendezvous n.call)
          (unfold renamed_member in ap (option_map Rendezvous) (position_later old new names event copy next m.call n.call same.call)))
      | AreBoth.neither no_meeting without ↦
          rw (
            no_member (event ∷ old) u (suc (length old)) event no_opening no_meeting,
            no_member (copy ∷ new) v (suc (length new)) copy none without,
          ) refl
    ]
  ]
    where
      given : (b : Bool) (x y : Member) → renamed_member (next_names old new event names) x ≡ Some y
          → option_map Some (then_some b y) ≡ option_map (renamed_member (next_names old new event names)) (then_some b x)
      given true x y same = ap Some (sym same)
      given false x y same = refl
