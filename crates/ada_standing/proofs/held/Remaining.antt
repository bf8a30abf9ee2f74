-- A nest after one more event: the members that are still there, followed by what the event itself puts in.
use Rattle.std.proofs.Common.{◌≡◌, ℕ, suc, ◌≤◌, Bool, true, false, not, ◌&&◌, eqb, Option, Some, None, List, [], ◌∷◌, ◌++◌, length, filter, option_to_list}
use Rattle.std.proofs.Common.{refl, sym, ap, ◌∙◌, arith}
use Rattle.std.specs.Bool.{then_some}
use Rattle.std.specs.Option.{option_or, option_and_then}
use Rattle.std.proofs.lemmas.Bool.{false≢true, not-true, not_from_false}
use Rattle.std.proofs.lemmas.Option.{none-some}
use Rattle.std.proofs.lemmas.List.Elements.{filter-append}
use Rattle.ada_events.specs.declared.event.Event.{Event}
use Rattle.ada_events.specs.declared.event.Event.TheVariants as event
use Rattle.ada_events.specs.declared.names.Member.{Member}
use Rattle.ada_events.specs.declared.names.Member.TheVariants.{Block as BlockMember, Rendezvous}
use Rattle.ada_events.specs.Search.{is_some_and, gathered, event_at}
use Rattle.ada_events.specs.Says.{Opening, Meeting, Wait, opening_in, meeting_in, wait_in}
use Rattle.ada_events.specs.Calls.{is_open_at, is_open_call}
use Rattle.ada_events.specs.Nests.{is_left, is_wait_of, member_at, nest}
use Rattle.ada_laws.specs.Calls.{IsOpenCallAt}
use Rattle.ada_laws.proofs.searching.Searching.{event_at-older, event_at-newest, option_map_or-true}
use Rattle.ada_laws.proofs.searching.Growing.{is_released-before, has_ended-before}
use Rattle.ada_laws.proofs.queues.Queueing.{is_open_at-call, is_open_at-from}
use Rattle.ada_laws.proofs.within.Leaving.{unleft_before}
use Rattle.ada_standing.proofs.held.Fitting.{FitsHeld}
use Rattle.ada_events.proofs.Positions.{event_at-other}

-- the member is still there
abbrev pub remains : List Event → Member → Bool
remains journal (BlockMember p) = not (is_left journal p)
remains journal (Rendezvous call) = is_open_call journal call

-- the member, where it passes
abbrev narrow : (Member → Bool) → Option Member → Option Member
narrow test o = option_and_then (λ (x : Member). then_some (test x) x) o

filter_one : (test : Member → Bool) (o : Option Member) → option_to_list (narrow test o) ≡ filter test (option_to_list o)
filter_one test None = refl
filter_one test (Some x) = by_test (test x) refl
  where
    by_test : (b : Bool) → test x ≡ b → option_to_list (then_some (test x) x) ≡ filter test (x ∷ [])
    by_test true is = rw is refl
    by_test false is = rw is refl

-- what is gathered where each event gives less
gathered_less : (give there : ℕ → Event → Option Member) (test : Member → Bool) (journal : List Event)
    → ((p : ℕ) (d : Event) → event_at journal p ≡ Some d → there p d ≡ narrow test (give p d)) → gathered there journal ≡ filter test (gathered give journal)
unfolding gathered
gathered_less give there test [] less = refl
gathered_less give there test (event ∷ before) less =
    (λ i. gathered_less give there test before (λ p d at. less p d (event_at-older event before p d at)) i
    ++ option_to_list (less (suc (length before)) event (event_at-newest event before) i))
    ∙ ap (λ (l : List Member). filter test (gathered give before) ++ l) (filter_one test (give (suc (length before)) event))
    ∙ sym (filter-append test (gathered give before) (option_to_list (give (suc (length before)) event)))

opening_meets_none : (e : Event) (o : Opening) → opening_in e ≡ Some o → meeting_in e ≡ None
unfolding opening_in meeting_in
opening_meets_none (event.Opened by under) o says = refl
opening_meets_none _ o says = absurd (none-some o says)

meeting_opens_none : (e : Event) (m : Meeting) → meeting_in e ≡ Some m → opening_in e ≡ None
unfolding opening_in meeting_in
meeting_opens_none (event.Met call wait) m says = refl
meeting_opens_none _ m says = absurd (none-some m says)

-- what an event puts into a nest, by what it says

pub opened_member : (journal : List Event) (u p : ℕ) (d : Event) (o : Opening) → opening_in d ≡ Some o
    → member_at journal u p d ≡ then_some (eqb o.by u && not (is_left journal p)) (BlockMember p)
unfolding member_at
opened_member journal u p d o says = rw (says, opening_meets_none d o says) (first (eqb o.by u && not (is_left journal p)))
  where
    first : (b : Bool) → option_or (then_some b (BlockMember p)) None ≡ then_some b (BlockMember p)
    first true = refl
    first false = refl

pub met_member : (journal : List Event) (u p : ℕ) (d : Event) (m : Meeting) → meeting_in d ≡ Some m
    → member_at journal u p d ≡ then_some (is_wait_of journal u m.wait && is_open_call journal m.call) (Rendezvous m.call)
unfolding member_at
met_member journal u p d m says = rw (says, meeting_opens_none d m says) refl

pub no_member : (journal : List Event) (u p : ℕ) (d : Event) → opening_in d ≡ None → meeting_in d ≡ None → member_at journal u p d ≡ None
unfolding member_at
no_member journal u p d no_opening no_meeting = rw (no_opening, no_meeting) refl

-- a call that is open after an event was open before
open_before : (event : Event) (before : List Event) (call : ℕ) → call ≤ length before → is_open_call (event ∷ before) call ≡ true
    → is_open_call before call ≡ true
unfolding is_open_call
open_before event before call within opened =
    let (d, at, is) = option_map_or-true (is_open_at (event ∷ before) call) (event_at (event ∷ before) call) opened in
    let (c, says, now) = is_open_at-call (event ∷ before) call d at is in
    let older : event_at before call ≡ Some d = sym (event_at-other event before call (λ same. omega (arith, same, within))) ∙ at in
    let was : IsOpenCallAt before c call = record {
      stands = record { event = d; stands = older; says = says };
      unreleased = is_released-before event before call now.unreleased;
      live = has_ended-before event before c.by now.live;
    } in
    rw older (is_open_at-from before c call was)

wait_later : (event : Event) (before : List Event) (u wait : ℕ) → wait ≤ length before → is_wait_of (event ∷ before) u wait ≡ is_wait_of before u wait
unfolding is_wait_of
wait_later event before u wait within =
    ap (λ (o : Option Event). is_some_and (option_and_then wait_in o) (λ (w : Wait). eqb w.by u))
    (event_at-other event before wait (λ same. omega (arith, same, within)))

narrowed : (x : Member) (test : Member → Bool) (b a c : Bool) → test x ≡ c → (c ≡ true → a ≡ true)
    → then_some (b && c) x ≡ narrow test (then_some (b && a) x)
narrowed x test false a c is less = refl
narrowed x test true true c is less = ap (λ b. then_some b x) (sym is)
narrowed x test true false false is less = refl
narrowed x test true false true is less = absurd (false≢true (less refl))

module _ (event : Event) (before : List Event) (fits : FitsHeld before event) where
  member_less : (u p : ℕ) (d : Event) → event_at before p ≡ Some d
      → member_at (event ∷ before) u p d ≡ narrow (remains (event ∷ before)) (member_at before u p d)
  member_less u p d at = by_opening (opening_in d) refl (meeting_in d) refl
    where
      by_opening : (o : Option Opening) → opening_in d ≡ o → (m : Option Meeting) → meeting_in d ≡ m
          → member_at (event ∷ before) u p d ≡ narrow (remains (event ∷ before)) (member_at before u p d)
      by_opening (Some o) says m tells =
          rw (opened_member (event ∷ before) u p d o says, opened_member before u p d o says)
          (narrowed (BlockMember p) (remains (event ∷ before)) (eqb o.by u) (not (is_left before p)) (not (is_left (event ∷ before) p)) refl
          (λ unleft. not_from_false (is_left before p) (unleft_before event before p (not-true (is_left (event ∷ before) p) unleft))))
      by_opening None says (Some m) tells =
          let within = fits.meetings p d m at tells in
          rw (met_member (event ∷ before) u p d m tells, met_member before u p d m tells, wait_later event before u m.wait within.1)
          (narrowed (Rendezvous m.call) (remains (event ∷ before)) (is_wait_of before u m.wait) (is_open_call before m.call)
          (is_open_call (event ∷ before) m.call) refl (λ opened. open_before event before m.call within.0 opened))
      by_opening None says None tells = rw (no_member (event ∷ before) u p d says tells, no_member before u p d says tells) refl

  pub nest_next : (u : ℕ) → nest (event ∷ before) u
      ≡ filter (remains (event ∷ before)) (nest before u) ++ option_to_list (member_at (event ∷ before) u (suc (length before)) event)
  unfolding nest gathered
  nest_next u =
      ap (λ (l : List Member). l ++ option_to_list (member_at (event ∷ before) u (suc (length before)) event))
      (gathered_less (member_at before u) (member_at (event ∷ before) u) (remains (event ∷ before)) before (member_less u))
