-- What each kind of event changes in what a task is within.
use Rattle.std.proofs.Common.{◌≡◌, ℕ, suc, ◌-◌, ◌≤◌, Bool, true, false, not, ◌&&◌, eqb, Option, Some, None, List, [], ◌∷◌, ◌++◌, length, sym, refl, ap, ◌∙◌}
use Rattle.std.proofs.Common.{arith, inl, inr, append-nil}
use Rattle.std.specs.Option.{option_map_or, option_or, option_to_list}
use Rattle.std.specs.Bool.{then_some}
use Rattle.std.specs.List.{filter, Contains, list_any}
use Rattle.std.proofs.lemmas.Bool.{and_parts, and_from, or_left, cases_eq, ne_eqb, eq-eqb, eqb-true, not_from_false, false_from_ne_true, true≢false}
use Rattle.std.proofs.lemmas.Option.{none-some, same_Some, slice_get_within, get_or_from_slice_get}
use Rattle.ada_events.specs.declared.event.Event.{Event}
use Rattle.ada_events.specs.declared.event.Event.TheVariants.{Opened, Closed, Left}
use Rattle.ada_events.specs.declared.request.Request.{Request}
use Rattle.ada_events.specs.declared.request.Request.TheVariants as request
use Rattle.ada_events.specs.declared.names.TaskNo.{TaskNo}
use Rattle.ada_events.specs.declared.names.Member.{Member}
use Rattle.ada_events.specs.declared.names.Member.TheVariants.{Block, Rendezvous}
use Rattle.ada_events.specs.Search.{is_number, event_at, gathered, is_some_and}
use Rattle.ada_events.specs.Says.{Call, Opening, Meeting, Closing, call_in, opening_in, meeting_in, closing_in, left_in, released_in}
use Rattle.ada_events.specs.Phases.{is_released}
use Rattle.ada_events.specs.Calls.{is_open_at, is_open_call, is_met}
use Rattle.ada_events.specs.Nests.{is_left, is_left_close, is_wait_of, member_at, nest, innermost}
use Rattle.ada_events.specs.Asks.{asked_event, member_position}
use Rattle.ada_events.specs.Refusals.{refusal, has_no_block, is_rendezvous}
use Rattle.ada_events.specs.Lawful.{IsLawful}
use Rattle.ada_laws.specs.Calls.{IsOpenCallAt}
use Rattle.ada_laws.proofs.searching.Searching.{event_at-older, event_at-within, event_at-cases, any_event-found, any_event-from}
use Rattle.ada_laws.proofs.searching.Searching.{option_map_or-true, is_number-some, is_number-from}
use Rattle.ada_laws.proofs.within.Members.{IsMember as Stands, nest_member as stands_there, nest_met}
use Rattle.ada_laws.proofs.within.Members.IsMember.{block_in, rendezvous_in}
use Rattle.ada_laws.proofs.searching.Gathering.{Contains-first, Contains-later}
use Rattle.ada_laws.proofs.searching.Growing.{is_released-before, has_ended-before}
use Rattle.ada_laws.proofs.asking.Accepting.{is_accepted}
use Rattle.ada_laws.proofs.within.Framing.{nest_block}
use Rattle.ada_laws.proofs.queues.Meeting.{meeting_in-met, meeting_at}
use Rattle.ada_laws.proofs.queues.Queueing.{is_open_at-from, is_open_at-call}
use Rattle.ada_laws.proofs.searching.Saying.{held_in-closing, left_frees}
use Rattle.ada_laws.proofs.forced.Stepping.{forced-step}
use Rattle.ada_laws.proofs.within.Leaving.{left_more}
use Rattle.ada_step_laws.specs.Changes.{is_beside_block, BlocksAreEntered, BlocksAreLeft, OthersKeepNests}
use Rattle.ada_step_laws.proofs.changing.Callers.{joined_caller_stays}
use Rattle.ada_step_laws.proofs.changing.LeftBlocks.{left_cases}
use Rattle.ada_step_laws.proofs.changing.QueueChanges.{has_ended-more}
use Rattle.ada_step_laws.proofs.changing.Unnesting.{kept, gathered-filtered}
use Rattle.ada_step_laws.proofs.changing.Nesting.{and_true}
use Rattle.ada_events.proofs.Positions.{event_at-other}

-- the member stays in its nest
abbrev pub stays : Event → List Event → Member → Bool
stays event before (Block p) = not (is_left (event ∷ before) p)
stays event before (Rendezvous call) = is_open_call (event ∷ before) call

-- a call that is open was open before
open_before : (event : Event) (before : List Event) (call : ℕ) → call ≤ length before → is_open_call (event ∷ before) call ≡ true
    → is_open_call before call ≡ true
unfolding is_open_call
open_before event before call within opened =
    let (e, at, here) = option_map_or-true (is_open_at (event ∷ before) call) (event_at (event ∷ before) call) opened in
    let (c, says, still) = is_open_at-call (event ∷ before) call e at here in
    let older : event_at before call ≡ Some e = sym (event_at-other event before call (λ same. omega (arith, same, within))) ∙ at in
    rw older
    (is_open_at-from before c call (record {
      stands = record { event = e; stands = older; says = says };
      unreleased = is_released-before event before call still.unreleased;
      live = has_ended-before event before c.by still.live;
    }))

older_wait : (event : Event) (before : List Event) (task wait : ℕ) → wait ≤ length before → is_wait_of (event ∷ before) task wait ≡ is_wait_of before task wait
unfolding is_wait_of
older_wait event before task wait within = rw (event_at-other event before wait (λ same. omega (arith, same, within))) refl

of_opening : (event : Event) (before : List Event) (task p : ℕ) (o : Opening)
    → option_map_or (λ (o : Opening). then_some (eqb o.by task && not (is_left (event ∷ before) p)) (Block p)) (Some o) None
    ≡ kept (stays event before) (option_map_or (λ (o : Opening). then_some (eqb o.by task && not (is_left before p)) (Block p)) (Some o) None)
of_opening event before task p o = bits (eqb o.by task) (is_left before p) (is_left (event ∷ before) p) refl (left_more event before p)
  where
    bits : (mine old new : Bool) → is_left (event ∷ before) p ≡ new → (old ≡ true → new ≡ true)
        → then_some (mine && not new) (Block p) ≡ kept (stays event before) (then_some (mine && not old) (Block p))
    bits false old new is more = refl
    bits true true true is more = refl
    bits true true false is more = absurd (cc (more refl))
    bits true false true is more = rw is refl
    bits true false false is more = rw is refl

of_meeting : (event : Event) (before : List Event) (task : ℕ) (m : Meeting) → m.wait ≤ length before → m.call ≤ length before
    → option_map_or (λ (m : Meeting). then_some (is_wait_of (event ∷ before) task m.wait && is_open_call (event ∷ before) m.call) (Rendezvous m.call)) (Some m)
    None ≡ kept (stays event before) (option_map_or
    (λ (m : Meeting). then_some (is_wait_of before task m.wait && is_open_call before m.call) (Rendezvous m.call)) (Some m) None)
of_meeting event before task m wait call =
    rw (older_wait event before task m.wait wait)
    (bits (is_wait_of before task m.wait) (is_open_call before m.call) (is_open_call (event ∷ before) m.call) refl (open_before event before m.call call))
  where
    bits : (mine old new : Bool) → is_open_call (event ∷ before) m.call ≡ new → (new ≡ true → old ≡ true)
        → then_some (mine && new) (Rendezvous m.call) ≡ kept (stays event before) (then_some (mine && old) (Rendezvous m.call))
    bits false old new is fewer = refl
    bits true true true is fewer = rw is refl
    bits true true false is fewer = rw is refl
    bits true false true is fewer = absurd (cc (fewer refl))
    bits true false false is fewer = refl

opens_meets_none : (e : Event) (o : Opening) → opening_in e ≡ Some o → meeting_in e ≡ None
unfolding opening_in meeting_in
opens_meets_none (Opened by under) o says = refl
opens_meets_none _ o says = absurd (none-some o says)

-- what an older event puts into a nest stays there or not
older_member : (event : Event) (before : List Event) (task p : ℕ) (e : Event) → IsLawful (event ∷ before) → event_at before p ≡ Some e
    → member_at (event ∷ before) task p e ≡ kept (stays event before) (member_at before task p e)
unfolding member_at
older_member event before task p e lawful at = by_opening (opening_in e) (meeting_in e) refl refl
  where
    by_meeting : (m : Option Meeting) → meeting_in e ≡ m
        → option_map_or (λ (m : Meeting). then_some (is_wait_of (event ∷ before) task m.wait && is_open_call (event ∷ before) m.call) (Rendezvous m.call)) m
        None ≡ kept (stays event before) (option_map_or
        (λ (m : Meeting). then_some (is_wait_of before task m.wait && is_open_call before m.call) (Rendezvous m.call)) m None)
    by_meeting None says = refl
    by_meeting (Some m) says =
        let is = meeting_at before m.call m.wait p lawful.0 (at ∙ ap Some (meeting_in-met e m says)) in
        of_meeting event before task m
        (event_at-within before m.wait is.wait_stands.event is.wait_stands.stands)
        (event_at-within before m.call is.call_stands.event is.call_stands.stands)

    without : (x : Option Member) → option_or x None ≡ x
    without None = refl
    without (Some x) = refl

    by_opening : (o : Option Opening) (m : Option Meeting) → opening_in e ≡ o → meeting_in e ≡ m
        → option_or (option_map_or (λ (o : Opening). then_some (eqb o.by task && not (is_left (event ∷ before) p)) (Block p)) o None)
        (option_map_or (λ (m : Meeting). then_some (is_wait_of (event ∷ before) task m.wait && is_open_call (event ∷ before) m.call) (Rendezvous m.call)) m
        None) ≡ kept (stays event before) (option_or (option_map_or (λ (o : Opening). then_some (eqb o.by task && not (is_left before p)) (Block p)) o None)
        (option_map_or (λ (m : Meeting). then_some (is_wait_of before task m.wait && is_open_call before m.call) (Rendezvous m.call)) m None))
    by_opening None m says meets = by_meeting m meets
    by_opening (Some o) None says meets =
        without (option_map_or (λ (o : Opening). then_some (eqb o.by task && not (is_left (event ∷ before) p)) (Block p)) (Some o) None)
        ∙ of_opening event before task p o
        ∙ ap (kept (stays event before)) (sym (without
        (option_map_or (λ (o : Opening). then_some (eqb o.by task && not (is_left before p)) (Block p)) (Some o) None)))
    by_opening (Some o) (Some m) says meets = absurd (none-some m (sym (opens_meets_none e o says) ∙ meets))

-- a nest after one more event: what stays of it, and what the event puts into it
pub nest_more : (event : Event) (before : List Event) (task : ℕ) → IsLawful (event ∷ before)
    → nest (event ∷ before) task ≡ filter (stays event before) (nest before task)
    ++ option_to_list (member_at (event ∷ before) task (suc (length before)) event)
unfolding nest gathered
nest_more event before task lawful =
    ap (λ xs. xs ++ option_to_list (member_at (event ∷ before) task (suc (length before)) event))
    (gathered-filtered (member_at before task) (member_at (event ∷ before) task) (stays event before) before
    (λ p e at. older_member event before task p e lawful at))

-- tests that agree on the elements of a list keep the same of it
filter_alike : {A : Type 0} (f g : A → Bool) (xs : List A) → ((x : A) → Contains xs x → f x ≡ g x) → filter f xs ≡ filter g xs
filter_alike f g [] same = refl
filter_alike f g (x ∷ xs) same =
    rw (same x (Contains-first x xs), filter_alike f g xs (λ y has. same y (Contains-later x y xs has))) refl

filter_whole : {A : Type 0} (f : A → Bool) (xs : List A) → ((x : A) → Contains xs x → f x ≡ true) → filter f xs ≡ xs
filter_whole f [] all = refl
filter_whole f (x ∷ xs) all =
    rw (all x (Contains-first x xs), filter_whole f xs (λ y has. all y (Contains-later x y xs has))) refl

-- what a member of a nest is
pub data IsMember (journal : List Event) (task : ℕ) : Member → Type 0 where
  of_block : (p : ℕ) → is_left journal p ≡ false → IsMember journal task (Block p)
  of_rendezvous : (call : ℕ) (c : Call) → IsOpenCallAt journal c call → is_met journal call ≡ true → IsMember journal task (Rendezvous call)

pub nest_member : (journal : List Event) (task : ℕ) (x : Member) → IsLawful journal → Contains (nest journal task) x → IsMember journal task x
unfolding is_open_call
nest_member journal task x lawful contains = of_member x contains (stands_there journal task x contains)
  where
    of_member : (x : Member) → Contains (nest journal task) x → Stands journal task x → IsMember journal task x
    of_member (Block p) has (block_in q e o at says by unleft) = of_block p unleft
    of_member (Rendezvous call) has (rendezvous_in p q e m same at says waits unended) =
        let (f, stands, here) = option_map_or-true (is_open_at journal call) (event_at journal call) unended in
        let (c, calls, is) = is_open_at-call journal call f stands here in
        of_rendezvous call c is (nest_met journal task call has)

-- a rendezvous stays in a nest unless its call is released
rendezvous_stays : (event : Event) (before : List Event) (call : ℕ) (c : Call) → IsLawful (event ∷ before) → IsOpenCallAt before c call
    → is_met before call ≡ true → is_open_call (event ∷ before) call ≡ not (is_number call (released_in event))
unfolding is_open_call is_released
rendezvous_stays event before call c lawful opened met = by_release (is_number call (released_in event)) refl
  where
    by_release : (b : Bool) → is_number call (released_in event) ≡ b → is_some_and (event_at (event ∷ before) call) (is_open_at (event ∷ before) call) ≡ not b
    by_release true now =
        false_from_ne_true (is_some_and (event_at (event ∷ before) call) (is_open_at (event ∷ before) call)) (λ still.
        let (e, at, here) = option_map_or-true (is_open_at (event ∷ before) call) (event_at (event ∷ before) call) still in
        let (d, says, is) = is_open_at-call (event ∷ before) call e at here in
        let freed : is_released (event ∷ before) call ≡ true = rw now refl in
        true≢false (sym freed ∙ is.unreleased))
    by_release false now =
        let at = event_at-older event before call opened.stands.event opened.stands.stands in
        rw at
        (is_open_at-from (event ∷ before) c call (record {
          stands = record { event = opened.stands.event; stands = at; says = opened.stands.says };
          unreleased = rw now opened.unreleased;
          live = has_ended-more event before c.by ∙ rw (joined_caller_stays event before c call lawful opened met) opened.live;
        }))

-- a block stays in a nest unless the event leaves one
block_stays : (event : Event) (before : List Event) (p : ℕ) → IsLawful (event ∷ before) → left_in event ≡ None → is_left before p ≡ false
    → is_left (event ∷ before) p ≡ false
block_stays event before p lawful leaves unleft =
    false_from_ne_true (is_left (event ∷ before) p) (λ left.
    elim (left_cases event before p lawful left) [
      | inl gone ↦ none-some gone.at (sym leaves ∙ gone.leaves)
      | inr was ↦ true≢false (sym was ∙ unleft)
    ])

leaves_none : (event : Event) → released_in event ≡ None → left_in event ≡ None
leaves_none event frees = by_case (left_in event) refl
  where
    by_case : (o : Option ℕ) → left_in event ≡ o → o ≡ None
    by_case None says = refl
    by_case (Some c) says = absurd (none-some c (sym frees ∙ left_frees event c says))

-- an event that releases nothing takes nothing out of a nest
all_stay : (event : Event) (before : List Event) (task : ℕ) → IsLawful (event ∷ before) → released_in event ≡ None
    → filter (stays event before) (nest before task) ≡ nest before task
all_stay event before task lawful frees =
    filter_whole (stays event before) (nest before task) (λ x has. by_member x (nest_member before task x lawful.0 has))
  where
    by_member : (x : Member) → IsMember before task x → stays event before x ≡ true
    by_member x (of_block p unleft) = not_from_false (is_left (event ∷ before) p) (block_stays event before p lawful (leaves_none event frees) unleft)
    by_member x (of_rendezvous call c opened met) = rendezvous_stays event before call c lawful opened met ∙ rw frees refl

pub others_keep_nests : OthersKeepNests
unfolding member_at
others_keep_nests event before task lawful opens meets frees =
    nest_more event before task lawful
    ∙ rw (all_stay event before task lawful frees, opens, meets) (append-nil (nest before task))

opening_only : (e : Event) (o : Opening) → opening_in e ≡ Some o → (meeting_in e ≡ None) × (released_in e ≡ None) × (closing_in e ≡ None)
unfolding opening_in meeting_in released_in closing_in
opening_only (Opened by under) o says = (refl, refl, refl)
opening_only _ o says = absurd (none-some o says)

block_within : (journal : List Event) (task b : ℕ) (o : Option Member) → innermost (nest journal task) ≡ o → option_map_or is_rendezvous o true ≡ false
    → member_position o ≡ b → b ≤ length journal
block_within journal task b None is block same = absurd (true≢false block)
block_within journal task b (Some (Rendezvous call)) is block same = absurd (true≢false block)
block_within journal task b (Some (Block p)) is block same =
    let place = length (nest journal task) - 1 in
    let own = nest_block journal task p (
      place,
      slice_get_within (nest journal task) place (Block p) is,
      get_or_from_slice_get (nest journal task) place
          (Block p) (Block p) is,
    ) in
    let within : p ≤ length journal = event_at-within journal p own.event own.stands in
    omega (arith, within, same)

asked_within : (journal : List Event) (r : Request) (k : Closing) → refusal journal r ≡ None → closing_in (asked_event journal r) ≡ Some k
    → k.block ≤ length journal
unfolding asked_event closing_in has_no_block
asked_within journal (request.Close by) k accepted says =
    block_within journal by.0 k.block (innermost (nest journal by.0)) refl (is_accepted journal (request.Close by) accepted).in_block
    (ap (λ (x : Closing). x.block) (same_Some _ k says))
asked_within journal _ k accepted says = absurd (none-some k says)

-- what is closed was opened before
closing_within : (journal : List Event) (p : ℕ) (e : Event) (k : Closing) → IsLawful journal → event_at journal p ≡ Some e → closing_in e ≡ Some k
    → k.block ≤ length journal
unfolding event_at
closing_within [] p e k lawful at says = absurd (none-some e at)
closing_within (event ∷ before) p e k lawful at says =
    elim (event_at-cases event before p e at) [
      | inl newest ↦
          let now : closing_in event ≡ Some k = ap closing_in newest.1 ∙ says in
          elim lawful.1 [
            | inl forces ↦ absurd (none-some k.by (sym (forced-step before event forces).holds_none ∙ held_in-closing event k now))
            | inr asked ↦
                let within : k.block ≤ length before = asked_within before asked.request k asked.accepted (ap closing_in (sym asked.becomes) ∙ now) in
                omega (arith, within)
          ]
      | inr older ↦
          let within : k.block ≤ length before = closing_within before p e k lawful.0 older says in
          omega (arith, within)
    ]

-- what was just opened isn't left
newest_unleft : (event : Event) (before : List Event) (o : Opening) → IsLawful (event ∷ before) → opening_in event ≡ Some o
    → is_left (event ∷ before) (suc (length before)) ≡ false
unfolding is_left
newest_unleft event before o lawful says =
    false_from_ne_true (is_left (event ∷ before) (suc (length before))) (λ left.
    elim (left_cases event before (suc (length before)) lawful left) [
      | inl gone ↦ none-some gone.at (sym (leaves_none event (opening_only event o says).1) ∙ gone.leaves)
      | inr was ↦
          let (q, e, at, passes) = any_event-found (λ q e. is_some_and (closing_in e) (λ (c : Closing). eqb c.block (suc (length before)))
          && is_left_close before q) before was in
          let (k, closes, same) = option_map_or-true (λ (c : Closing). eqb c.block (suc (length before))) (closing_in e)
          (and_parts (is_some_and (closing_in e) (λ (c : Closing). eqb c.block (suc (length before)))) (is_left_close before q) passes).0 in
          let within : k.block ≤ length before = closing_within before q e k lawful.0 at closes in
          omega (arith, within, eqb-true k.block (suc (length before)) same)
    ])

or_none : (x : Option Member) → option_or x None ≡ x
or_none None = refl
or_none (Some x) = refl

pub blocks_are_entered : BlocksAreEntered
unfolding member_at
blocks_are_entered event before task opening lawful says =
    let only = opening_only event opening says in
    nest_more event before task lawful
    ∙ rw (all_stay event before task lawful only.1, says, only.0, newest_unleft event before opening lawful says, and_true (eqb opening.by task))
    (ap (λ (o : Option Member). nest before task ++ option_to_list o) (or_none (then_some (eqb opening.by task) (Block (suc (length before))))))

leaving_only : (e : Event) (close : ℕ) → left_in e ≡ Some close → (opening_in e ≡ None) × (meeting_in e ≡ None)
unfolding left_in opening_in meeting_in
leaving_only (Left at) close says = (refl, refl)
leaving_only _ close says = absurd (none-some close says)

pub closed_says : (by : TaskNo) (block : ℕ) → closing_in (Closed by block) ≡ Some (record { by = by.0; block = block })
unfolding closing_in
closed_says by block = refl

closed_calls_none : (by : TaskNo) (block : ℕ) → call_in (Closed by block) ≡ None
unfolding call_in
closed_calls_none by block = refl

-- the block whose close is left is left, and no other newly
left_now : (event : Event) (before : List Event) (p close block : ℕ) (by : TaskNo) → IsLawful (event ∷ before) → left_in event ≡ Some close
    → event_at before close ≡ Some (Closed by block) → is_left before p ≡ false → is_left (event ∷ before) p ≡ eqb p block
unfolding is_left is_left_close
left_now event before p close block by lawful leaves at unleft = elim (cases_eq p block) [
  | inl same ↦
      rw (eq-eqb p block same)
      (any_event-from (λ q e. is_some_and (closing_in e) (λ (c : Closing). eqb c.block p) && is_left_close (event ∷ before) q) (event ∷ before) close
      (Closed by block) (event_at-older event before close (Closed by block) at)
      (and_from (is_some_and (closing_in (Closed by block)) (λ (c : Closing). eqb c.block p)) (is_left_close (event ∷ before) close)
      (rw (closed_says by block) (eq-eqb block p (sym same)))
      (or_left (is_number close (left_in event)) (list_any (λ (e : Event). is_number close (left_in e)) before) (is_number-from close (left_in event) leaves))))
  | inr other ↦
      rw (ne_eqb p block other)
      (false_from_ne_true (is_left (event ∷ before) p) (λ left.
      elim (left_cases event before p lawful left) [
        | inl gone ↦
            let place : gone.at ≡ close = same_Some gone.at close (sym gone.leaves ∙ leaves) in
            let one : gone.closed ≡ Closed by block = same_Some gone.closed (Closed by block) (sym gone.stands ∙ ap (event_at before) place ∙ at) in
            let same : gone.closing ≡ record { by = by.0; block = block } = same_Some _ _ (sym gone.says ∙ ap closing_in one ∙ closed_says by block) in
            other (sym gone.block ∙ ap (λ (c : Closing). c.block) same)
        | inr was ↦ true≢false (sym was ∙ unleft)
      ]))
]

pub blocks_are_left : BlocksAreLeft
unfolding member_at
blocks_are_left event before task close block by lawful leaves at =
    let only = leaving_only event close leaves in
    nest_more event before task lawful
    ∙ rw (only.0, only.1) (append-nil (filter (stays event before) (nest before task)))
    ∙ filter_alike (stays event before) (is_beside_block block) (nest before task) (λ x has. by_member x (nest_member before task x lawful.0 has))
  where
    not_released : (call : ℕ) (c : Call) → IsOpenCallAt before c call → is_number call (released_in event) ≡ false
    not_released call c opened =
        false_from_ne_true (is_number call (released_in event)) (λ frees.
        let place : call ≡ close = same_Some call close (sym (is_number-some call (released_in event) frees) ∙ left_frees event close leaves) in
        let one : opened.stands.event ≡ Closed by block = same_Some opened.stands.event (Closed by block)
        (sym opened.stands.stands ∙ ap (event_at before) place ∙ at) in
        none-some c (sym (closed_calls_none by block) ∙ ap call_in (sym one) ∙ opened.stands.says))

    by_member : (x : Member) → IsMember before task x → stays event before x ≡ is_beside_block block x
    by_member x (of_block p unleft) = ap not (left_now event before p close block by lawful leaves at unleft)
    by_member x (of_rendezvous call c opened met) = rendezvous_stays event before call c lawful opened met ∙ rw (not_released call c opened) refl
