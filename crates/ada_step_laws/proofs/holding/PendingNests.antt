-- What a task is within while it waits, or while a block that it closed waits for its dependents.
use Rattle.std.proofs.Common.{◌≡◌, ℕ, zero, suc, ◌+◌, ◌-◌, ◌<◌, ◌≤◌, Bool, true, false, cond, not, ◌&&◌, eqb, Option, Some, None, List, [], ◌∷◌, ◌++◌, length}
use Rattle.std.proofs.Common.{refl, sym, ap, ◌∙◌, subst, arith, inl, inr, append-nil}
use Rattle.std.specs.Option.{option_map_or, option_or}
use Rattle.std.specs.Bool.{then_some}
use Rattle.std.specs.List.{filter, list_any, slice_get}
use Rattle.std.proofs.lemmas.Bool.{eq-eqb, eqb-true, leb-false, or_left, or_right, or_parts, true≢false, false≢true, false_from_ne_true}
use Rattle.std.proofs.lemmas.List.Elements.{filter-append}
use Rattle.std.proofs.lemmas.Option.{none-some, same_Some}
use Rattle.ada_events.specs.declared.event.Event.{Event}
use Rattle.ada_events.specs.declared.limits.TheConstants.{MOST_MEMBERS}
use Rattle.ada_events.specs.declared.request.Request.{Request}
use Rattle.ada_events.specs.declared.request.Request.TheVariants as request
use Rattle.ada_events.specs.declared.request.Tail.TheVariants.{Nothing, Otherwise, Delays, Terminate}
use Rattle.ada_events.specs.declared.names.Master.TheVariants.{Block as BlockMaster}
use Rattle.ada_events.specs.declared.names.Member.{Member}
use Rattle.ada_events.specs.declared.names.Member.TheVariants.{Block, Rendezvous}
use Rattle.ada_events.specs.Search.{event_at}
use Rattle.ada_events.specs.Says.{Opening, Closing, Meeting, Wait, opening_in, closing_in, meeting_in, wait_in, wait_at, held_in, released_in}
use Rattle.ada_events.specs.Phases.{is_released, has_ended, is_running}
use Rattle.ada_events.specs.Calls.{is_open_call, is_pending}
use Rattle.ada_events.specs.Nests.{is_left, is_wait_of, member_at, nest, innermost}
use Rattle.ada_events.specs.Asks.{asked_event, member_position}
use Rattle.ada_events.specs.Refusals.{refusal, has_no_block, is_rendezvous, terminates_in_accept}
use Rattle.ada_events.specs.Limits.{is_too_deep}
use Rattle.ada_events.specs.Termination.{all_terminated, is_open_terminate}
use Rattle.ada_events.specs.Forced.{is_to_leave}
use Rattle.ada_events.specs.Lawful.{IsLawful, MayFollow}
use Rattle.ada_laws.specs.Suspension.{IsSuspendedAt}
use Rattle.ada_laws.proofs.asking.Accepting.{is_accepted, running_free}
use Rattle.ada_laws.proofs.searching.Growing.{is_released-before, is_released-now, has_ended-before}
use Rattle.ada_laws.proofs.queues.Meeting.{met_taking, meeting_in-met}
use Rattle.ada_laws.proofs.within.Reaching.{opening_asked}
use Rattle.ada_laws.proofs.searching.Saying.{held_in-closing, held_in-wait, left_frees}
use Rattle.ada_laws.proofs.searching.Searching.{event_at-cases, option_map_or-true}
use Rattle.ada_laws.proofs.forced.Stepping.{forced-step, pending_parts}
use Rattle.ada_laws.proofs.held.Suspending.{is_suspended-from, suspended_once}
use Rattle.ada_laws.proofs.within.Innermost.{innermost_last}
use Rattle.ada_step_laws.proofs.changing.Holding.{hold_only, held_opens_none}
use Rattle.ada_step_laws.proofs.changing.LeftBlocks.{left_cases}
use Rattle.ada_step_laws.proofs.changing.Nesting.{wait_same}
use Rattle.ada_step_laws.proofs.changing.NestKinds.{nest_more, others_keep_nests, stays}
use Rattle.ada_step_laws.proofs.changing.Saying.{met_frees}
use Rattle.ada_events.specs.Holders.{has_block, is_block}
use Rattle.ada_step_laws.specs.Pending.{ClosedBlocksAreInnermost, WaitsHaveRoom, OpenTerminatesAreInNoRendezvous}
use Rattle.ada_step_laws.proofs.holding.NestedBlocks.{leaves_ready}
use Rattle.ada_laws.proofs.within.Owners.{block_in_nest, one_holder}

-- the member is the innermost
abbrev pub EndsWith : Member → List Member → Type 0
EndsWith x members = (outer : List Member) × (members ≡ outer ++ x ∷ [])

ends_at : (members : List Member) (k : ℕ) (x : Member) → length members ≡ k + 1 → slice_get members k ≡ Some x → EndsWith x members
ends_at [] k x many is = absurd (omega (arith, many))
ends_at (y ∷ []) zero x many is = ([], ap (λ (z : Member). z ∷ []) (same_Some y x is))
ends_at (y ∷ z ∷ rest) zero x many is = absurd (omega (arith, many))
ends_at (y ∷ rest) (suc k) x many is =
    let further = ends_at rest k x (omega (arith, many)) is in
    (y ∷ further.0, ap (λ (xs : List Member). y ∷ xs) further.1)

ends_with : (members : List Member) (x : Member) → innermost members ≡ Some x → EndsWith x members
ends_with [] x is = absurd (none-some x is)
ends_with (y ∷ rest) x is = ends_at (y ∷ rest) (length (y ∷ rest) - 1) x (omega arith) is

pub has_last : (b : ℕ) (outer : List Member) → has_block b (outer ++ Block b ∷ []) ≡ true
has_last b [] = or_left (eqb b b) false (eq-eqb b b refl)
has_last b (y ∷ rest) = or_right (is_block b y) (has_block b (rest ++ Block b ∷ [])) (has_last b rest)

pub has_innermost : (members : List Member) (b : ℕ) → EndsWith (Block b) members → has_block b members ≡ true
has_innermost members b last = ap (has_block b) last.1 ∙ has_last b last.0

-- a wait that takes a call isn't one of a task that stays suspended
other_waits : (event : Event) (before : List Event) (task p : ℕ) (m : Meeting) → IsLawful (event ∷ before) → IsSuspendedAt before task p
    → is_released (event ∷ before) p ≡ false → meeting_in event ≡ Some m → is_wait_of before task m.wait ≡ false
unfolding is_wait_of
other_waits event before task p m lawful held unreleased says =
    false_from_ne_true (is_wait_of before task m.wait) (λ mine.
    let taking = met_taking before event m lawful.1 says in
    let (w, at, by) = option_map_or-true (λ (w : Wait). eqb w.by task) (wait_at before m.wait) mine in
    let same : w ≡ taking.wait = same_Some w taking.wait (sym at ∙ rw (taking.stands.stands) taking.stands.says) in
    let pending = pending_parts before m.wait taking.wait.by taking.pending in
    let there : IsSuspendedAt before taking.wait.by m.wait =
    record {
      event = taking.stands.event;
      stands = taking.stands.stands;
      holds = held_in-wait taking.stands.event taking.wait taking.stands.says;
      unreleased =
          pending.0;
      live = pending.1;
    } in
    let one : taking.wait.by ≡ task = ap (λ (x : Wait). x.by) (sym same) ∙ eqb-true w.by task by in
    let here : m.wait ≡ p = suspended_once before task m.wait p lawful.0 (subst (λ (u : ℕ). IsSuspendedAt before u m.wait) one there) held in
    let frees : released_in event ≡ Some p = ap released_in (meeting_in-met event m says) ∙ (met_frees m.call m.wait).0 ∙ ap Some here in
    true≢false (sym (is_released-now event before p frees) ∙ unreleased))

met_waits_none : (e : Event) (m : Meeting) → meeting_in e ≡ Some m → wait_in e ≡ None
unfolding wait_in
met_waits_none e m says = ap wait_in (meeting_in-met e m says)

-- nothing comes into the nest of a task that stays suspended
enters_none : (event : Event) (before : List Event) (task p : ℕ) → IsLawful (event ∷ before) → IsSuspendedAt before task p
    → is_released (event ∷ before) p ≡ false → member_at (event ∷ before) task (suc (length before)) event ≡ None
unfolding member_at
enters_none event before task p lawful held unreleased = by_opening (opening_in event) refl
  where
    other_opens : (o : Opening) → opening_in event ≡ Some o → eqb o.by task ≡ false
    other_opens o says =
        false_from_ne_true (eqb o.by task) (λ same.
        let runs = subst (λ (u : ℕ). is_running before u ≡ true) (eqb-true o.by task same) (opening_asked event before o lawful.1 says).runs in
        true≢false (sym (is_suspended-from before task p held) ∙ running_free before task runs))

    by_meeting : (m : Option Meeting) → meeting_in event ≡ m
        → option_map_or (λ (m : Meeting). then_some (is_wait_of (event ∷ before) task m.wait && is_open_call (event ∷ before) m.call) (Rendezvous m.call)) m
        None ≡ None
    by_meeting None says = refl
    by_meeting (Some m) says = rw (
      wait_same event before task m.wait (met_waits_none event m says),
      other_waits event before task p m lawful held unreleased
          says,
    ) refl

    by_opening : (o : Option Opening) → opening_in event ≡ o
        → option_or (option_map_or (λ (o : Opening). then_some (eqb o.by task && not (is_left (event ∷ before) (suc (length before))))
        (Block (suc (length before)))) o None) (option_map_or
        (λ (m : Meeting). then_some (is_wait_of (event ∷ before) task m.wait && is_open_call (event ∷ before) m.call) (Rendezvous m.call)) (meeting_in event)
        None) ≡ None
    by_opening None says = by_meeting (meeting_in event) refl
    by_opening (Some o) says = rw (other_opens o says) (by_meeting (meeting_in event) refl)

-- the nest of a task that stays suspended loses members at most
held_nest : (event : Event) (before : List Event) (task p : ℕ) → IsLawful (event ∷ before) → IsSuspendedAt before task p
    → is_released (event ∷ before) p ≡ false → nest (event ∷ before) task ≡ filter (stays event before) (nest before task)
held_nest event before task p lawful held unreleased =
    nest_more event before task lawful
    ∙ rw (enters_none event before task p lawful held unreleased) (append-nil (filter (stays event before) (nest before task)))

-- an event that holds somebody up changes no nest
holding_nest : (event : Event) (before : List Event) (by task : ℕ) → IsLawful (event ∷ before) → held_in event ≡ Some by
    → nest (event ∷ before) task ≡ nest before task
holding_nest event before by task lawful holds =
    let only = hold_only event by holds in
    others_keep_nests event before task lawful (held_opens_none event by holds) only.meets only.releases

innermost_is : (o : Option Member) → option_map_or is_rendezvous o true ≡ false → o ≡ Some (Block (member_position o))
innermost_is None block = absurd (true≢false block)
innermost_is (Some (Rendezvous call)) block = absurd (true≢false block)
innermost_is (Some (Block b)) block = refl

asked_close : (journal : List Event) (r : Request) (k : Closing) → refusal journal r ≡ None → closing_in (asked_event journal r) ≡ Some k
    → innermost (nest journal k.by) ≡ Some (Block k.block)
unfolding asked_event closing_in has_no_block
asked_close journal (request.Close by) k accepted says =
    subst (λ (x : Closing). innermost (nest journal x.by) ≡ Some (Block x.block)) (same_Some _ k says)
    (innermost_is (innermost (nest journal by.0)) (is_accepted journal (request.Close by) accepted).in_block)
asked_close journal _ k accepted says = absurd (none-some k says)

new_close : (event : Event) (before : List Event) (k : Closing) → MayFollow refusal before event → closing_in event ≡ Some k
    → innermost (nest before k.by) ≡ Some (Block k.block)
new_close event before k (inl forces) says = absurd (none-some k.by (sym (forced-step before event forces).holds_none ∙ held_in-closing event k says))
new_close event before k (inr asked) says = asked_close before asked.request k asked.accepted (ap closing_in (sym asked.becomes) ∙ says)

kept_last : (event : Event) (before : List Event) (b : ℕ) (members : List Member) → is_left (event ∷ before) b ≡ false → EndsWith (Block b) members
    → EndsWith (Block b) (filter (stays event before) members)
kept_last event before b members unleft last = (
  filter (stays event before) last.0,
  ap (filter (stays event before)) last.1
      ∙ filter-append (stays event before) last.0 (Block b ∷ [])
      ∙ ap (λ (l : Bool). filter (stays event before) last.0 ++ cond (not l) (Block b ∷ []) []) unleft,
)

-- while the close of a block is pending, the block is the innermost of its task
pub closed_last : (journal : List Event) (c : ℕ) (e : Event) (k : Closing) → IsLawful journal → event_at journal c ≡ Some e → closing_in e ≡ Some k
    → is_released journal c ≡ false → has_ended journal k.by ≡ false → EndsWith (Block k.block) (nest journal k.by)
unfolding event_at is_to_leave
closed_last [] c e k lawful at says unreleased live = absurd (none-some e at)
closed_last (event ∷ before) c e k lawful at says unreleased live =
    elim (event_at-cases event before c e at) [
      | inl now ↦
          let here : closing_in event ≡ Some k = ap closing_in now.1 ∙ says in
          let last = ends_with (nest before k.by) (Block k.block) (new_close event before k lawful.1 here) in
          (last.0, holding_nest event before k.by k.by lawful (held_in-closing event k here) ∙ last.1)
      | inr older ↦
          let free = is_released-before event before c unreleased in
          let lives = has_ended-before event before k.by live in
          let held : IsSuspendedAt before k.by c = record { event = e; stands = older; holds = held_in-closing e k says; unreleased = free; live = lives } in
          let was = closed_last before c e k lawful.0 older says free lives in
          let has = has_innermost (nest before k.by) k.block was in
          let unleft : is_left (event ∷ before) k.block ≡ false =
          false_from_ne_true (is_left (event ∷ before) k.block) (λ left.
          elim (left_cases event before k.block lawful left) [
            | inr already ↦ true≢false (sym already ∙ (block_in_nest before k.by k.block has).1)
            | inl gone ↦
                let ready = and_first (is_pending before gone.at gone.closing.by) (all_terminated before (BlockMaster gone.closing.block))
                (leaves_ready event before k.block lawful.1 gone) in
                let pending = pending_parts before gone.at gone.closing.by ready in
                let also = closed_last before gone.at gone.closed gone.closing lawful.0 gone.stands gone.says pending.0 pending.1 in
                let holds = subst (λ (b : ℕ). has_block b (nest before gone.closing.by) ≡ true) gone.block
                (has_innermost (nest before gone.closing.by) gone.closing.block also) in
                let one : gone.closing.by ≡ k.by = one_holder before gone.closing.by k.by (BlockMaster k.block) holds has in
                let there : IsSuspendedAt before gone.closing.by gone.at =
                record {
                  event = gone.closed;
                  stands = gone.stands;
                  holds = held_in-closing gone.closed gone.closing gone.says;
                  unreleased = pending.0;
                  live =
                      pending.1;
                } in
                let place : gone.at ≡ c = suspended_once before k.by gone.at c lawful.0 (subst (λ (u : ℕ). IsSuspendedAt before u gone.at) one there) held in
                true≢false (sym (is_released-now event before c (left_frees event gone.at gone.leaves ∙ ap Some place)) ∙ unreleased)
          ]) in
          let last = kept_last event before k.block (nest before k.by) unleft was in
          (last.0, held_nest event before k.by c lawful held unreleased ∙ last.1)
    ]
  where
    and_first : (a b : Bool) → (a && b) ≡ true → a ≡ true
    and_first true b both = refl
    and_first false b both = absurd (true≢false (sym both))

filter_shorter : (test : Member → Bool) (members : List Member) → length (filter test members) ≤ length members
filter_shorter test [] = omega arith
filter_shorter test (x ∷ rest) =
    let shorter = filter_shorter test rest in
    by_test (test x) (omega arith) (omega arith)
  where
    by_test : (b : Bool) → length (filter test rest) ≤ length (x ∷ rest) → length (x ∷ filter test rest) ≤ length (x ∷ rest)
        → length (cond b (x ∷ filter test rest) (filter test rest)) ≤ length (x ∷ rest)
    by_test true less more = more
    by_test false less more = less

asked_wait : (journal : List Event) (r : Request) (w : Wait) → refusal journal r ≡ None → wait_in (asked_event journal r) ≡ Some w
    → length (nest journal w.by) < MOST_MEMBERS
unfolding asked_event wait_in is_too_deep
asked_wait journal (request.Wait by choices tail pick) w accepted says =
    subst (λ (x : Wait). length (nest journal x.by) < MOST_MEMBERS) (same_Some _ w says)
    (leb-false MOST_MEMBERS (length (nest journal by.0)) (is_accepted journal (request.Wait by choices tail pick) accepted).not_deep)
asked_wait journal _ w accepted says = absurd (none-some w says)

new_wait : (event : Event) (before : List Event) (w : Wait) → MayFollow refusal before event → wait_in event ≡ Some w → length (nest before w.by) < MOST_MEMBERS
new_wait event before w (inl forces) says = absurd (none-some w.by (sym (forced-step before event forces).holds_none ∙ held_in-wait event w says))
new_wait event before w (inr asked) says = asked_wait before asked.request w asked.accepted (ap wait_in (sym asked.becomes) ∙ says)

-- while a wait is pending, its task's nest has room for one more member
pub waiting_shallow : (journal : List Event) (c : ℕ) (e : Event) (w : Wait) → IsLawful journal → event_at journal c ≡ Some e → wait_in e ≡ Some w
    → is_released journal c ≡ false → has_ended journal w.by ≡ false → length (nest journal w.by) < MOST_MEMBERS
unfolding event_at
waiting_shallow [] c e w lawful at says unreleased live = absurd (none-some e at)
waiting_shallow (event ∷ before) c e w lawful at says unreleased live =
    elim (event_at-cases event before c e at) [
      | inl now ↦
          let here : wait_in event ≡ Some w = ap wait_in now.1 ∙ says in
          subst (λ (members : List Member). length members < MOST_MEMBERS) (sym (holding_nest event before w.by w.by lawful (held_in-wait event w here)))
          (new_wait event before w lawful.1 here)
      | inr older ↦
          let free = is_released-before event before c unreleased in
          let lives = has_ended-before event before w.by live in
          let held : IsSuspendedAt before w.by c = record { event = e; stands = older; holds = held_in-wait e w says; unreleased = free; live = lives } in
          let was = waiting_shallow before c e w lawful.0 older says free lives in
          let shorter = filter_shorter (stays event before) (nest before w.by) in
          let many = ap (λ (members : List Member). length members) (held_nest event before w.by c lawful held unreleased) in
          omega (arith, was, shorter, many)
    ]

asked_alone : (journal : List Event) (r : Request) (w : Wait) → refusal journal r ≡ None → wait_in (asked_event journal r) ≡ Some w
    → is_open_terminate w.tail ≡ true → list_any is_rendezvous (nest journal w.by) ≡ false
unfolding asked_event wait_in terminates_in_accept
asked_alone journal (request.Wait by choices (Terminate guard) pick) w accepted says opens =
    subst (λ (x : Wait). list_any is_rendezvous (nest journal x.by) ≡ false) (same_Some _ w says)
    (is_accepted journal (request.Wait by choices (Terminate guard) pick) accepted).no_terminate
asked_alone journal (request.Wait by choices Nothing pick) w accepted says opens =
    absurd (false≢true (ap (λ (x : Wait). is_open_terminate x.tail) (same_Some _ w says) ∙ opens))
asked_alone journal (request.Wait by choices Otherwise pick) w accepted says opens =
    absurd (false≢true (ap (λ (x : Wait). is_open_terminate x.tail) (same_Some _ w says) ∙ opens))
asked_alone journal (request.Wait by choices (Delays pauses) pick) w accepted says opens =
    absurd (false≢true (ap (λ (x : Wait). is_open_terminate x.tail) (same_Some _ w says) ∙ opens))
asked_alone journal _ w accepted says opens = absurd (none-some w says)

new_alone : (event : Event) (before : List Event) (w : Wait) → MayFollow refusal before event → wait_in event ≡ Some w → is_open_terminate w.tail ≡ true
    → list_any is_rendezvous (nest before w.by) ≡ false
new_alone event before w (inl forces) says opens =
    absurd (none-some w.by (sym (forced-step before event forces).holds_none ∙ held_in-wait event w says))
new_alone event before w (inr asked) says opens = asked_alone before asked.request w asked.accepted (ap wait_in (sym asked.becomes) ∙ says) opens

filter_none : (test stays : Member → Bool) (members : List Member) → list_any test members ≡ false → list_any test (filter stays members) ≡ false
filter_none test stays [] none = refl
filter_none test stays (x ∷ rest) none =
    let parts = or_parts (test x) (list_any test rest) none in
    by_test (stays x) parts.0 (filter_none test stays rest parts.1)
  where
    by_test : (b : Bool) → test x ≡ false → list_any test (filter stays rest) ≡ false
        → list_any test (cond b (x ∷ filter stays rest) (filter stays rest)) ≡ false
    by_test true not_this not_those = rw not_this not_those
    by_test false not_this not_those = not_those

-- while a wait with an open terminate alternative is pending, its task is in no rendezvous
waiting_alone : (journal : List Event) (c : ℕ) (e : Event) (w : Wait) → IsLawful journal → event_at journal c ≡ Some e → wait_in e ≡ Some w
    → is_open_terminate w.tail ≡ true → is_released journal c ≡ false → has_ended journal w.by ≡ false → list_any is_rendezvous (nest journal w.by) ≡ false
unfolding event_at
waiting_alone [] c e w lawful at says opens unreleased live = absurd (none-some e at)
waiting_alone (event ∷ before) c e w lawful at says opens unreleased live =
    elim (event_at-cases event before c e at) [
      | inl now ↦
          let here : wait_in event ≡ Some w = ap wait_in now.1 ∙ says in
          ap (list_any is_rendezvous) (holding_nest event before w.by w.by lawful (held_in-wait event w here))
          ∙ new_alone event before w lawful.1 here opens
      | inr older ↦
          let free = is_released-before event before c unreleased in
          let lives = has_ended-before event before w.by live in
          let held : IsSuspendedAt before w.by c = record { event = e; stands = older; holds = held_in-wait e w says; unreleased = free; live = lives } in
          ap (list_any is_rendezvous) (held_nest event before w.by c lawful held unreleased)
          ∙ filter_none is_rendezvous (stays event before) (nest before w.by) (waiting_alone before c e w lawful.0 older says opens free lives)
    ]

pub closed_blocks_are_innermost : ClosedBlocksAreInnermost
closed_blocks_are_innermost journal task close closing lawful held says =
    let by : closing.by ≡ task = same_Some closing.by task (sym (held_in-closing held.event closing says) ∙ held.holds) in
    let last = closed_last journal close held.event closing lawful held.stands says held.unreleased (ap (has_ended journal) by ∙ held.live) in
    ap (λ (u : ℕ). innermost (nest journal u)) (sym by) ∙ ap innermost last.1 ∙ innermost_last last.0 (Block closing.block)

pub waits_have_room : WaitsHaveRoom
waits_have_room journal task position wait lawful held says =
    let by : wait.by ≡ task = same_Some wait.by task (sym (held_in-wait held.event wait says) ∙ held.holds) in
    subst (λ (u : ℕ). length (nest journal u) < MOST_MEMBERS) by
    (waiting_shallow journal position held.event wait lawful held.stands says held.unreleased (ap (has_ended journal) by ∙ held.live))

pub open_terminates_are_in_no_rendezvous : OpenTerminatesAreInNoRendezvous
open_terminates_are_in_no_rendezvous journal task position wait lawful held says opens =
    let by : wait.by ≡ task = same_Some wait.by task (sym (held_in-wait held.event wait says) ∙ held.holds) in
    subst (λ (u : ℕ). list_any is_rendezvous (nest journal u) ≡ false) by
    (waiting_alone journal position held.event wait lawful held.stands says opens held.unreleased (ap (has_ended journal) by ∙ held.live))
