-- What each kind of event changes in nests.
use Rattle.std.proofs.Common.{◌≡◌, ℕ, zero, suc, ◌-◌, ◌<◌, ◌≤◌, Bool, true, false, cond, not, ◌&&◌, eqb, Option, Some, None, List, [], ◌∷◌, ◌++◌, length, take}
use Rattle.std.proofs.Common.{refl, sym, ap, ◌∙◌, subst, arith, inl, inr, append-nil, length-append}
use Rattle.std.specs.Option.{option_and_then, option_map_or}
use Rattle.std.specs.List.{filter, Contains}
use Rattle.std.proofs.Math.Seq.{take-append_seam}
use Rattle.std.proofs.lemmas.Bool.{and_parts, eq-eqb, eqb-true, leb-false, ne_eqb, or_parts, true≢false, false_from_ne_true}
use Rattle.std.proofs.lemmas.List.Elements.{filter-append, Contains-append_right}
use Rattle.std.proofs.lemmas.Option.{none-some, same_Some}
use Rattle.ada_events.specs.declared.event.Event.{Event}
use Rattle.ada_events.specs.declared.event.Event.TheVariants as kind
use Rattle.ada_events.specs.declared.limits.TheConstants.{MOST_MEMBERS}
use Rattle.ada_events.specs.declared.names.Master.{Master}
use Rattle.ada_events.specs.declared.names.Master.TheVariants.{Block as BlockMaster}
use Rattle.ada_events.specs.declared.names.Member.{Member}
use Rattle.ada_events.specs.declared.names.Member.TheVariants.{Block, Rendezvous}
use Rattle.ada_events.specs.declared.names.TaskNo.{TaskNo}
use Rattle.ada_events.specs.declared.request.Request.{Request}
use Rattle.ada_events.specs.declared.request.Request.TheVariants as request
use Rattle.ada_events.specs.Search.{event_at}
use Rattle.ada_events.specs.Says.{Opening, Closing, Call, Wait, opening_in, call_in, call_at, wait_in, wait_at, meeting_in, released_in, left_in, held_in}
use Rattle.ada_events.specs.Tasks.{task_count}
use Rattle.ada_events.specs.Masters.{depends_on}
use Rattle.ada_events.specs.Phases.{is_terminated, is_released, has_ended}
use Rattle.ada_events.specs.Calls.{is_pending, is_met}
use Rattle.ada_events.specs.Nests.{is_wait_of, member_at, nest, innermost}
use Rattle.ada_events.specs.Asks.{asked_event}
use Rattle.ada_events.specs.Refusals.{refusal}
use Rattle.ada_events.specs.Limits.{is_too_deep}
use Rattle.ada_events.specs.Termination.{all_terminated}
use Rattle.ada_events.specs.Forced.{is_to_leave}
use Rattle.ada_events.specs.Lawful.{IsLawful, MayFollow}
use Rattle.ada_laws.specs.Suspension.{IsSuspendedAt}
use Rattle.ada_laws.proofs.asking.Accepting.{is_accepted}
use Rattle.ada_laws.proofs.within.DependentLaws.{all_terminated_at}
use Rattle.ada_laws.proofs.searching.Gathering.{gathered-found, Contains-first}
use Rattle.ada_laws.proofs.queues.Meeting.{IsTaking, met_taking, meeting_in-met, meeting_at}
use Rattle.ada_laws.proofs.within.Reaching.{opening_asked}
use Rattle.ada_laws.proofs.forced.Rows.{forced-row}
use Rattle.ada_laws.proofs.searching.Saying.{held_in-closing, held_in-wait}
use Rattle.ada_laws.proofs.searching.Searching.{event_at-within, option_map_or-true}
use Rattle.ada_laws.proofs.forced.Stepping.{pending_parts, row-opens_none}
use Rattle.ada_laws.proofs.held.Suspending.{suspended_exists}
use Rattle.ada_laws.proofs.within.Innermost.{innermost_last}
use Rattle.ada_step_laws.specs.Changes.{is_apart_from, is_beside_block, AreDistinct}
use Rattle.ada_step_laws.proofs.changing.Distinct.{rendezvous_place, nests_are_distinct}
use Rattle.ada_step_laws.proofs.changing.Nesting.{nest_met}
use Rattle.ada_step_laws.proofs.changing.NestKinds.{IsMember, nest_member, others_keep_nests, blocks_are_entered, blocks_are_left}
use Rattle.ada_step_laws.proofs.changing.NestKinds.IsMember.{of_block, of_rendezvous}
use Rattle.ada_step_laws.proofs.changing.Saying.{met_says}
use Rattle.ada_step_laws.proofs.changing.Unnesting.{nest_released}
use Rattle.ada_events.specs.Holders.{has_block}
use Rattle.ada_tables.specs.Dependents.{count_below}
use Rattle.ada_tables.specs.Standing.{live_count}
use Rattle.ada_records.specs.TableEvents.{passing_in}
use Rattle.ada_records.proofs.turning.Renesting.{IsIdleIn, ChangesNests}
use Rattle.ada_records.proofs.turning.Renesting.NestChange.{Nothing, Enters, LeavesBlock, EndsRendezvous}
use Rattle.ada_records.proofs.holding.Cuts.{all_apart, cuts_keep_the_rest}
use Rattle.ada_records.proofs.following.Entries.{call_names_entry, declarer_exists}
use Rattle.ada_records.proofs.phase_changes.OnePhaseKinds.{not_in_nest}
use Rattle.ada_laws.proofs.within.Owners.{block_in_nest, one_holder}
use Rattle.ada_step_laws.proofs.holding.PendingNests.{EndsWith, has_innermost, closed_last, waiting_shallow}
use Rattle.ada_records.proofs.turning.ReleasedKinds.{HasOpenCall, plainly_uncalled, cancelled_unmet, failed_open, ended_open, IsLeaving, is_leaving}
use Rattle.ada_records.proofs.turning.ReleasedKinds.{closing_is}

-- an event that opens, meets and releases nothing
pub nests_kept : (event f : Event) (before : List Event) → event ≡ f → opening_in f ≡ None → meeting_in f ≡ None → released_in f ≡ None
    → IsLawful (event ∷ before) → ChangesNests event before Nothing
nests_kept event f before is opens meets frees lawful = λ task.
    others_keep_nests event before task lawful (ap opening_in is ∙ opens) (ap meeting_in is ∙ meets) (ap released_in is ∙ frees)

-- the end of an activation
pub nests_elaborated : (event : Event) (before : List Event) (by : TaskNo) (ok : Bool) → event ≡ kind.Elaborated by ok → IsLawful (event ∷ before)
    → ChangesNests event before Nothing
unfolding opening_in meeting_in released_in
nests_elaborated event before by ok is lawful = nests_kept event (kind.Elaborated by ok) before is refl refl refl lawful

-- the end of a wait otherwise than by a rendezvous, of a delay or of a start
pub nests_passed : (event f : Event) (before : List Event) (p : ℕ) → event ≡ f → passing_in f ≡ Some p → released_in f ≡ Some p → left_in f ≡ None
    → meeting_in f ≡ None → IsLawful (event ∷ before) → ChangesNests event before Nothing
nests_passed event f before p is plain frees leaves meets lawful = λ task.
    nest_released event before task p (ap released_in is ∙ frees) (ap left_in is ∙ leaves) (ap meeting_in is ∙ meets)
    ∙ all_apart p (nest before task) (not_in_nest before task p (plainly_uncalled event before p lawful (ap passing_in is ∙ plain)))

cancelled_says : (event : Event) (p : ℕ) → event ≡ kind.Cancelled p → (released_in event ≡ Some p) × (left_in event ≡ None) × (meeting_in event ≡ None)
unfolding released_in left_in meeting_in
cancelled_says event p is = (ap released_in is, ap left_in is, ap meeting_in is)

met_member : (journal : List Event) (task call : ℕ) → IsMember journal task (Rendezvous call) → is_met journal call ≡ true
met_member journal task call member = by_member (Rendezvous call) refl member
  where
    by_member : (x : Member) → x ≡ Rendezvous call → IsMember journal task x → is_met journal call ≡ true
    by_member x is (of_block p unleft) = absurd (cc is)
    by_member x is (of_rendezvous other c opened met) =
        let same : other ≡ call = cc is in
        subst (λ (n : ℕ). is_met journal n ≡ true) same met

-- nobody is within a rendezvous with a call that is cancelled
pub nests_cancelled : (event : Event) (before : List Event) (p : ℕ) → event ≡ kind.Cancelled p → IsLawful (event ∷ before) → ChangesNests event before Nothing
nests_cancelled event before p is lawful = λ task.
    let says = cancelled_says event p is in
    nest_released event before task p says.0 says.1 says.2
    ∙ all_apart p (nest before task)
    (λ has. true≢false (sym (met_member before task p (nest_member before task (Rendezvous p) lawful.0 has)) ∙ cancelled_unmet event before p lawful is))

-- whose nest has the rendezvous with a call is the task called
pub accepted_by_callee : (journal : List Event) (task p : ℕ) (c : Call) → IsLawful journal → call_at journal p ≡ Some c
    → Contains (nest journal task) (Rendezvous p) → task ≡ c.callee
unfolding nest is_wait_of
accepted_by_callee journal task p c lawful calls has =
    let (q, e, at, gives) = gathered-found (member_at journal task) journal (Rendezvous p) has in
    let entered = rendezvous_place journal task q p e gives in
    let met : event_at journal q ≡ Some (kind.Met p entered.meeting.wait) =
    at ∙ ap Some (meeting_in-met e entered.meeting entered.says) ∙ ap (λ (n : ℕ). Some (kind.Met n entered.meeting.wait)) entered.with_call in
    let is = meeting_at journal p entered.meeting.wait q lawful met in
    let (w, waits, by) = option_map_or-true (λ (w : Wait). eqb w.by task) (wait_at journal entered.meeting.wait) entered.by_task in
    let wait : w ≡ is.wait = same_Some w is.wait (sym waits ∙ rw (is.wait_stands.stands) is.wait_stands.says) in
    let called : is.called ≡ c = same_Some is.called c (sym (rw (is.call_stands.stands) is.call_stands.says) ∙ calls) in
    sym (eqb-true w.by task by) ∙ ap (λ (x : Wait). x.by) wait ∙ is.by_callee ∙ ap (λ (x : Call). x.callee) called

pub called : (journal : List Event) (p : ℕ) (has : HasOpenCall journal p) → call_at journal p ≡ Some has.0
called journal p has = ap (option_and_then call_in) has.1.stands.stands ∙ has.1.stands.says

-- the end of a rendezvous, or of a call that may be joined
nests_ended : (event f : Event) (before : List Event) (task : TaskNo) (p : ℕ) (has : HasOpenCall before p) → task.0 ≡ has.0.callee → event ≡ f
    → released_in f ≡ Some p → left_in f ≡ None → meeting_in f ≡ None → IsLawful (event ∷ before) → ChangesNests event before (EndsRendezvous task p)
nests_ended event f before task p has by is frees leaves meets lawful = record {
  known =
      let named = call_names_entry before p has.1.stands.event has.0 lawful.0 has.1.stands.stands has.1.stands.says in
      subst (λ (t : ℕ). t < task_count before) (sym by) (declarer_exists before has.0.callee has.0.entry named.0 named.1);
  own = ended task.0 ∙ cuts_keep_the_rest before task.0 p lawful.0;
  others = λ other differs.
      ended other
      ∙ all_apart p (nest before other) (λ within. differs (accepted_by_callee before other p has.0 lawful.0 (called before p has) within ∙ sym by));
}
  where
    ended : (t : ℕ) → nest (event ∷ before) t ≡ filter (is_apart_from p) (nest before t)
    ended t = nest_released event before t p (ap released_in is ∙ frees) (ap left_in is ∙ leaves) (ap meeting_in is ∙ meets)

pub nests_of_end : (event : Event) (before : List Event) (by task : TaskNo) (p : ℕ) (raised : Bool) → event ≡ kind.Ended by p raised
    → ((c : Call) → call_at before p ≡ Some c → task.0 ≡ c.callee) → IsLawful (event ∷ before) → ChangesNests event before (EndsRendezvous task p)
unfolding released_in left_in meeting_in
nests_of_end event before by task p raised is callee lawful =
    let has = ended_open event before by p raised lawful is in
    nests_ended event (kind.Ended by p raised) before task p has (callee has.0 (called before p has)) is refl refl refl lawful

pub nests_of_failure : (event : Event) (before : List Event) (task : TaskNo) (p : ℕ) → event ≡ kind.Failed p
    → ((c : Call) → call_at before p ≡ Some c → task.0 ≡ c.callee) → IsLawful (event ∷ before) → ChangesNests event before (EndsRendezvous task p)
unfolding released_in left_in meeting_in
nests_of_failure event before task p is callee lawful =
    let has = failed_open event before p lawful is in
    nests_ended event (kind.Failed p) before task p has (callee has.0 (called before p has)) is refl refl refl lawful

asked_open : (journal : List Event) (r : Request) (o : Opening) → refusal journal r ≡ None → opening_in (asked_event journal r) ≡ Some o
    → length (nest journal o.by) < MOST_MEMBERS
unfolding asked_event opening_in is_too_deep
asked_open journal (request.Open by) o accepted says =
    subst (λ (x : Opening). length (nest journal x.by) < MOST_MEMBERS) (same_Some _ o says)
    (leb-false MOST_MEMBERS (length (nest journal by.0)) (is_accepted journal (request.Open by) accepted).not_deep)
asked_open journal _ o accepted says = absurd (none-some o says)

opening_shallow : (event : Event) (before : List Event) (o : Opening) → MayFollow refusal before event → opening_in event ≡ Some o
    → length (nest before o.by) < MOST_MEMBERS
opening_shallow event before o (inl forces) says = absurd (none-some o (sym (row-opens_none before event (forced-row before event forces)) ∙ says))
opening_shallow event before o (inr asked) says = asked_open before asked.request o asked.accepted (ap opening_in (sym asked.becomes) ∙ says)

-- nobody is within the block that is opened next
new_block : (before : List Event) (task : ℕ) → has_block (suc (length before)) (nest before task) ≡ false
new_block before task =
    false_from_ne_true (has_block (suc (length before)) (nest before task)) (λ has.
    let own = (block_in_nest before task (suc (length before)) has).0 in
    let low : suc (length before) ≤ length before = event_at-within before (suc (length before)) own.event own.stands in
    omega (arith, low))

opened_says : (event : Event) (by : TaskNo) (under : Master) → event ≡ kind.Opened by under → opening_in event ≡ Some (record { by = by.0; under = under })
unfolding opening_in
opened_says event by under is = ap opening_in is

-- the opening of a block
pub nests_opened : (event : Event) (before : List Event) (by : TaskNo) (under : Master) (block : ℕ) → event ≡ kind.Opened by under → block ≡ suc (length before)
    → IsLawful (event ∷ before) → ChangesNests event before (Enters by (Block block))
nests_opened event before by under block is place lawful = (
  record {
    shallow = opening_shallow event before (record { by = by.0; under = under }) lawful.1 says;
    new = λ task. subst (λ (n : ℕ). has_block n (nest before task) ≡ false) (sym place) (new_block before task);
  },
  record {
    known = (opening_asked event before (record { by = by.0; under = under }) lawful.1 says).exists;
    own =
        blocks_are_entered event before by.0 (record { by = by.0; under = under }) lawful says
        ∙ rw (eq-eqb by.0 by.0 refl) (ap (λ (n : ℕ). nest before by.0 ++ Block n ∷ []) (sym place));
    others = λ other differs.
        blocks_are_entered event before other (record { by = by.0; under = under }) lawful says
        ∙ rw (ne_eqb by.0 other (λ same. differs (sym same))) (append-nil (nest before other));
  },
)
  where
    says : opening_in event ≡ Some (record { by = by.0; under = under })
    says = opened_says event by under is

waits_for : (journal : List Event) (task p : ℕ) (w : Wait) → wait_at journal p ≡ Some w → is_wait_of journal task p ≡ eqb w.by task
unfolding is_wait_of
waits_for journal task p w at = rw at refl

-- the beginning of a rendezvous
pub nests_met : (event : Event) (before : List Event) (task : TaskNo) (call wait : ℕ) → event ≡ kind.Met call wait → IsSuspendedAt before task.0 wait
    → IsLawful (event ∷ before) → ChangesNests event before (Enters task (Rendezvous call))
nests_met event before task call wait is held lawful = (
  record {
    shallow = subst (λ (u : ℕ). length (nest before u) < MOST_MEMBERS) by
        (waiting_shallow before wait taking.stands.event taking.wait lawful.0 taking.stands.stands taking.stands.says pending.0 pending.1);
    new = tt;
  },
  record {
    known = suspended_exists before task.0 wait lawful.0 held;
    own = nest_met event before task.0 call wait lawful is ∙ rw (waits_for before task.0 wait taking.wait at, eq-eqb taking.wait.by task.0 by) refl;
    others = λ other differs.
        nest_met event before other call wait lawful is
        ∙ rw (waits_for before other wait taking.wait at, ne_eqb taking.wait.by other (λ same. differs (sym same ∙ by))) (append-nil (nest before other));
  },
)
  where
    taking : IsTaking before call wait
    taking = met_taking before event (record { call = call; wait = wait }) lawful.1 (ap meeting_in is ∙ met_says call wait)

    pending : (is_released before wait ≡ false) × (has_ended before taking.wait.by ≡ false)
    pending = pending_parts before wait taking.wait.by taking.pending

    at : wait_at before wait ≡ Some taking.wait
    at = ap (option_and_then wait_in) taking.stands.stands ∙ taking.stands.says

    by : taking.wait.by ≡ task.0
    by =
        same_Some taking.wait.by task.0
        (sym (held_in-wait taking.stands.event taking.wait taking.stands.says)
        ∙ ap held_in (same_Some taking.stands.event held.event (sym taking.stands.stands ∙ held.stands)) ∙ held.holds)

-- filtering a block out
beside_all : (b : ℕ) (members : List Member) → has_block b members ≡ false → filter (is_beside_block b) members ≡ members
beside_all b [] none = refl
beside_all b (Block q ∷ rest) none =
    let both = or_parts (eqb q b) (has_block b rest) none in
    rw (both.0) (ap (λ (xs : List Member). Block q ∷ xs) (beside_all b rest both.1))
beside_all b (Rendezvous call ∷ rest) none = ap (λ (xs : List Member). Rendezvous call ∷ xs) (beside_all b rest none)

once : (b : ℕ) (outer : List Member) → AreDistinct (outer ++ Block b ∷ []) → has_block b outer ≡ false
once b [] distinct = refl
once b (Block q ∷ rest) distinct =
    rw (ne_eqb q b (λ same.
    distinct.0 (subst (λ (n : ℕ). Contains (rest ++ Block b ∷ []) (Block n)) (sym same)
    (Contains-append_right rest (Block b ∷ []) (Block b) (Contains-first (Block b) [])))))
    (once b rest distinct.1)
once b (Rendezvous call ∷ rest) distinct = once b rest distinct.1

beside_last : (b : ℕ) (outer : List Member) → AreDistinct (outer ++ Block b ∷ []) → filter (is_beside_block b) (outer ++ Block b ∷ []) ≡ outer
beside_last b outer distinct =
    filter-append (is_beside_block b) outer (Block b ∷ [])
    ∙ ap (λ (t : Bool). filter (is_beside_block b) outer ++ cond (not t) (Block b ∷ []) []) (eq-eqb b b refl)
    ∙ append-nil (filter (is_beside_block b) outer)
    ∙ beside_all b outer (once b outer distinct)

but_last : (outer : List Member) (x : Member) → take (length (outer ++ x ∷ []) - 1) (outer ++ x ∷ []) ≡ outer
but_last outer x =
    let many : length (outer ++ x ∷ []) - 1 ≡ length outer = omega (arith, length-append outer (x ∷ [])) in
    ap (λ (n : ℕ). take n (outer ++ x ∷ [])) many ∙ take-append_seam outer (x ∷ [])

count_nothing : (test : ℕ → Bool) (n : ℕ) → ((u : ℕ) → test u ≡ false) → count_below test n ≡ 0
unfolding count_below
count_nothing test zero none = refl
count_nothing test (suc n) none = rw (none n, count_nothing test n none) refl

-- a master all of whose dependents are terminated has no live one
pub none_live : (journal : List Event) (m : Master) → all_terminated journal m ≡ true → live_count journal m ≡ 0
none_live journal m all =
    count_nothing (λ u. not (is_terminated journal u) && depends_on journal u m) (task_count journal)
    (λ u. by_test (is_terminated journal u) (depends_on journal u m) (λ depends. all_terminated_at journal m u all depends))
  where
    by_test : (t d : Bool) → (d ≡ true → t ≡ true) → (not t && d) ≡ false
    by_test true d ends = refl
    by_test false false ends = refl
    by_test false true ends = absurd (true≢false (sym (ends refl)))

left_says : (event : Event) (close : ℕ) → event ≡ kind.Left close → left_in event ≡ Some close
unfolding left_in
left_says event close is = ap left_in is

-- the leaving of a block
pub nests_left : (event : Event) (before : List Event) (task : TaskNo) (close : ℕ) → event ≡ kind.Left close → IsSuspendedAt before task.0 close
    → IsLawful (event ∷ before) → ChangesNests event before (LeavesBlock task)
unfolding is_to_leave
nests_left event before task close is held lawful = (
  record {
    inside = subst (λ (members : List Member). 0 < length members) (sym last.1) (omega (arith, length-append last.0 (Block k.block ∷ [])));
    idle = λ x inner.
        subst (IsIdleIn before) (same_Some (Block k.block) x (sym (ap innermost last.1 ∙ innermost_last last.0 (Block k.block)) ∙ inner))
        (none_live before (BlockMaster k.block) ready.1);
  },
  record {
    known = suspended_exists before task.0 close lawful.0 held;
    own =
        left task.0
        ∙ ap (filter (is_beside_block k.block)) last.1
        ∙ beside_last k.block last.0 (subst AreDistinct last.1 (nests_are_distinct before task.0 lawful.0))
        ∙ sym (ap (λ (members : List Member). take (length members - 1) members) last.1 ∙ but_last last.0 (Block k.block));
    others = λ other differs.
        left other
        ∙ beside_all k.block (nest before other)
        (false_from_ne_true (has_block k.block (nest before other)) (λ has.
        differs (one_holder before other task.0 (BlockMaster k.block) has (has_innermost (nest before task.0) k.block last))));
  },
)
  where
    leaving : IsLeaving before close
    leaving = is_leaving event before close lawful.1 (left_says event close is)

    k : Closing
    k = leaving.closing

    ready : (is_pending before close k.by ≡ true) × (all_terminated before (BlockMaster k.block) ≡ true)
    ready = and_parts (is_pending before close k.by) (all_terminated before (BlockMaster k.block)) leaving.ready

    pending : (is_released before close ≡ false) × (has_ended before k.by ≡ false)
    pending = pending_parts before close k.by ready.0

    by : k.by ≡ task.0
    by =
        same_Some k.by task.0
        (sym (held_in-closing leaving.event k leaving.says) ∙ ap held_in (same_Some leaving.event held.event (sym leaving.stands ∙ held.stands)) ∙ held.holds)

    last : EndsWith (Block k.block) (nest before task.0)
    last = subst (λ (u : ℕ). EndsWith (Block k.block) (nest before u)) by
        (closed_last before close leaving.event k lawful.0 leaving.stands leaving.says pending.0 pending.1)

    left : (t : ℕ) → nest (event ∷ before) t ≡ filter (is_beside_block k.block) (nest before t)
    left t = blocks_are_left event before t close k.block (record { 0 = k.by }) lawful (left_says event close is)
        (leaving.stands ∙ ap Some (closing_is leaving.event k leaving.says))

-- the callee of a call, by the equation that tells it
pub callee_of : (journal : List Event) (p task : ℕ) → task ≡ option_map_or (λ (c : Call). c.callee) (call_at journal p) 0 → (c : Call)
    → call_at journal p ≡ Some c → task ≡ c.callee
callee_of journal p task is c at = is ∙ ap (λ (o : Option Call). option_map_or (λ (c : Call). c.callee) o 0) at
