-- A task that is suspended at a close is within the block that it closes.
use Rattle.std.proofs.Common.{◌≡◌, ℕ, true, false, ◌-◌, Option, Some, None, List, [], ◌∷◌, length, refl, sym, ap, ◌∙◌, subst, inl, inr}
use Rattle.std.specs.Option.{option_map_or}
use Rattle.std.proofs.lemmas.Bool.{and_parts, or_left, true≢false}
use Rattle.std.proofs.lemmas.Option.{none-some, same_Some}
use Rattle.ada_events.specs.declared.event.Event.{Event}
use Rattle.ada_events.specs.declared.event.Event.TheVariants as event
use Rattle.ada_events.specs.declared.request.Request.{Request}
use Rattle.ada_events.specs.declared.request.Request.TheVariants as request
use Rattle.ada_events.specs.declared.names.Master.TheVariants.{Block as BlockMaster}
use Rattle.ada_events.specs.declared.names.Member.{Member}
use Rattle.ada_events.specs.declared.names.Member.TheVariants.{Block, Rendezvous}
use Rattle.ada_events.specs.Search.{is_number, event_at}
use Rattle.ada_events.specs.Says.{Closing, closing_in, left_in, released_in}
use Rattle.ada_events.specs.Phases.{is_released, has_ended}
use Rattle.ada_events.specs.Calls.{is_pending}
use Rattle.ada_events.specs.Nests.{nest, innermost}
use Rattle.ada_events.specs.Asks.{asked_event, member_position}
use Rattle.ada_events.specs.Refusals.{has_no_block, is_rendezvous}
use Rattle.ada_events.specs.Termination.{all_terminated}
use Rattle.ada_events.specs.Forced.{is_to_leave}
use Rattle.ada_events.specs.Lawful.{MayFollow}
use Rattle.ada_laws.specs.Suspension.{IsSuspendedAt}
use Rattle.ada_laws.specs.Unlimited.{IsLawfulUnlimited, refusal_but_limits}
use Rattle.ada_laws.proofs.asking.Limitless.{is_accepted-unlimited}
use Rattle.ada_laws.proofs.searching.Searching.{event_at-cases, is_number-from}
use Rattle.ada_laws.proofs.forced.Stepping.{forced-step, pending_parts}
use Rattle.ada_laws.proofs.searching.Saying.{held_in-closing, left_frees}
use Rattle.ada_laws.proofs.searching.Growing.{is_released-before, has_ended-before}
use Rattle.ada_laws.proofs.within.Framing.{IsBlockOf}
use Rattle.ada_laws.proofs.held.Suspending.{suspended_once-unlimited}
use Rattle.ada_laws.proofs.queues.Meeting.{contained_at}
use Rattle.ada_laws.proofs.within.Owners.{IsOwnBlock, own_member}
use Rattle.ada_standing.proofs.lawful.Nesting.{own_later, one_opener}

innermost_own : (journal : List Event) (task : ℕ) (o : Option Member) → innermost (nest journal task) ≡ o → option_map_or is_rendezvous o true ≡ false
    → IsOwnBlock journal task (member_position o)
innermost_own journal task None is block = absurd (true≢false block)
innermost_own journal task (Some (Rendezvous call)) is block = absurd (true≢false block)
innermost_own journal task (Some (Block b)) is block =
    own_member journal task b (contained_at (nest journal task) (length (nest journal task) - 1) (Block b) is)

asked_close : (journal : List Event) (r : Request) (k : Closing) → refusal_but_limits journal r ≡ None → closing_in (asked_event journal r) ≡ Some k
    → IsOwnBlock journal k.by k.block
unfolding asked_event closing_in has_no_block
asked_close journal (request.Close by) k accepted says =
    let same = same_Some _ k says in
    subst (λ (x : Closing). IsOwnBlock journal x.by x.block) same
    (innermost_own journal by.0 (innermost (nest journal by.0)) refl (is_accepted-unlimited journal (request.Close by) accepted).in_block)
asked_close journal _ k accepted says = absurd (none-some k says)

new_close : (event : Event) (before : List Event) (k : Closing) → MayFollow refusal_but_limits before event → closing_in event ≡ Some k
    → IsOwnBlock before k.by k.block
new_close event before k (inl forces) says = absurd (none-some k.by (sym (forced-step before event forces).holds_none ∙ held_in-closing event k says))
new_close event before k (inr asked) says = asked_close before asked.request k asked.accepted (ap closing_in (sym asked.becomes) ∙ says)

close_leaves_none : (e : Event) (k : Closing) → closing_in e ≡ Some k → left_in e ≡ None
unfolding closing_in left_in
close_leaves_none (event.Closed by block) k says = refl
close_leaves_none _ k says = absurd (none-some k says)

released_now : (event : Event) (before : List Event) (c : ℕ) → left_in event ≡ Some c → is_released (event ∷ before) c ≡ true
unfolding is_released
released_now event before c says =
    or_left (is_number c (released_in event)) (is_released before c) (is_number-from c (released_in event) (left_frees event c says))

-- a block whose close is pending hasn't been left
pub closed_own : (journal : List Event) (c : ℕ) (e : Event) (k : Closing) → IsLawfulUnlimited journal → event_at journal c ≡ Some e
    → closing_in e ≡ Some k → is_released journal c ≡ false → has_ended journal k.by ≡ false → IsOwnBlock journal k.by k.block
unfolding event_at is_to_leave
closed_own [] c e k lawful at says unreleased live = absurd (none-some e at)
closed_own (event ∷ before) c e k lawful at says unreleased live =
    elim (event_at-cases event before c e at) [
      | inl newest ↦
          let now : closing_in event ≡ Some k = ap closing_in newest.1 ∙ says in
          own_later event before k.by k.block lawful
          (λ leaves. none-some leaves.close (sym (close_leaves_none event k now) ∙ leaves.leaves)) (new_close event before k lawful.1 now)
      | inr older ↦
          let free = is_released-before event before c unreleased in
          let lives = has_ended-before event before k.by live in
          let was = closed_own before c e k lawful.0 older says free lives in
          own_later event before k.by k.block lawful
          (λ leaves.
          let gone = leaves.gone in
          let pending = pending_parts before leaves.close gone.closing.by
          (and_parts (is_pending before leaves.close gone.closing.by) (all_terminated before (BlockMaster gone.closing.block)) gone.leave).0 in
          let also = closed_own before leaves.close gone.closed gone.closing lawful.0 gone.stands gone.says pending.0 pending.1 in
          let by : gone.closing.by ≡ k.by =
          one_opener before gone.closing.by k.by k.block (subst (IsBlockOf before gone.closing.by) leaves.block also.block) was.block in
          let one : IsSuspendedAt before k.by leaves.close = record {
            event = gone.closed;
            stands = gone.stands;
            holds = held_in-closing gone.closed gone.closing gone.says ∙ ap Some by;
            unreleased = pending.0;
            live = subst (λ (n : ℕ). has_ended before n ≡ false) by pending.1;
          } in
          let other : IsSuspendedAt before k.by c = record { event = e; stands = older; holds = held_in-closing e k says; unreleased = free; live = lives } in
          let same : leaves.close ≡ c = suspended_once-unlimited before k.by leaves.close c lawful.0 one other in
          true≢false (sym (released_now event before c (leaves.leaves ∙ ap Some same)) ∙ unreleased))
          was
    ]
