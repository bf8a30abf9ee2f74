-- Blocks nest: what a block that isn't left was opened in isn't left either.
use Rattle.std.proofs.Common.{◌≡◌, ℕ, suc, ◌-◌, ◌<◌, ◌≤◌, true, false, Option, Some, None, List, [], ◌∷◌, length, refl}
use Rattle.std.proofs.Common.{sym, ap, ◌∙◌, subst, arith, inl, inr}
use Rattle.std.specs.Option.{option_map_or}
use Rattle.std.specs.List.{list_any}
use Rattle.std.proofs.lemmas.Bool.{and_parts, eq-eqb, false_from_ne_true, true≢false}
use Rattle.std.proofs.lemmas.Option.{none-some, same_Some}
use Rattle.ada_events.specs.declared.event.Event.{Event}
use Rattle.ada_events.specs.declared.event.Event.TheVariants as event
use Rattle.ada_events.specs.declared.request.Request.{Request}
use Rattle.ada_events.specs.declared.request.Request.TheVariants as request
use Rattle.ada_events.specs.declared.names.Master.{Master}
use Rattle.ada_events.specs.declared.names.Master.TheVariants.{Body, Block as BlockMaster}
use Rattle.ada_events.specs.declared.names.Member.{Member}
use Rattle.ada_events.specs.declared.names.Member.TheVariants.{Block, Rendezvous}
use Rattle.ada_events.specs.Search.{event_at}
use Rattle.ada_events.specs.Says.{Opening, Closing, opening_in, closing_in, left_in}
use Rattle.ada_events.specs.Phases.{is_released, has_ended, is_suspended}
use Rattle.ada_events.specs.Calls.{is_pending}
use Rattle.ada_events.specs.Nests.{is_left, member_at, nest, innermost, frame}
use Rattle.ada_events.specs.Asks.{asked_event, member_position}
use Rattle.ada_events.specs.Refusals.{has_no_block, is_rendezvous}
use Rattle.ada_events.specs.Termination.{all_terminated}
use Rattle.ada_events.specs.Forced.{is_to_leave}
use Rattle.ada_laws.specs.Masters.{parent_of}
use Rattle.ada_laws.specs.Unlimited.{IsLawfulUnlimited, refusal_but_limits}
use Rattle.ada_laws.proofs.asking.Limitless.{is_accepted-unlimited}
use Rattle.ada_laws.proofs.asking.Accepting.{running_free}
use Rattle.ada_laws.proofs.searching.Searching.{event_at-newest, event_at-within, event_at-cases}
use Rattle.ada_laws.proofs.forced.Stepping.{forced-step, pending_parts}
use Rattle.ada_laws.proofs.searching.Saying.{held_in-closing}
use Rattle.ada_laws.proofs.held.Suspending.{is_suspended-from}
use Rattle.ada_laws.proofs.searching.Growing.{is_released-before, has_ended-before}
use Rattle.ada_laws.proofs.within.Members.{block_place}
use Rattle.ada_laws.proofs.within.Owners.{contains_block, nest_has_block, IsOwnBlock, own_member}
use Rattle.ada_laws.proofs.within.Framing.{IsBlockOf, block_later, innermost_block-is}
use Rattle.ada_laws.proofs.within.Reaching.{opening_asked-unlimited}
use Rattle.ada_laws.proofs.within.Innermost.{latest}
use Rattle.ada_laws.proofs.within.Leaving.{unleft_before}
use Rattle.ada_laws.proofs.queues.Meeting.{contained_at}
use Rattle.ada_events.specs.Holders.{is_block}
use Rattle.ada_events.specs.Lawful.{MayFollow}
use Rattle.ada_standing.proofs.lawful.Leaving.{Leaves, left_cases}
use Rattle.ada_events.proofs.Positions.{event_at-other}

-- such blocks are those of the task's nest

member_given : (journal : List Event) (task p : ℕ) (own : IsOwnBlock journal task p) → member_at journal task p own.block.event ≡ Some (Block p)
unfolding member_at
member_given journal task p own = rw (own.block.says, eq-eqb own.block.opening.by task own.block.by, own.unleft) refl

pub own_nested : (journal : List Event) (task p : ℕ) → IsOwnBlock journal task p → list_any (is_block p) (nest journal task) ≡ true
own_nested journal task p own = nest_has_block journal task p own.block own.unleft

pub nested_own : (journal : List Event) (task p : ℕ) → list_any (is_block p) (nest journal task) ≡ true → IsOwnBlock journal task p
nested_own journal task p has = own_member journal task p (contains_block (nest journal task) p has)

-- the frame of a task is its body, or such a block

-- the master is the task's body, or a block that it opened and hasn't left
pub data IsOwn (journal : List Event) (task : ℕ) : Master → Type 0 where
  own_body : IsOwn journal task (Body (record { 0 = task }))
  own_block : (p : ℕ) → IsOwnBlock journal task p → IsOwn journal task (BlockMaster p)

pub frame_own : (journal : List Event) (task : ℕ) → IsOwn journal task (frame journal task)
unfolding frame
frame_own journal task =
    elim (innermost_block-is (Body (record { 0 = task })) (nest journal task)) [
      | inl same ↦ subst (IsOwn journal task) (sym same) IsOwn.own_body
      | inr block ↦ subst (IsOwn journal task) (sym block.2) (IsOwn.own_block block.0 (own_member journal task block.0 block.1))
    ]

-- the block is the task's own, and none of the task's own was opened later
pub record IsInnermost (journal : List Event) (task b : ℕ) : Type 0 where
  pub own : IsBlockOf journal task b
  pub last : (p : ℕ) → IsOwnBlock journal task p → p ≤ b

innermost_found : (journal : List Event) (task : ℕ) (o : Option Member) → innermost (nest journal task) ≡ o → option_map_or is_rendezvous o true ≡ false
    → IsInnermost journal task (member_position o)
unfolding nest
innermost_found journal task None is block = absurd (true≢false block)
innermost_found journal task (Some (Rendezvous call)) is block = absurd (true≢false block)
innermost_found journal task (Some (Block b)) is block = record {
  own = (own_member journal task b (contained_at (nest journal task) (length (nest journal task) - 1) (Block b) is)).block;
  last = λ p own.
      latest (member_at journal task) journal p b own.block.event (block_place journal task) own.block.stands (member_given journal task p own) is;
}

asked_close : (journal : List Event) (r : Request) (k : Closing) → refusal_but_limits journal r ≡ None → closing_in (asked_event journal r) ≡ Some k
    → IsInnermost journal k.by k.block
unfolding asked_event closing_in has_no_block
asked_close journal (request.Close by) k accepted says =
    let same = same_Some _ k says in
    subst (λ (x : Closing). IsInnermost journal x.by x.block) same
    (innermost_found journal by.0 (innermost (nest journal by.0)) refl (is_accepted-unlimited journal (request.Close by) accepted).in_block)
asked_close journal _ k accepted says = absurd (none-some k says)

new_close : (event : Event) (before : List Event) (k : Closing) → MayFollow refusal_but_limits before event → closing_in event ≡ Some k
    → IsInnermost before k.by k.block
new_close event before k (inl forces) says = absurd (none-some k.by (sym (forced-step before event forces).holds_none ∙ held_in-closing event k says))
new_close event before k (inr asked) says = asked_close before asked.request k asked.accepted (ap closing_in (sym asked.becomes) ∙ says)

block_older : (before : List Event) (task p : ℕ) (event : Event) (block : IsBlockOf (event ∷ before) task p) → event_at before p ≡ Some block.event
    → IsBlockOf before task p
block_older before task p event block older =
    record { event = block.event; opening = block.opening; stands = older; says = block.says; by = block.by }

no_opening : (e : Event) (k : Closing) → closing_in e ≡ Some k → opening_in e ≡ None
unfolding closing_in opening_in
no_opening (event.Closed by block) k says = refl
no_opening _ k says = absurd (none-some k says)

-- the innermost stays so while the task opens nothing
still_last : (event : Event) (before : List Event) (task b : ℕ) → IsInnermost before task b → ((o : Opening) → opening_in event ≡ Some o → o.by ≡ task → ⊥)
    → IsInnermost (event ∷ before) task b
still_last event before task b was opens = record {
  own = block_later event before task b was.own;
  last = λ p own.
      elim (event_at-cases event before p own.block.event own.block.stands) [
        | inl newest ↦ absurd (opens own.block.opening (ap opening_in newest.1 ∙ own.block.says) own.block.by)
        | inr older ↦ was.last p (record {
          block = block_older before task p event own.block older;
          unleft = unleft_before event before p own.unleft;
        })
      ];
}

-- where a close is pending, its block is the innermost of the task's own
pub closed_last : (journal : List Event) (c : ℕ) (e : Event) (k : Closing) → IsLawfulUnlimited journal → event_at journal c ≡ Some e
    → closing_in e ≡ Some k → is_released journal c ≡ false → has_ended journal k.by ≡ false → IsInnermost journal k.by k.block
unfolding event_at
closed_last [] c e k lawful at says unreleased live = absurd (none-some e at)
closed_last (event ∷ before) c e k lawful at says unreleased live =
    elim (event_at-cases event before c e at) [
      | inl newest ↦
          let now : closing_in event ≡ Some k = ap closing_in newest.1 ∙ says in
          still_last event before k.by k.block (new_close event before k lawful.1 now)
          (λ o opens by. none-some o (sym (no_opening event k now) ∙ opens))
      | inr older ↦
          let free = is_released-before event before c unreleased in
          let lives = has_ended-before event before k.by live in
          let suspended = is_suspended-from before k.by c
          (record { event = e; stands = older; holds = held_in-closing e k says; unreleased = free; live = lives }) in
          still_last event before k.by k.block (closed_last before c e k lawful.0 older says free lives)
          (λ o opens by.
          let runs = (opening_asked-unlimited event before o lawful.1 opens).runs in
          true≢false (sym suspended ∙ (ap (λ n. is_suspended before n) (sym by) ∙ running_free before o.by runs)))
    ]

parent_newest : (event : Event) (before : List Event) (p : ℕ) (o : Opening) → p ≡ suc (length before) → opening_in event ≡ Some o
    → parent_of (event ∷ before) (BlockMaster p) ≡ Some o.under
parent_newest event before p o same says = rw (same, event_at-newest event before, says) refl

parent_older : (event : Event) (before : List Event) (p : ℕ) (e : Event) → event_at before p ≡ Some e
    → parent_of (event ∷ before) (BlockMaster p) ≡ parent_of before (BlockMaster p)
parent_older event before p e at =
    let within : p ≤ length before = event_at-within before p e at in
    rw (event_at-other event before p (omega arith)) refl

-- what an own block was opened in: the task's body, or an own block, which was opened before
pub data IsOuter (journal : List Event) (task p : ℕ) : Master → Type 0 where
  in_body : IsOuter journal task p (Body (record { 0 = task }))
  in_block : (q : ℕ) → q < p → IsOwnBlock journal task q → IsOuter journal task p (BlockMaster q)

opening_leaves_none : (e : Event) (o : Opening) → opening_in e ≡ Some o → left_in e ≡ None
unfolding opening_in left_in
opening_leaves_none (event.Opened by under) o says = refl
opening_leaves_none _ o says = absurd (none-some o says)

pub own_later : (event : Event) (before : List Event) (task p : ℕ) → IsLawfulUnlimited (event ∷ before) → (Leaves event before p → ⊥)
    → IsOwnBlock before task p → IsOwnBlock (event ∷ before) task p
own_later event before task p lawful stays own = record {
  block = block_later event before task p own.block;
  unleft = false_from_ne_true (is_left (event ∷ before) p) (λ left.
      elim (left_cases event before p lawful left) [
        | inl leaves ↦ stays leaves
        | inr was ↦ true≢false (sym was ∙ own.unleft)
      ]);
}

pub one_opener : (journal : List Event) (s t p : ℕ) → IsBlockOf journal s p → IsBlockOf journal t p → s ≡ t
one_opener journal s t p one other =
    let event : one.event ≡ other.event = same_Some one.event other.event (sym one.stands ∙ other.stands) in
    let opening : one.opening ≡ other.opening = same_Some one.opening other.opening (sym one.says ∙ (ap opening_in event ∙ other.says)) in
    sym one.by ∙ (ap (λ (o : Opening). o.by) opening ∙ other.by)

-- a block within which an own block was opened isn't left while that isn't
outer_stays : (event : Event) (before : List Event) (task p q : ℕ) → IsLawfulUnlimited (event ∷ before) → IsOwnBlock before task p → q < p
    → IsOwnBlock before task q → Leaves event before q → ⊥
unfolding is_to_leave
outer_stays event before task p q lawful own less outer leaves =
    let gone = leaves.gone in
    let pending = pending_parts before leaves.close gone.closing.by
    (and_parts (is_pending before leaves.close gone.closing.by) (all_terminated before (BlockMaster gone.closing.block)) gone.leave).0 in
    let last = closed_last before leaves.close gone.closed gone.closing lawful.0 gone.stands gone.says pending.0 pending.1 in
    let by : gone.closing.by ≡ task =
    one_opener before gone.closing.by task q (subst (IsBlockOf before gone.closing.by) leaves.block last.own) outer.block in
    let below : p ≤ gone.closing.block = last.last p (subst (λ (n : ℕ). IsOwnBlock before n p) (sym by) own) in
    let block : gone.closing.block ≡ q = leaves.block in
    omega arith

outer_newest : (event : Event) (before : List Event) (task p : ℕ) (o : Opening) (z : Master) → IsLawfulUnlimited (event ∷ before)
    → p ≡ suc (length before) → opening_in event ≡ Some o → IsOwn before task z → IsOuter (event ∷ before) task p z
outer_newest event before task p o z lawful same says (IsOwn.own_body) = IsOuter.in_body
outer_newest event before task p o z lawful same says (IsOwn.own_block q own) =
    let within : q ≤ length before = event_at-within before q own.block.event own.block.stands in
    IsOuter.in_block q (omega arith)
    (own_later event before task q lawful (λ leaves. none-some leaves.close (sym (opening_leaves_none event o says) ∙ leaves.leaves)) own)

outer_later : (event : Event) (before : List Event) (task p : ℕ) (z : Master) → IsLawfulUnlimited (event ∷ before) → IsOwnBlock before task p
    → IsOuter before task p z → IsOuter (event ∷ before) task p z
outer_later event before task p z lawful own (IsOuter.in_body) = IsOuter.in_body
outer_later event before task p z lawful own (IsOuter.in_block q less outer) =
    IsOuter.in_block q less (own_later event before task q lawful (λ leaves. outer_stays event before task p q lawful own less outer leaves) outer)

pub outer_own : (journal : List Event) (task p : ℕ) → IsLawfulUnlimited journal → IsOwnBlock journal task p
    → (z : Master) × (parent_of journal (BlockMaster p) ≡ Some z) × IsOuter journal task p z
unfolding event_at
outer_own [] task p lawful own = absurd (none-some own.block.event own.block.stands)
outer_own (event ∷ before) task p lawful own =
    elim (event_at-cases event before p own.block.event own.block.stands) [
      | inl newest ↦
          let o = own.block.opening in
          let says : opening_in event ≡ Some o = ap opening_in newest.1 ∙ own.block.says in
          let asked = opening_asked-unlimited event before o lawful.1 says in
          let frame_is : o.under ≡ frame before task = asked.within ∙ ap (frame before) own.block.by in (
            o.under,
            parent_newest event before p o newest.0 says,
            outer_newest event before task p o o.under lawful newest.0 says (subst (IsOwn before task) (sym frame_is) (frame_own before task)),
          )
      | inr older ↦
          let was : IsOwnBlock before task p =
          record { block = block_older before task p event own.block older; unleft = unleft_before event before p own.unleft } in
          let (z, is, outer) = outer_own before task p lawful.0 was in
          (z, parent_older event before p own.block.event older ∙ is, outer_later event before task p z lawful was outer)
    ]
