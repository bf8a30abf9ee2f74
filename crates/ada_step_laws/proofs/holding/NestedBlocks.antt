-- Blocks nest properly: in a lawful journal a block that isn't left was opened within the block before it in its
-- task's nest, or else within the task's body.
use Rattle.ada_step_laws.specs.Holders.{IsUnder, AreNested}
use Rattle.std.proofs.Common.{◌≡◌, ℕ, suc, ◌-◌, ◌<◌, ◌≤◌, Bool, true, false, cond, not, ◌&&◌, eqb, Option, Some, None, List, [], ◌∷◌, ◌++◌, length, refl, sym}
use Rattle.std.proofs.Common.{ap, ◌∙◌, subst, arith, inl, inr, append-nil}
use Rattle.std.specs.Option.{option_map_or, option_or, option_to_list}
use Rattle.std.specs.Bool.{then_some}
use Rattle.std.specs.List.{filter, Contains, slice_get}
use Rattle.std.proofs.lemmas.Bool.{and_parts, eqb-true, not-true, true≢false, false≢true}
use Rattle.std.proofs.lemmas.Option.{none-some, same_Some, slice_get_within, get_or_from_slice_get}
use Rattle.ada_events.specs.declared.event.Event.{Event}
use Rattle.ada_events.specs.declared.event.Event.TheVariants as event
use Rattle.ada_events.specs.declared.request.Request.{Request}
use Rattle.ada_events.specs.declared.request.Request.TheVariants as request
use Rattle.ada_events.specs.declared.names.Master.{Master}
use Rattle.ada_events.specs.declared.names.Master.TheVariants.{Body, Block as BlockMaster}
use Rattle.ada_events.specs.declared.names.Member.{Member}
use Rattle.ada_events.specs.declared.names.Member.TheVariants.{Block, Rendezvous}
use Rattle.ada_events.specs.Search.{gathered, event_at}
use Rattle.ada_events.specs.Says.{Opening, Closing, Meeting, opening_in, closing_in, meeting_in, left_in}
use Rattle.ada_events.specs.Phases.{is_released, has_ended, is_running}
use Rattle.ada_events.specs.Calls.{is_open_call}
use Rattle.ada_events.specs.Nests.{is_left, is_wait_of, member_at, nest, innermost, innermost_block, frame}
use Rattle.ada_events.specs.Asks.{asked_event, member_position}
use Rattle.ada_events.specs.Refusals.{refusal, has_no_block, is_rendezvous}
use Rattle.ada_laws.proofs.asking.Accepting.{is_accepted, running_free}
use Rattle.ada_laws.proofs.forced.Stepping.{forced-step, pending_parts}
use Rattle.ada_laws.proofs.searching.Saying.{held_in-closing}
use Rattle.ada_laws.proofs.searching.Gathering.{gathered-found}
use Rattle.ada_laws.proofs.within.Framing.{IsBlockOf}
use Rattle.ada_laws.proofs.held.Suspending.{is_suspended-from}
use Rattle.ada_laws.proofs.within.Reaching.{opening_asked}
use Rattle.ada_laws.proofs.searching.Growing.{is_released-before, has_ended-before}
use Rattle.ada_laws.proofs.forced.Rows.{IsRow, forced-row}
use Rattle.ada_laws.proofs.forced.Rows.IsRow.{leaves}
use Rattle.ada_events.specs.Forced.{is_to_leave}
use Rattle.ada_events.specs.Calls.{is_pending}
use Rattle.ada_events.specs.Termination.{all_terminated}
use Rattle.ada_events.specs.Lawful.{IsLawful, MayFollow}
use Rattle.ada_laws.proofs.searching.Searching.{event_at-older, event_at-newest, event_at-within, event_at-cases, then_some-some, option_or-some}
use Rattle.ada_laws.proofs.within.Leaving.{left_more, left_in-asked}
use Rattle.ada_laws.proofs.within.Innermost.{latest}
use Rattle.ada_step_laws.proofs.changing.Unnesting.{gathered-filtered}
use Rattle.ada_step_laws.proofs.changing.Nesting.{gathered-agree}
use Rattle.ada_step_laws.proofs.changing.LeftBlocks.{Leaves, left_cases}

-- the member is a block
abbrev pub is_block_member : Member → Bool
is_block_member (Block p) = true
is_block_member (Rendezvous call) = false

abbrev kept : (Member → Bool) → Option Member → Option Member
kept keep None = None
kept keep (Some x) = cond (keep x) (Some x) None

-- the block that the event at a position put into the task's nest
abbrev pub block_at : List Event → ℕ → ℕ → Event → Option Member
block_at journal task p e =
    option_map_or (λ (o : Opening). then_some (eqb o.by task && not (is_left journal p)) (Block p)) (opening_in e) None

-- it is no rendezvous
no_rendezvous : (journal : List Event) (task p call : ℕ) (o : Option Opening)
    → option_map_or (λ (o : Opening). then_some (eqb o.by task && not (is_left journal p)) (Block p)) o None ≡ Some (Rendezvous call) → ⊥
no_rendezvous journal task p call None gives = none-some (Rendezvous call) gives
no_rendezvous journal task p call (Some o) gives =
    let found = then_some-some (eqb o.by task && not (is_left journal p)) (Block p) (Rendezvous call) gives in
    cc (found.1)

-- the blocks of a task's nest
abbrev pub blocks : List Event → ℕ → List Member
blocks journal task = gathered (block_at journal task) journal

under_later : (event : Event) (before : List Event) (p : ℕ) (outer : Master) → IsUnder before p outer → IsUnder (event ∷ before) p outer
under_later event before p outer is = record {
  event = is.event;
  opening = is.opening;
  stands = event_at-older event before p is.event is.stands;
  says = is.says;
  under = is.under;
}

nested_later : (event : Event) (before : List Event) (outer : Master) (members : List Member) → AreNested before outer members
    → AreNested (event ∷ before) outer members
nested_later event before outer [] nested = tt
nested_later event before outer (Block p ∷ rest) nested = (under_later event before p outer nested.0, nested_later event before (BlockMaster p) rest nested.1)
nested_later event before outer (Rendezvous call ∷ rest) nested = nested_later event before outer rest nested

nested_push : (journal : List Event) (outer : Master) (members : List Member) (p : ℕ) → AreNested journal outer members
    → IsUnder journal p (innermost_block outer members) → AreNested journal outer (members ++ Block p ∷ [])
unfolding innermost_block
nested_push journal outer [] p nested under = (under, tt)
nested_push journal outer (Block q ∷ rest) p nested under = (nested.0, nested_push journal (BlockMaster q) rest p nested.1 under)
nested_push journal outer (Rendezvous call ∷ rest) p nested under = nested_push journal outer rest p nested under

nested_part : (journal : List Event) (outer : Master) (members more : List Member) → AreNested journal outer (members ++ more) → AreNested journal outer members
nested_part journal outer [] more nested = tt
nested_part journal outer (Block q ∷ rest) more nested = (nested.0, nested_part journal (BlockMaster q) rest more nested.1)
nested_part journal outer (Rendezvous call ∷ rest) more nested = nested_part journal outer rest more nested

-- rendezvous make no difference
nested_filtered : (journal : List Event) (outer : Master) (members : List Member) → AreNested journal outer (filter is_block_member members)
    → AreNested journal outer members
nested_filtered journal outer [] nested = tt
nested_filtered journal outer (Block q ∷ rest) nested = (nested.0, nested_filtered journal (BlockMaster q) rest nested.1)
nested_filtered journal outer (Rendezvous call ∷ rest) nested = nested_filtered journal outer rest nested

innermost_filtered : (outer : Master) (members : List Member) → innermost_block outer (filter is_block_member members) ≡ innermost_block outer members
unfolding innermost_block
innermost_filtered outer [] = refl
innermost_filtered outer (Block p ∷ rest) = innermost_filtered (BlockMaster p) rest
innermost_filtered outer (Rendezvous call ∷ rest) = innermost_filtered outer rest

-- the blocks of a task are those of its nest
pub blocks_of_nest : (journal : List Event) (task : ℕ) → blocks journal task ≡ filter is_block_member (nest journal task)
unfolding nest member_at
blocks_of_nest journal task =
    gathered-filtered (member_at journal task) (block_at journal task) is_block_member journal (λ p e at. both (opening_in e) (meeting_in e) p)
  where
    met : (m : Option Meeting) → None ≡ kept is_block_member
        (option_map_or (λ (m : Meeting). then_some (is_wait_of journal task m.wait && is_open_call journal m.call) (Rendezvous m.call)) m None)
    met None = refl
    met (Some m) = by_test (is_wait_of journal task m.wait && is_open_call journal m.call) m.call
      where
        by_test : (b : Bool) (call : ℕ) → None ≡ kept is_block_member (then_some b (Rendezvous call))
        by_test true call = refl
        by_test false call = refl

    opened : (b : Bool) (p : ℕ) (x : Option Member) → None ≡ kept is_block_member x
        → then_some b (Block p) ≡ kept is_block_member (option_or (then_some b (Block p)) x)
    opened true p x none = refl
    opened false p x none = none

    both : (o : Option Opening) (m : Option Meeting) (p : ℕ)
        → option_map_or (λ (o : Opening). then_some (eqb o.by task && not (is_left journal p)) (Block p)) o None
        ≡ kept is_block_member (option_or (option_map_or (λ (o : Opening). then_some (eqb o.by task && not (is_left journal p)) (Block p)) o None)
        (option_map_or (λ (m : Meeting). then_some (is_wait_of journal task m.wait && is_open_call journal m.call) (Rendezvous m.call)) m None))
    both None m p = met m
    both (Some o) m p = opened (eqb o.by task && not (is_left journal p)) p _ (met m)

-- the frame of a task is the innermost of its blocks, else its body
pub frame_of_blocks : (journal : List Event) (task : ℕ) → frame journal task ≡ innermost_block (Body (record { 0 = task })) (blocks journal task)
unfolding frame
frame_of_blocks journal task =
    sym (innermost_filtered (Body (record { 0 = task })) (nest journal task))
    ∙ ap (innermost_block (Body (record { 0 = task }))) (sym (blocks_of_nest journal task))

-- what is known of a block of a nest
pub member_parts : (journal : List Event) (task p q : ℕ) (e : Event) → block_at journal task p e ≡ Some (Block q) → (o : Opening) × (opening_in e ≡ Some o)
    × (o.by ≡ task) × (is_left journal p ≡ false) × (p ≡ q)
member_parts journal task p q e gives = parts (opening_in e) refl gives
  where
    parts : (o : Option Opening) → opening_in e ≡ o
        → option_map_or (λ (o : Opening). then_some (eqb o.by task && not (is_left journal p)) (Block p)) o None ≡ Some (Block q) → (o : Opening)
        × (opening_in e ≡ Some o) × (o.by ≡ task) × (is_left journal p ≡ false) × (p ≡ q)
    parts None says gives = absurd (none-some (Block q) gives)
    parts (Some o) says gives =
        let found = then_some-some (eqb o.by task && not (is_left journal p)) (Block p) (Block q) gives in
        let both = and_parts (eqb o.by task) (not (is_left journal p)) found.0 in
        let same : p ≡ q = cc (found.1) in
        (o, says, eqb-true o.by task both.0, not-true (is_left journal p) both.1, same)

agree : (o : Option Opening) (task p : ℕ) (old new : Bool) → (old ≡ true → new ≡ true)
    → (option_map_or (λ (o : Opening). then_some (eqb o.by task && not old) (Block p)) o None ≡ Some (Block p) → new ≡ true → ⊥)
    → option_map_or (λ (o : Opening). then_some (eqb o.by task && not old) (Block p)) o None
    ≡ option_map_or (λ (o : Opening). then_some (eqb o.by task && not new) (Block p)) o None
agree None task p old new more none = refl
agree (Some o) task p true true more none = refl
agree (Some o) task p true false more none = absurd (false≢true (more refl))
agree (Some o) task p false false more none = refl
agree (Some o) task p false true more none = by_task (eqb o.by task) none
  where
    by_task : (b : Bool) → (then_some (b && true) (Block p) ≡ Some (Block p) → true ≡ true → ⊥)
        → then_some (b && true) (Block p) ≡ then_some (b && false) (Block p)
    by_task true none = absurd (none refl refl)
    by_task false none = refl

still : (event : Event) (before : List Event) (task p : ℕ) (e : Event) → (block_at before task p e ≡ Some (Block p) → is_left (event ∷ before) p ≡ true → ⊥)
    → block_at before task p e ≡ block_at (event ∷ before) task p e
still event before task p e none =
    agree (opening_in e) task p (is_left before p) (is_left (event ∷ before) p) (left_more event before p) none

-- a block that is left is the last of its task's
abbrev IsLast : Event → List Event → ℕ → List Event → Type 0
IsLast event before task journal =
    (p q : ℕ) (e f : Event) → event_at journal p ≡ Some e → event_at journal q ≡ Some f → block_at before task p e ≡ Some (Block p)
    → block_at before task q f ≡ Some (Block q) → is_left (event ∷ before) p ≡ true → p < q → ⊥

shrink : (event : Event) (before : List Event) (task : ℕ) (outer : Master) (journal : List Event) → IsLast event before task journal
    → AreNested before outer (gathered (block_at before task) journal) → AreNested before outer (gathered (block_at (event ∷ before) task) journal)
unfolding gathered
shrink event before task outer [] last nested = tt
shrink event before task outer (e ∷ earlier) last nested =
    by_newest (block_at (event ∷ before) task (suc (length earlier)) e) refl
    (λ (fewer : IsLast event before task earlier) (part : AreNested before outer (gathered (block_at before task) earlier)). shrink event before task outer
    earlier fewer part)
  where
    fewer : IsLast event before task earlier
    fewer p q f g at_p at_q = last p q f g (event_at-older e earlier p f at_p) (event_at-older e earlier q g at_q)

    by_newest : (o : Option Member) → block_at (event ∷ before) task (suc (length earlier)) e ≡ o
        → (IsLast event before task earlier → AreNested before outer (gathered (block_at before task) earlier)
        → AreNested before outer (gathered (block_at (event ∷ before) task) earlier))
        → AreNested before outer (gathered (block_at (event ∷ before) task) earlier ++ option_to_list o)
    by_newest None is again =
        rw (append-nil (gathered (block_at (event ∷ before) task) earlier))
        (again fewer (nested_part before outer (gathered (block_at before task) earlier)
        (option_to_list (block_at before task (suc (length earlier)) e)) nested))
    by_newest (Some x) is again =
        let stays : block_at before task (suc (length earlier)) e ≡ Some x =
        still event before task (suc (length earlier)) e (λ was left. newly_left x is left) ∙ is in
        let whole : gathered (block_at before task) earlier ≡ gathered (block_at (event ∷ before) task) earlier =
        gathered-agree (block_at (event ∷ before) task) (block_at before task) earlier (λ p f at.
        still event before task p f (λ was left.
        let low : p ≤ length earlier = event_at-within earlier p f at in
        last p (suc (length earlier)) f e (event_at-older e earlier p f at) (event_at-newest e earlier) was (stays ∙ newest_is x is) left (omega arith))) in
        rw (← whole) (subst (λ (o : Option Member). AreNested before outer (gathered (block_at before task) earlier ++ option_to_list o)) stays nested)
      where
        newest_is : (x : Member) → block_at (event ∷ before) task (suc (length earlier)) e ≡ Some x → Some x ≡ Some (Block (suc (length earlier)))
        newest_is (Block q) is = ap (λ (n : ℕ). Some (Block n)) (sym (member_parts (event ∷ before) task (suc (length earlier)) q e is).4)
        newest_is (Rendezvous call) is = absurd (no_rendezvous (event ∷ before) task (suc (length earlier)) call (opening_in e) is)

        newly_left : (x : Member) → block_at (event ∷ before) task (suc (length earlier)) e ≡ Some x
            → is_left (event ∷ before) (suc (length earlier)) ≡ true → ⊥
        newly_left x is left =
            let parts = member_parts (event ∷ before) task (suc (length earlier)) (suc (length earlier)) e (is ∙ newest_is x is) in
            true≢false (sym left ∙ parts.3)

placed_member : (journal : List Event) (task q r : ℕ) (e : Event) → member_at journal task q e ≡ Some (Block r) → q ≡ r
unfolding member_at
placed_member journal task q r e gives =
    elim (option_or-some (block_at journal task q e)
    (option_map_or (λ (m : Meeting). then_some (is_wait_of journal task m.wait && is_open_call journal m.call) (Rendezvous m.call)) (meeting_in e) None)
    (Block r) gives) [
      | inl opened ↦ (member_parts journal task q r e opened).4
      | inr met ↦ absurd (no_block (meeting_in e) met)
    ]
  where
    no_block : (o : Option Meeting) → option_map_or
        (λ (m : Meeting). then_some (is_wait_of journal task m.wait && is_open_call journal m.call) (Rendezvous m.call)) o None ≡ Some (Block r) → ⊥
    no_block None gives = none-some (Block r) gives
    no_block (Some m) gives =
        let found = then_some-some (is_wait_of journal task m.wait && is_open_call journal m.call) (Rendezvous m.call) (Block r) gives in
        cc (found.1)

block_of_nest : (journal : List Event) (task p : ℕ) (e : Event) → block_at journal task p e ≡ Some (Block p) → member_at journal task p e ≡ Some (Block p)
unfolding member_at
block_of_nest journal task p e gives =
    ap (λ (o : Option Member). option_or o (option_map_or
    (λ (m : Meeting). then_some (is_wait_of journal task m.wait && is_open_call journal m.call) (Rendezvous m.call)) (meeting_in e) None)) gives

-- the block is the innermost of the task's nest, and none of its blocks was opened later
record IsInnermost (journal : List Event) (task b : ℕ) : Type 0 where
  own : IsBlockOf journal task b
  last : (p : ℕ) (e : Event) → event_at journal p ≡ Some e → block_at journal task p e ≡ Some (Block p) → p ≤ b

innermost_found : (journal : List Event) (task : ℕ) (o : Option Member) → innermost (nest journal task) ≡ o → option_map_or is_rendezvous o true ≡ false
    → IsInnermost journal task (member_position o)
unfolding nest member_at
innermost_found journal task None is block = absurd (true≢false block)
innermost_found journal task (Some (Rendezvous call)) is block = absurd (true≢false block)
innermost_found journal task (Some (Block b)) is block =
    let contains : Contains (gathered (member_at journal task) journal) (Block b) = contained (gathered (member_at journal task) journal)
    (length (gathered (member_at journal task) journal) - 1) (Block b) is in
    let (q, e, at, gives) = gathered-found (member_at journal task) journal (Block b) contains in
    let place : q ≡ b = placed_member journal task q b e gives in
    record {
      own = own q e at gives place;
      last = λ p f at_p was. latest (member_at journal task) journal p b f (placed_member journal task) at_p (block_of_nest journal task p f was) is;
    }
  where
    contained : (xs : List Member) (k : ℕ) (x : Member) → slice_get xs k ≡ Some x → Contains xs x
    contained xs k x found = (k, slice_get_within xs k x found, get_or_from_slice_get xs k x x found)

    own : (q : ℕ) (e : Event) → event_at journal q ≡ Some e → member_at journal task q e ≡ Some (Block b) → q ≡ b → IsBlockOf journal task b
    own q e at gives place =
        elim (option_or-some (block_at journal task q e)
        (option_map_or (λ (m : Meeting). then_some (is_wait_of journal task m.wait && is_open_call journal m.call) (Rendezvous m.call)) (meeting_in e) None)
        (Block b) gives) [
          | inl opened ↦
              let parts = member_parts journal task q b e opened in
              subst (IsBlockOf journal task) place (record { event = e; opening = parts.0; stands = at; says = parts.1; by = parts.2 })
          | inr met ↦ absurd (no_block (meeting_in e) met)
        ]
      where
        no_block : (o : Option Meeting) → option_map_or
            (λ (m : Meeting). then_some (is_wait_of journal task m.wait && is_open_call journal m.call) (Rendezvous m.call)) o None ≡ Some (Block b) → ⊥
        no_block None gives = none-some (Block b) gives
        no_block (Some m) gives =
            let found = then_some-some (is_wait_of journal task m.wait && is_open_call journal m.call) (Rendezvous m.call) (Block b) gives in
            cc (found.1)

asked_close : (journal : List Event) (r : Request) (k : Closing) → refusal journal r ≡ None → closing_in (asked_event journal r) ≡ Some k
    → IsInnermost journal k.by k.block
unfolding asked_event closing_in has_no_block
asked_close journal (request.Close by) k accepted says =
    let same = same_Some _ k says in
    subst (λ (x : Closing). IsInnermost journal x.by x.block) same
    (innermost_found journal by.0 (innermost (nest journal by.0)) refl (is_accepted journal (request.Close by) accepted).in_block)
asked_close journal _ k accepted says = absurd (none-some k says)

new_close : (event : Event) (before : List Event) (k : Closing) → MayFollow refusal before event → closing_in event ≡ Some k → IsInnermost before k.by k.block
new_close event before k (inl forces) says = absurd (none-some k.by (sym (forced-step before event forces).holds_none ∙ held_in-closing event k says))
new_close event before k (inr asked) says = asked_close before asked.request k asked.accepted (ap closing_in (sym asked.becomes) ∙ says)

no_opening : (event : Event) (o : Opening) → opening_in event ≡ Some o → (closing_in event ≡ None) × (left_in event ≡ None)
unfolding opening_in closing_in left_in
no_opening (event.Opened by under) o says = (refl, refl)
no_opening _ o says = absurd (none-some o says)

-- what was innermost stays so while its task opens nothing
innermost_later : (event : Event) (before : List Event) (task b : ℕ) → ((o : Opening) → opening_in event ≡ Some o → o.by ≡ task → ⊥) → IsInnermost before task b
    → IsInnermost (event ∷ before) task b
innermost_later event before task b none is = record {
  own = record {
    event = is.own.event;
    opening = is.own.opening;
    stands = event_at-older event before b is.own.event is.own.stands;
    says = is.own.says;
    by =
        is.own.by;
  };
  last = λ p e at was.
      let parts = member_parts (event ∷ before) task p p e was in
      elim (event_at-cases event before p e at) [
        | inl newest ↦ absurd (none parts.0 (ap opening_in newest.1 ∙ parts.1) parts.2)
        | inr older ↦ is.last p e older (still event before task p e (λ _ left. true≢false (sym left ∙ parts.3)) ∙ was)
      ];
}

-- while a close is pending, its block is the innermost of its task
pending_innermost : (journal : List Event) (c : ℕ) (e : Event) (k : Closing) → IsLawful journal → event_at journal c ≡ Some e → closing_in e ≡ Some k
    → is_released journal c ≡ false → has_ended journal k.by ≡ false → IsInnermost journal k.by k.block
unfolding event_at
pending_innermost [] c e k lawful at says unreleased live = absurd (none-some e at)
pending_innermost (newest ∷ before) c e k lawful at says unreleased live =
    elim (event_at-cases newest before c e at) [
      | inl now ↦
          let here : closing_in newest ≡ Some k = ap closing_in now.1 ∙ says in
          innermost_later newest before k.by k.block (λ o opens by. absurd (none-some k (sym (no_opening newest o opens).0 ∙ here)))
          (new_close newest before k lawful.1 here)
      | inr older ↦
          let was = pending_innermost before c e k lawful.0 older says (is_released-before newest before c unreleased)
          (has_ended-before newest before k.by live) in
          innermost_later newest before k.by k.block
          (λ o opens by.
          let asked = opening_asked newest before o lawful.1 opens in
          let held = is_suspended-from before k.by c
          (record {
            event = e;
            stands = older;
            holds = held_in-closing e k says;
            unreleased = is_released-before newest before c unreleased;
            live =
                has_ended-before newest before k.by live;
          }) in
          true≢false (sym held ∙ running_free before k.by (subst (λ (u : ℕ). is_running before u ≡ true) by asked.runs)))
          was
    ]

row_leaving : (journal : List Event) (event : Event) (c : ℕ) (e : Event) (k : Closing) → IsRow journal event → left_in event ≡ Some c
    → event_at journal c ≡ Some e → closing_in e ≡ Some k → is_to_leave journal c k ≡ true
unfolding left_in
row_leaving journal event c e k (leaves p f closing at closes leave) says stands closed =
    let place : p ≡ c = same_Some p c says in
    let one : f ≡ e = same_Some f e (sym at ∙ ap (event_at journal) place ∙ stands) in
    let same : closing ≡ k = same_Some closing k (sym closes ∙ ap closing_in one ∙ closed) in
    subst (λ (n : ℕ). is_to_leave journal n k ≡ true) place (subst (λ (x : Closing). is_to_leave journal p x ≡ true) same leave)
row_leaving journal event c e k _ says stands closed = absurd (none-some c says)

-- a block is left where its close is pending and all of its dependents are terminated
pub leaves_ready : (event : Event) (before : List Event) (p : ℕ) → MayFollow refusal before event → (gone : Leaves event before p)
    → is_to_leave before gone.at gone.closing ≡ true
leaves_ready event before p (inl forces) gone =
    row_leaving before event gone.at gone.closed gone.closing (forced-row before event forces) gone.leaves gone.stands gone.says
leaves_ready event before p (inr asked) gone = absurd (none-some gone.at (sym (ap left_in asked.becomes ∙ left_in-asked before asked.request) ∙ gone.leaves))

leaving : (event : Event) (before : List Event) (p : ℕ) → IsLawful (event ∷ before) → Leaves event before p → (t : ℕ) × IsInnermost before t p
unfolding is_to_leave
leaving event before p lawful gone =
    let pending = and_parts (is_pending before gone.at gone.closing.by) (all_terminated before (BlockMaster gone.closing.block))
    (leaves_ready event before p lawful.1 gone) in
    let free = pending_parts before gone.at gone.closing.by pending.0 in (
      gone.closing.by,
      subst (λ (b : ℕ). IsInnermost before gone.closing.by b) gone.block
          (pending_innermost before gone.at gone.closed gone.closing lawful.0 gone.stands gone.says free.0 free.1),
    )

leaves_last : (event : Event) (before : List Event) (task : ℕ) → IsLawful (event ∷ before) → IsLast event before task before
leaves_last event before task lawful p q e f at_p at_q was_p was_q left less =
    let mine = member_parts before task p p e was_p in
    elim (left_cases event before p lawful left) [
      | inr was ↦ true≢false (sym was ∙ mine.3)
      | inl gone ↦
          let (t, is) = leaving event before p lawful gone in
          let one : is.own.event ≡ e = same_Some is.own.event e (sym is.own.stands ∙ at_p) in
          let same : is.own.opening ≡ mine.0 = same_Some is.own.opening mine.0 (sym is.own.says ∙ ap opening_in one ∙ mine.1) in
          let by : t ≡ task = sym is.own.by ∙ ap (λ (o : Opening). o.by) same ∙ mine.2 in
          let low : q ≤ p = is.last q f at_q (subst (λ (u : ℕ). block_at before u q f ≡ Some (Block q)) (sym by) was_q) in
          omega (arith, low, less)
    ]

-- in a lawful journal each block of a task that isn't left was opened within the one before it, else within the
-- task's body
pub blocks_nest : (journal : List Event) (task : ℕ) → IsLawful journal → AreNested journal (Body (record { 0 = task })) (blocks journal task)
unfolding gathered
blocks_nest [] task lawful = tt
blocks_nest (event ∷ before) task lawful =
    by_newest (block_at (event ∷ before) task (suc (length before)) event) refl (blocks_nest before task lawful.0)
  where
    outer : Master
    outer = Body (record { 0 = task })

    by_newest : (o : Option Member) → block_at (event ∷ before) task (suc (length before)) event ≡ o
        → AreNested before (Body (record { 0 = task })) (blocks before task)
        → AreNested (event ∷ before) (Body (record { 0 = task })) (gathered (block_at (event ∷ before) task) before ++ option_to_list o)
    by_newest None is older =
        rw (append-nil (gathered (block_at (event ∷ before) task) before))
        (nested_later event before outer (gathered (block_at (event ∷ before) task) before)
        (shrink event before task outer before (leaves_last event before task lawful) older))
    by_newest (Some (Rendezvous call)) is older = absurd (no_rendezvous (event ∷ before) task (suc (length before)) call (opening_in event) is)
    by_newest (Some (Block p)) is older =
        let (o, says, by, unleft, place) = member_parts (event ∷ before) task (suc (length before)) p event is in
        let asked = opening_asked event before o lawful.1 says in
        let kept_blocks : gathered (block_at (event ∷ before) task) before ≡ blocks before task =
        gathered-agree (block_at before task) (block_at (event ∷ before) task) before (λ q f at.
        sym (still event before task q f (λ was left.
        elim (left_cases event before q lawful left) [
          | inl gone ↦ none-some gone.at (sym (no_opening event o says).1 ∙ gone.leaves)
          | inr left_before ↦ true≢false (sym left_before ∙ (member_parts before task q q f was).3)
        ]))) in
        let under : o.under ≡ innermost_block outer (blocks before task) = asked.within ∙ ap (frame before) by ∙ frame_of_blocks before task in
        rw kept_blocks
        (nested_push (event ∷ before) outer (blocks before task) p (nested_later event before outer (blocks before task) older)
        (record { event = event; opening = o; stands = ap (event_at (event ∷ before)) (sym place) ∙ event_at-newest event before; says = says; under = under }))

-- the same of a whole nest, where rendezvous make no difference
pub nest_properly : (journal : List Event) (task : ℕ) → IsLawful journal → AreNested journal (Body (record { 0 = task })) (nest journal task)
nest_properly journal task lawful =
    nested_filtered journal (Body (record { 0 = task })) (nest journal task)
    (subst (λ (members : List Member). AreNested journal (Body (record { 0 = task })) members) (blocks_of_nest journal task) (blocks_nest journal task lawful))
