-- Where open calls stand, and that who closed a block is within it until it is left.
use Rattle.std.proofs.Common.{◌≡◌, ℕ, suc, true, false, ◌&&◌, Option, Some, None, List, [], ◌∷◌, length, sym, refl, ap, ◌∙◌, subst, ◌⊎◌, inl, inr}
use Rattle.std.proofs.Common.{eqb}
use Rattle.std.specs.Prelude.{◌-◌}
use Rattle.std.specs.Option.{option_map_or}
use Rattle.std.specs.List.{Contains}
use Rattle.std.proofs.lemmas.Bool.{and_parts, and_from, or_cases, or_left, or_right, both_ways, cases_Bool, eqb-true, eq-eqb, false≢true, true≢false}
use Rattle.std.proofs.lemmas.Option.{none-some, same_Some, slice_get_within, get_or_from_slice_get}
use Rattle.ada_events.specs.declared.event.Event.{Event}
use Rattle.ada_events.specs.declared.event.Event.TheVariants as event
use Rattle.ada_events.specs.declared.event.Event.TheVariants.{Met}
use Rattle.ada_events.specs.declared.request.Request.{Request}
use Rattle.ada_events.specs.declared.request.Request.TheVariants as request
use Rattle.ada_events.specs.declared.names.Member.{Member}
use Rattle.ada_events.specs.declared.names.Member.TheVariants.{Block, Rendezvous}
use Rattle.ada_events.specs.Search.{is_number, is_some_and, event_at}
use Rattle.ada_events.specs.Says.{Call, Opening, Closing, opening_in, closing_in, meeting_in, call_in, left_in, released_in}
use Rattle.ada_events.specs.Asks.{member_position, asked_event}
use Rattle.ada_events.specs.Phases.{is_released}
use Rattle.ada_events.specs.Calls.{is_pending, is_open_call, queue}
use Rattle.ada_events.specs.Nests.{is_left_close, is_left, is_wait_of, member_at, nest, innermost}
use Rattle.ada_events.specs.Refusals.{refusal, is_rendezvous, has_no_block}
use Rattle.ada_events.specs.Forced.{is_to_leave}
use Rattle.ada_events.specs.Lawful.{IsLawful, MayFollow}
use Rattle.ada_laws.specs.Calls.{IsOpenCallAt}
use Rattle.ada_laws.specs.Suspension.{IsSuspendedAt}
use Rattle.ada_laws.proofs.searching.Searching.{option_map_or-true, is_number-some, is_number-from, event_at-cases, event_at-older}
use Rattle.ada_laws.proofs.searching.Searching.{any_event-found, any_event-from}
use Rattle.ada_laws.proofs.searching.Gathering.{gathered-from}
use Rattle.ada_laws.proofs.searching.Growing.{is_released-now, is_released-before, has_ended-before}
use Rattle.ada_laws.proofs.searching.Saying.{held_in-closing}
use Rattle.ada_laws.proofs.asking.Accepting.{is_accepted}
use Rattle.ada_laws.proofs.queues.CallLaws.{open_calls_are_joined_or_queued, one_meeting_for_a_joined_call}
use Rattle.ada_laws.proofs.within.Framing.{IsBlockOf}
use Rattle.ada_laws.proofs.queues.Queueing.{is_open_at-from}
use Rattle.ada_laws.proofs.forced.Rows.{IsRow, forced-row}
use Rattle.ada_laws.proofs.forced.Rows.IsRow.{leaves}
use Rattle.ada_laws.proofs.forced.Stepping.{forced-step}
use Rattle.ada_laws.proofs.held.Suspending.{suspended_once}
use Rattle.ada_laws.proofs.within.Leaving.{left_in-asked}
use Rattle.ada_laws.proofs.within.Owners.{IsOwnBlock, own_member}
use Rattle.ada_step_laws.proofs.changing.Within.{next_unreleased}
use Rattle.ada_step_laws.specs.Kinds.{IsCloseAt}
use Rattle.ada_step_laws.proofs.newly.Completing.{block_within}
use Rattle.ada_step_laws.proofs.newly.Waiting.{suspended_at}

-- an open call stands in a queue of its callee, or its rendezvous in the callee's nest
rendezvous_within : (journal : List Event) (task call wait q : ℕ) → event_at journal q ≡ Some (Met call wait) → is_wait_of journal task wait ≡ true
    → is_open_call journal call ≡ true → Contains (nest journal task) (Rendezvous call)
unfolding nest member_at opening_in meeting_in
rendezvous_within journal task call wait q at waits opened =
    gathered-from (member_at journal task) journal q (Met call wait) (Rendezvous call) at (rw (waits, opened) refl)

pub open_place : (journal : List Event) (call : Call) (p : ℕ) → IsLawful journal → IsOpenCallAt journal call p
    → Contains (queue journal call.callee call.entry) p ⊎ Contains (nest journal call.callee) (Rendezvous p)
unfolding is_wait_of is_open_call
open_place journal call p lawful opened =
    elim (open_calls_are_joined_or_queued journal lawful call p opened) [
      | inr queued ↦ inl queued.0
      | inl joined ↦
          let (position, q, meeting) = one_meeting_for_a_joined_call journal lawful p joined.0 in
          let one : meeting.call_stands.event ≡ opened.stands.event = same_Some _ _ (sym meeting.call_stands.stands ∙ opened.stands.stands) in
          let called : meeting.called ≡ call = same_Some _ _ (sym meeting.call_stands.says ∙ (ap call_in one ∙ opened.stands.says)) in
          let by : meeting.wait.by ≡ call.callee = meeting.by_callee ∙ ap (λ (c : Call). c.callee) called in
          inr (rendezvous_within journal call.callee p position q meeting.stands
          (rw (meeting.wait_stands.stands, meeting.wait_stands.says) (eq-eqb meeting.wait.by call.callee by))
          (rw opened.stands.stands (is_open_at-from journal call p opened)))
    ]

-- who closes a block is within it
innermost_within : (journal : List Event) (task : ℕ) (member : Option Member) → innermost (nest journal task) ≡ member
    → option_map_or is_rendezvous member true ≡ false → Contains (nest journal task) (Block (member_position member))
innermost_within journal task None last blockless = absurd (true≢false blockless)
innermost_within journal task (Some (Rendezvous call)) last blockless = absurd (true≢false blockless)
innermost_within journal task (Some (Block p)) last blockless =
    let place = length (nest journal task) - 1 in
    (place, slice_get_within (nest journal task) place (Block p) last, get_or_from_slice_get (nest journal task) place (Block p) (Block p) last)

asked_closing : (journal : List Event) (r : Request) (c : Closing) → refusal journal r ≡ None → closing_in (asked_event journal r) ≡ Some c
    → IsOwnBlock journal c.by c.block
unfolding asked_event closing_in has_no_block
asked_closing journal (request.Close by) c accepted says =
    subst (λ (x : Closing). IsOwnBlock journal x.by x.block) (same_Some _ c says)
    (own_member journal by.0 (member_position (innermost (nest journal by.0)))
    (innermost_within journal by.0 (innermost (nest journal by.0)) refl (is_accepted journal (request.Close by) accepted).in_block))
asked_closing journal _ c accepted says = absurd (none-some c says)

pub closing_open : (e : Event) (before : List Event) (c : Closing) → MayFollow refusal before e → closing_in e ≡ Some c → IsOwnBlock before c.by c.block
closing_open e before c (inl forces) says = absurd (none-some c.by (sym (forced-step before e forces).holds_none ∙ held_in-closing e c says))
closing_open e before c (inr asked) says = asked_closing before asked.request c asked.accepted (ap closing_in (sym asked.becomes) ∙ says)

pub later_block : (e : Event) (before : List Event) (task p : ℕ) → IsBlockOf before task p → IsBlockOf (e ∷ before) task p
later_block e before task p block =
    record { event = block.event; opening = block.opening; stands = event_at-older e before p block.event block.stands; says = block.says; by = block.by }

pub closer_owns : (journal : List Event) (q : ℕ) (e : Event) (k : Closing) → IsLawful journal → event_at journal q ≡ Some e → closing_in e ≡ Some k
    → IsBlockOf journal k.by k.block
unfolding event_at
closer_owns [] q e k lawful at says = absurd (none-some e at)
closer_owns (event ∷ before) q e k lawful at says =
    later_block event before k.by k.block
    (elim (event_at-cases event before q e at) [
      | inl newest ↦ (closing_open event before k lawful.1 (ap closing_in newest.1 ∙ says)).block
      | inr older ↦ closer_owns before q e k lawful.0 older says
    ])

owner_is : (journal : List Event) (p t u : ℕ) → IsBlockOf journal t p → IsBlockOf journal u p → t ≡ u
owner_is journal p t u one other =
    let same : one.event ≡ other.event = same_Some _ _ (sym one.stands ∙ other.stands) in
    let opening = same_Some one.opening other.opening (sym one.says ∙ (ap opening_in same ∙ other.says)) in
    sym one.by ∙ (ap (λ (o : Opening). o.by) opening ∙ other.by)

-- the close that a block is left by was pending
left_in-left : (e : Event) (q : ℕ) → left_in e ≡ Some q → (released_in e ≡ Some q) × (closing_in e ≡ None)
unfolding left_in released_in closing_in
left_in-left (event.Left close) q says = (says, refl)
left_in-left _ q says = absurd (none-some q says)

row_pending : (journal : List Event) (e : Event) (q : ℕ) → IsRow journal e → left_in e ≡ Some q
    → (d : Event) × (k : Closing) × (event_at journal q ≡ Some d) × (closing_in d ≡ Some k) × (is_pending journal q k.by ≡ true)
unfolding left_in is_to_leave
row_pending journal e q (leaves p d k at says leave) left =
    let same : p ≡ q = same_Some p q left in (
      d,
      k,
      ap (event_at journal) (sym same) ∙ at,
      says,
      ap (λ (n : ℕ). is_pending journal n k.by) (sym same) ∙
          (and_parts (is_pending journal p k.by) _ leave).0,
    )
row_pending journal e q _ left = absurd (none-some q left)

leaving_suspended : (e : Event) (before : List Event) (q : ℕ) → MayFollow refusal before e → left_in e ≡ Some q
    → (d : Event) × (k : Closing) × (event_at before q ≡ Some d) × (closing_in d ≡ Some k) × (is_pending before q k.by ≡ true)
leaving_suspended e before q (inl forces) left = row_pending before e q (forced-row before e forces) left
leaving_suspended e before q (inr asked) left =
    absurd (none-some q (sym (left_in-asked before asked.request) ∙ (ap left_in (sym asked.becomes) ∙ left)))

unleft_close : (journal : List Event) (c : ℕ) → is_left_close journal c ≡ true → is_released journal c ≡ true
unfolding is_left_close is_released
unleft_close [] c left = absurd (false≢true left)
unleft_close (e ∷ before) c left =
    elim (or_cases (is_number c (left_in e)) (is_left_close before c) left) [
      | inl now ↦
          or_left (is_number c (released_in e)) (is_released before c)
          (is_number-from c (released_in e) (left_in-left e c (is_number-some c (left_in e) now)).0)
      | inr was ↦ or_right (is_number c (released_in e)) (is_released before c) (unleft_close before c was)
    ]

-- a block isn't left by an event that leaves no close of it
stays_open : (e : Event) (before : List Event) (b : ℕ) → IsLawful (e ∷ before) → is_left before b ≡ false
    → ((q : ℕ) (d : Event) (k : Closing) → event_at before q ≡ Some d → closing_in d ≡ Some k → k.block ≡ b → left_in e ≡ Some q → ⊥)
    → is_left (e ∷ before) b ≡ false
unfolding is_left is_left_close
stays_open e before b lawful was none =
    elim (cases_Bool (is_left (e ∷ before) b)) [
      | inr unleft ↦ unleft
      | inl left ↦
          let (q, d, at, passes) =
          any_event-found (λ q d. is_some_and (closing_in d) (λ (c : Closing). eqb c.block b) && is_left_close (e ∷ before) q) (e ∷ before) left in
          let both = and_parts (is_some_and (closing_in d) (λ (c : Closing). eqb c.block b)) (is_left_close (e ∷ before) q) passes in
          let (k, says, closes) = option_map_or-true (λ (c : Closing). eqb c.block b) (closing_in d) both.0 in
          elim (event_at-cases e before q d at) [
            | inl newest ↦
                let freed : is_released (e ∷ before) (suc (length before)) ≡ true =
                unleft_close (e ∷ before) (suc (length before)) (subst (λ (n : ℕ). is_left_close (e ∷ before) n ≡ true) newest.0 both.1) in
                absurd (true≢false (sym freed ∙ next_unreleased e before lawful))
            | inr older ↦
                elim (or_cases (is_number q (left_in e)) (is_left_close before q) both.1) [
                  | inl now ↦ absurd (none q d k older says (eqb-true k.block b closes) (is_number-some q (left_in e) now))
                  | inr earlier ↦
                      absurd (both_ways (is_left before b) was
                      (any_event-from (λ q d. is_some_and (closing_in d) (λ (c : Closing). eqb c.block b) && is_left_close before q) before q d older
                      (and_from (is_some_and (closing_in d) (λ (c : Closing). eqb c.block b)) (is_left_close before q) both.0 earlier)))
                ]
          ]
    ]

-- who is suspended at a close hasn't left the block
closer_open : (journal : List Event) (c : Closing) (p : ℕ) → IsLawful journal → IsCloseAt journal c p → IsSuspendedAt journal c.by p
    → is_left journal c.block ≡ false
unfolding event_at
closer_open [] c p lawful closes suspended = absurd (none-some closes.event closes.stands)
closer_open (e ∷ before) c p lawful closes suspended =
    elim (event_at-cases e before p closes.event closes.stands) [
      | inl newest ↦
          let says : closing_in e ≡ Some c = ap closing_in newest.1 ∙ closes.says in
          stays_open e before c.block lawful (closing_open e before c lawful.1 says).unleft
          (λ q d k at is block left. none-some c (sym (left_in-left e q left).1 ∙ says))
      | inr older ↦
          let live = has_ended-before e before c.by suspended.live in
          let was : IsSuspendedAt before c.by p =
          record {
            event = closes.event;
            stands = older;
            holds = held_in-closing closes.event c closes.says;
            unreleased = is_released-before e before p suspended.unreleased;
            live = live;
          } in
          let unleft = closer_open before c p lawful.0 (record { event = closes.event; stands = older; says = closes.says }) was in
          stays_open e before c.block lawful unleft
          (λ q d k at is block left.
          let (d2, k2, at2, is2, pending) = leaving_suspended e before q lawful.1 left in
          let one : d2 ≡ d = same_Some d2 d (sym at2 ∙ at) in
          let kept : k2 ≡ k = same_Some k2 k (sym is2 ∙ (ap closing_in one ∙ is)) in
          let other =
          owner_is before c.block k.by c.by (subst (λ (n : ℕ). IsBlockOf before k.by n) block (closer_owns before q d k lawful.0 at is))
          (closer_owns before p closes.event c lawful.0 older closes.says) in
          let by : k2.by ≡ c.by = ap (λ (k : Closing). k.by) kept ∙ other in
          let here = suspended_at before q c.by d at (held_in-closing d k is ∙ ap Some other) (subst (λ (n : ℕ). is_pending before q n ≡ true) by pending) in
          let same : q ≡ p = suspended_once before c.by q p lawful.0 here was in
          true≢false (sym (is_released-now e before q (left_in-left e q left).0) ∙ (ap (is_released (e ∷ before)) same ∙ suspended.unreleased)))
    ]

pub closer_within : (journal : List Event) (c : Closing) (p : ℕ) → IsLawful journal → IsCloseAt journal c p → IsSuspendedAt journal c.by p
    → Contains (nest journal c.by) (Block c.block)
closer_within journal c p lawful closes suspended =
    block_within journal c.by c.block (closer_owns journal p closes.event c lawful closes.stands closes.says) (closer_open journal c p lawful closes suspended)
