-- A block that its task has closed and hasn't left: the task, where it hasn't ended, is suspended at the close (9.4).
use Rattle.std.proofs.Common.{◌≡◌, ℕ, suc, Bool, true, false, ◌&&◌, ◌||◌, eqb, Some, None, List, [], ◌∷◌, length, refl, sym, ap, ◌∙◌, subst}
use Rattle.std.proofs.Common.{inl, inr}
use Rattle.std.specs.List.{list_any}
use Rattle.std.proofs.lemmas.Bool.{and_from, and_parts, or_cases, eq-eqb, eqb-true, false_from_ne_true, false≢true, true≢false}
use Rattle.std.proofs.lemmas.Option.{none-some, same_Some}
use Rattle.ada_events.specs.declared.event.Event.{Event}
use Rattle.ada_events.specs.declared.event.Event.TheVariants as event
use Rattle.ada_events.specs.declared.request.Request.{Request}
use Rattle.ada_events.specs.declared.request.Request.TheVariants as request
use Rattle.ada_events.specs.Search.{is_number, event_at}
use Rattle.ada_events.specs.Says.{Closing, Call, call_in, wait_in, delay_in, start_in, closing_in, released_in, left_in}
use Rattle.ada_events.specs.Asks.{asked_event, member_position}
use Rattle.ada_events.specs.Phases.{is_released, has_ended}
use Rattle.ada_events.specs.Calls.{is_pending, is_open_at, is_queued_at, is_open_call}
use Rattle.ada_events.specs.Nests.{nest, innermost, is_left, is_left_close}
use Rattle.ada_events.specs.Forced.{is_to_fail, is_to_cancel}
use Rattle.ada_events.specs.Refusals.{refusal}
use Rattle.ada_events.specs.Lawful.{IsLawful, MayFollow}
use Rattle.ada_laws.specs.Suspension.{IsSuspendedAt}
use Rattle.ada_laws.proofs.within.Framing.{IsBlockOf}
use Rattle.ada_laws.proofs.searching.Growing.{has_ended-before}
use Rattle.ada_laws.proofs.forced.Rows.{IsRow, forced-row}
use Rattle.ada_laws.proofs.forced.Rows.IsRow.{halts, fails, meets, cancels, passes, wakes, activates, goes, quits, leaves}
use Rattle.ada_laws.proofs.searching.Saying.{held_in-closing}
use Rattle.ada_laws.proofs.searching.Searching.{event_at-newest, event_at-older, any_event-from, is_number-some, is_number-from, option_map_or-true}
use Rattle.ada_laws.proofs.within.Members.{nest_open, end_within}
use Rattle.ada_laws.proofs.within.Leaving.{unleft_before}
use Rattle.ada_step_laws.proofs.changing.Within.{next_unreleased}
use Rattle.ada_step_laws.specs.Kinds.{IsCloseAt}
use Rattle.ada_step_laws.proofs.newly.Completions.{one_owner}
use Rattle.ada_step_laws.proofs.newly.Places.{closer_owns, later_block}
use Rattle.ada_view.specs.internal.Ending.{closes}

pub record SaysNothingElse (e : Event) : Type 0 where
  pub calls : call_in e ≡ None
  pub waits : wait_in e ≡ None
  pub delays : delay_in e ≡ None
  pub starts : start_in e ≡ None

only_closes : (e : Event) (k : Closing) → closing_in e ≡ Some k → SaysNothingElse e
unfolding closing_in call_in wait_in delay_in start_in
only_closes (event.Closed by block) k says = record { calls = refl; waits = refl; delays = refl; starts = refl }
only_closes _ k says = absurd (none-some k says)

same_event : (journal : List Event) (p x : ℕ) (e d : Event) → p ≡ x → event_at journal p ≡ Some e → event_at journal x ≡ Some d → e ≡ d
same_event journal p x e d same at also = same_Some e d (sym at ∙ ap (event_at journal) same ∙ also)

no_open_call : (journal : List Event) (p : ℕ) (e d : Event) (k : Closing) → e ≡ d → closing_in d ≡ Some k → is_open_at journal p e ≡ true → ⊥
unfolding is_open_at
no_open_call journal p e d k same closes opened =
    let (c, calls, _) = option_map_or-true (λ (c : Call). is_pending journal p c.by) (call_in e) opened in
    none-some c (sym (only_closes d k closes).calls ∙ ap call_in (sym same) ∙ calls)

-- what a row releases at a close leaves its block
row_leaves : (journal : List Event) (e : Event) (x : ℕ) (d : Event) (k : Closing) → IsRow journal e → released_in e ≡ Some x → event_at journal x ≡ Some d
    → closing_in d ≡ Some k → left_in e ≡ Some x
unfolding released_in left_in is_to_fail is_to_cancel is_queued_at
row_leaves journal e x d k (fails p c at fail) frees there closes =
    absurd (no_open_call journal p c d k (same_event journal p x c d (same_Some p x frees) at there) closes (and_parts _ (is_open_at journal p c) fail).1)
row_leaves journal e x d k (cancels p c at cancel) frees there closes =
    absurd (no_open_call journal p c d k (same_event journal p x c d (same_Some p x frees) at there) closes
    (and_parts (is_open_at journal p c) _ (and_parts _ _ cancel).1).0)
row_leaves journal e x d k (meets p c wait call at says pending taken) frees there closes =
    absurd (none-some wait (sym (only_closes d k closes).waits ∙ ap wait_in (sym (same_event journal p x c d (same_Some p x frees) at there)) ∙ says))
row_leaves journal e x d k (passes p c wait way at says pending taken) frees there closes =
    absurd (none-some wait (sym (only_closes d k closes).waits ∙ ap wait_in (sym (same_event journal p x c d (same_Some p x frees) at there)) ∙ says))
row_leaves journal e x d k (wakes p c delay at says wake) frees there closes =
    absurd (none-some delay (sym (only_closes d k closes).delays ∙ ap delay_in (sym (same_event journal p x c d (same_Some p x frees) at there)) ∙ says))
row_leaves journal e x d k (activates p c start ok at says pending done is) frees there closes =
    absurd (none-some start (sym (only_closes d k closes).starts ∙ ap start_in (sym (same_event journal p x c d (same_Some p x frees) at there)) ∙ says))
row_leaves journal e x d k (leaves p c closing at says leave) frees there closes = frees
row_leaves journal e x d k (halts u below halt) frees there closes = absurd (none-some x frees)
row_leaves journal e x d k (goes u below go) frees there closes = absurd (none-some x frees)
row_leaves journal e x d k (quits m quit) frees there closes = absurd (none-some x frees)

-- no request releases a close
asked_keeps : (journal : List Event) (r : Request) (x : ℕ) (d : Event) (k : Closing) → refusal journal r ≡ None → released_in (asked_event journal r) ≡ Some x
    → event_at journal x ≡ Some d → closing_in d ≡ Some k → ⊥
unfolding asked_event released_in is_open_call
asked_keeps journal (request.End by raised) x d k accepted frees there closes =
    let opened = nest_open journal by.0 _ (end_within journal by raised accepted) in
    let p = member_position (innermost (nest journal by.0)) in
    let (e, at, here) = option_map_or-true (is_open_at journal p) (event_at journal p) opened in
    no_open_call journal p e d k (same_event journal p x e d (same_Some p x frees) at there) closes here
asked_keeps journal _ x d k accepted frees there closes = none-some x frees

-- what an event releases at a close leaves its block
pub close_freed : (e : Event) (before : List Event) (x : ℕ) (d : Event) (k : Closing) → MayFollow refusal before e → released_in e ≡ Some x
    → event_at before x ≡ Some d → closing_in d ≡ Some k → left_in e ≡ Some x
close_freed e before x d k (inl forces) frees there closes = row_leaves before e x d k (forced-row before e forces) frees there closes
close_freed e before x d k (inr asked) frees there closes =
    absurd (asked_keeps before asked.request x d k asked.accepted (ap released_in (sym asked.becomes) ∙ frees) there closes)

-- the task is suspended at a close of the block
pub record IsAtClose (journal : List Event) (task block : ℕ) : Type 0 where
  pub at : ℕ
  pub closing : Closing
  pub stands : IsCloseAt journal closing at
  pub of : closing.block ≡ block
  pub suspended : IsSuspendedAt journal task at

left_by : (e : Event) (before : List Event) (at block : ℕ) (d : Event) (k : Closing) → event_at before at ≡ Some d → closing_in d ≡ Some k → k.block ≡ block
    → left_in e ≡ Some at → is_left (e ∷ before) block ≡ true
unfolding is_left is_left_close
left_by e before at block d k there says of left =
    any_event-from (λ p e2. closes block e2 && is_left_close (e ∷ before) p) (e ∷ before) at d (event_at-older e before at d there)
    (and_from (closes block d) (is_left_close (e ∷ before) at) (rw says (eq-eqb k.block block of)) (rw (is_number-from at (left_in e) left) refl))

-- the close isn't released while the block isn't left
stays_unreleased : (e : Event) (before : List Event) (task block : ℕ) → IsLawful (e ∷ before) → is_left (e ∷ before) block ≡ false
    → (was : IsAtClose before task block) → is_released (e ∷ before) was.at ≡ false
unfolding is_released
stays_unreleased e before task block lawful unleft was =
    false_from_ne_true (is_number was.at (released_in e) || is_released before was.at) (λ now.
    elim (or_cases (is_number was.at (released_in e)) (is_released before was.at) now) [
      | inl frees ↦
          let left = close_freed e before was.at was.stands.event was.closing lawful.1 (is_number-some was.at (released_in e) frees) was.stands.stands
          was.stands.says in
          true≢false (sym (left_by e before was.at block was.stands.event was.closing was.stands.stands was.stands.says was.of left) ∙ unleft)
      | inr already ↦ true≢false (sym already ∙ was.suspended.unreleased)
    ])

pub any_found : (test : Event → Bool) (journal : List Event) → list_any test journal ≡ true → (p : ℕ) × (e : Event) × (event_at journal p ≡ Some e)
    × (test e ≡ true)
any_found test [] found = absurd (false≢true found)
any_found test (e ∷ before) found =
    elim (or_cases (test e) (list_any test before) found) [
      | inl now ↦ (suc (length before), e, event_at-newest e before, now)
      | inr was ↦ let (p, d, at, holds) = any_found test before was in (p, d, event_at-older e before p d at, holds)
    ]

block_before : (e : Event) (before : List Event) (by block : ℕ) → IsLawful before → IsBlockOf (e ∷ before) by block → list_any (closes block) before ≡ true
    → IsBlockOf before by block
block_before e before by block lawful own was =
    let (q, d, at, found) = any_found (closes block) before was in
    let (k, says, of) = option_map_or-true (λ (c : Closing). eqb c.block block) (closing_in d) found in
    let owned : IsBlockOf before k.by block = subst (IsBlockOf before k.by) (eqb-true k.block block of) (closer_owns before q d k lawful at says) in
    subst (λ (u : ℕ). IsBlockOf before u block) (one_owner (e ∷ before) block k.by by (later_block e before k.by block owned) own) owned

-- whoever closed a block, hasn't left it and hasn't ended is suspended at the close
pub closed_at : (journal : List Event) (by block : ℕ) → IsLawful journal → IsBlockOf journal by block → is_left journal block ≡ false
    → has_ended journal by ≡ false → list_any (closes block) journal ≡ true → IsAtClose journal by block
closed_at [] by block lawful own unleft live closed = absurd (false≢true closed)
closed_at (e ∷ before) by block lawful own unleft live closed =
    elim (or_cases (closes block e) (list_any (closes block) before) closed) [
      | inl now ↦
          let (k, says, of) = option_map_or-true (λ (c : Closing). eqb c.block block) (closing_in e) now in
          let here = suc (length before) in
          let owned = subst (IsBlockOf (e ∷ before) k.by) (eqb-true k.block block of)
          (closer_owns (e ∷ before) here e k lawful (event_at-newest e before) says) in
          record {
            at = here;
            closing = k;
            stands = record { event = e; stands = event_at-newest e before; says = says };
            of = eqb-true k.block block of;
            suspended = record {
              event = e;
              stands = event_at-newest e before;
              holds = held_in-closing e k says ∙ ap Some (one_owner (e ∷ before) block k.by by owned own);
              unreleased = next_unreleased e before lawful;
              live = live;
            };
          }
      | inr was ↦
          let earlier = closed_at before by block lawful.0 (block_before e before by block lawful.0 own was) (unleft_before e before block unleft)
          (has_ended-before e before by live) was in
          record {
            at = earlier.at;
            closing = earlier.closing;
            stands = record {
              event = earlier.stands.event;
              stands = event_at-older e before earlier.at earlier.stands.event earlier.stands.stands;
              says =
                  earlier.stands.says;
            };
            of = earlier.of;
            suspended = record {
              event = earlier.suspended.event;
              stands = event_at-older e before earlier.at earlier.suspended.event earlier.suspended.stands;
              holds = earlier.suspended.holds;
              unreleased = stays_unreleased e before by block lawful unleft earlier;
              live = live;
            };
          }
    ]
