-- What a task is within after a rendezvous ended.
use Rattle.ada_step_laws.specs.Changes.{is_apart_from}
use Rattle.std.proofs.Common.{◌≡◌, ℕ, suc, Bool, true, false, cond, not, ◌&&◌, ◌||◌, Option, Some, None, List, [], ◌∷◌, ◌++◌, length, refl, ap, inl, inr, eqb}
use Rattle.std.proofs.Common.{append-nil}
use Rattle.std.specs.Option.{option_map_or, option_or, option_to_list}
use Rattle.std.specs.Bool.{then_some}
use Rattle.std.specs.List.{filter}
use Rattle.std.proofs.lemmas.Bool.{cases_eq}
use Rattle.std.proofs.lemmas.List.Elements.{filter-append}
use Rattle.ada_events.specs.declared.event.Event.{Event}
use Rattle.ada_events.specs.declared.names.Member.{Member}
use Rattle.ada_events.specs.declared.names.Member.TheVariants.{Block, Rendezvous}
use Rattle.ada_events.specs.Search.{gathered, event_at, is_some_and}
use Rattle.ada_events.specs.Says.{Call, Opening, Meeting, call_in, opening_in, meeting_in, left_in, released_in}
use Rattle.ada_events.specs.Phases.{is_released, has_ended}
use Rattle.ada_events.specs.Calls.{is_open_at, is_open_call, is_pending}
use Rattle.ada_events.specs.Nests.{is_left, is_wait_of, member_at, nest}
use Rattle.ada_laws.proofs.searching.Searching.{event_at-older, event_at-newest}
use Rattle.ada_step_laws.proofs.changing.Holding.{IsQuiet, quiet_ended}
use Rattle.ada_step_laws.proofs.changing.Saying.{release_only}
use Rattle.ada_step_laws.proofs.changing.Calling.{SaysCall}
use Rattle.ada_step_laws.proofs.changing.Releasing.{says_release}
use Rattle.ada_step_laws.proofs.changing.Nesting.{left_same, wait_same, no_open, nothing_beyond}
use Rattle.ada_events.proofs.Positions.{event_at-other}

abbrev pub kept : {A : Type 0} → (A → Bool) → Option A → Option A
kept keep None = None
kept keep (Some x) = cond (keep x) (Some x) None

by_keep : {A : Type 0} (x : A) (b : Bool) → option_to_list (cond b (Some x) None) ≡ cond b (x ∷ []) []
by_keep x true = refl
by_keep x false = refl

kept_list : {A : Type 0} (keep : A → Bool) (o : Option A) → option_to_list (kept keep o) ≡ filter keep (option_to_list o)
kept_list keep None = refl
kept_list keep (Some x) = by_keep x (keep x)

pub gathered-filtered : {A : Type 0} (give more : ℕ → Event → Option A) (keep : A → Bool) (journal : List Event)
    → ((p : ℕ) (e : Event) → event_at journal p ≡ Some e → more p e ≡ kept keep (give p e)) → gathered more journal ≡ filter keep (gathered give journal)
unfolding gathered
gathered-filtered give more keep [] same = refl
gathered-filtered give more keep (event ∷ before) same =
    rw (
      gathered-filtered give more keep before (λ p e at. same p e (event_at-older event before p e at)),
      same (suc (length before)) event
          (event_at-newest event before),
      filter-append keep (gathered give before) (option_to_list (give (suc (length before)) event)),
    )
    (ap (λ xs. filter keep (gathered give before) ++ xs) (kept_list keep (give (suc (length before)) event)))

open_released : (event : Event) (before : List Event) (p r : ℕ) (e : Event) → IsQuiet event → released_in event ≡ Some r
    → is_open_at (event ∷ before) p e ≡ (is_open_at before p e && not (eqb p r))
unfolding is_open_at is_pending is_released
open_released event before p r e quiet frees = of_call (call_in e)
  where
    of_bits : (n a b : Bool) → (not (n || a) && not b) ≡ ((not a && not b) && not n)
    of_bits true true b = refl
    of_bits true false true = refl
    of_bits true false false = refl
    of_bits false true b = refl
    of_bits false false true = refl
    of_bits false false false = refl

    of_call : (o : Option Call) → option_map_or (λ (c : Call). not (is_released (event ∷ before) p) && not (has_ended (event ∷ before) c.by)) o false
        ≡ (option_map_or (λ (c : Call). not (is_released before p) && not (has_ended before c.by)) o false && not (eqb p r))
    of_call None = refl
    of_call (Some c) = rw (frees, quiet_ended event before c.by quiet) (of_bits (eqb p r) (is_released before p) (has_ended before c.by))

open_call_released : (event : Event) (before : List Event) (call r : ℕ) → IsQuiet event → call_in event ≡ None → released_in event ≡ Some r
    → is_open_call (event ∷ before) call ≡ (is_open_call before call && not (eqb call r))
unfolding is_open_call
open_call_released event before call r quiet calls frees = elim (cases_eq call (suc (length before))) [
  | inl same ↦ rw (same, event_at-newest event before, nothing_beyond before (event_at before (suc (length before))) refl) (no_open event before calls)
  | inr other ↦ rw (event_at-other event before call other) (of_event (event_at before call))
]
  where
    of_event : (o : Option Event) → is_some_and o (is_open_at (event ∷ before) call) ≡ (is_some_and o (is_open_at before call) && not (eqb call r))
    of_event None = refl
    of_event (Some e) = open_released event before call r e quiet frees

-- what a task is within after an event that releases something, but leaves no block and meets nobody: as before,
-- without the rendezvous with what is released
pub nest_released : (event : Event) (before : List Event) (task r : ℕ) → released_in event ≡ Some r → left_in event ≡ None → meeting_in event ≡ None
    → nest (event ∷ before) task ≡ filter (is_apart_from r) (nest before task)
unfolding nest gathered member_at
nest_released event before task r frees leaves meets =
    let only = (release_only event r frees).plain.quiet in
    let says = says_release event r frees in
    rw (says.1.opens, meets, append-nil (gathered (member_at (event ∷ before) task) before))
    (gathered-filtered (member_at before task) (member_at (event ∷ before) task) (is_apart_from r) before
    (λ p e at. rw (left_same event before p leaves says.1.closes) (both (opening_in e) (meeting_in e) p only says)))
  where
    chosen : (b k : Bool) (met : ℕ) → not (eqb met r) ≡ k → then_some (b && k) (Rendezvous met) ≡ kept (is_apart_from r) (then_some b (Rendezvous met))
    chosen true true met same = rw same refl
    chosen true false met same = rw same refl
    chosen false k met same = refl

    apart : (a b k : Bool) → (a && (b && k)) ≡ (a && b && k)
    apart true b k = refl
    apart false b k = refl

    by_meeting : (m : Option Meeting) → IsQuiet event → (call_in event ≡ None) × SaysCall event
        → option_map_or (λ (m : Meeting). then_some (is_wait_of (event ∷ before) task m.wait && is_open_call (event ∷ before) m.call) (Rendezvous m.call)) m
        None ≡ kept (is_apart_from r) (option_map_or
        (λ (m : Meeting). then_some (is_wait_of before task m.wait && is_open_call before m.call) (Rendezvous m.call)) m None)
    by_meeting None only says = refl
    by_meeting (Some m) only says =
        rw (
          wait_same event before task m.wait says.1.waits,
          open_call_released event before m.call r only says.0 frees,
          apart (is_wait_of before task m.wait)
              (is_open_call before m.call) (not (eqb m.call r)),
        )
        (chosen (is_wait_of before task m.wait && is_open_call before m.call) (not (eqb m.call r)) m.call refl)

    by_opening : (b : Bool) (p : ℕ) (x y : Option Member) → x ≡ kept (is_apart_from r) y
        → option_or (then_some b (Block p)) x ≡ kept (is_apart_from r) (option_or (then_some b (Block p)) y)
    by_opening true p x y same = refl
    by_opening false p x y same = same

    both : (o : Option Opening) (m : Option Meeting) (p : ℕ) → IsQuiet event → (call_in event ≡ None) × SaysCall event
        → option_or (option_map_or (λ (o : Opening). then_some (eqb o.by task && not (is_left before p)) (Block p)) o None)
        (option_map_or (λ (m : Meeting). then_some (is_wait_of (event ∷ before) task m.wait && is_open_call (event ∷ before) m.call) (Rendezvous m.call)) m
        None) ≡ kept (is_apart_from r) (option_or (option_map_or (λ (o : Opening). then_some (eqb o.by task && not (is_left before p)) (Block p)) o None)
        (option_map_or (λ (m : Meeting). then_some (is_wait_of before task m.wait && is_open_call before m.call) (Rendezvous m.call)) m None))
    both None m p only says = by_meeting m only says
    both (Some o) m p only says =
        by_opening (eqb o.by task && not (is_left before p)) p _ _ (by_meeting m only says)
