-- Open calls and the queues that they stand in.
use Rattle.std.proofs.Common.{◌≡◌, ℕ, ◌<◌, true, false, not, ◌&&◌, Some, List, sym, refl, ◌∙◌, subst, arith, ℤ, pos, negsuc, eqb, ◌≤◌, length}
use Rattle.std.specs.Prelude.{int_le}
use Rattle.std.specs.Bool.{then_some}
use Rattle.std.specs.List.{AllPairs, Contains}
use Rattle.std.proofs.lemmas.Bool.{and_parts, and_from, eq-eqb, eqb-true, le-leb, not-true, not_from_false}
use Rattle.std.proofs.lemmas.Option.{same_Some}
use Rattle.ada_events.specs.declared.event.Event.{Event}
use Rattle.ada_events.specs.declared.names.Entry.{Entry}
use Rattle.ada_events.specs.Search.{event_at}
use Rattle.ada_events.specs.Says.{Call, call_in}
use Rattle.ada_events.specs.Entries.{same_entry, same_index}
use Rattle.ada_events.specs.Phases.{is_released, has_ended}
use Rattle.ada_events.specs.Calls.{is_pending, is_met, is_open_at, is_queued_at, is_call_of, queue, is_open_call}
use Rattle.ada_laws.specs.Suspension.{IsSuspendedAt}
use Rattle.ada_laws.specs.Calls.{IsOpenCallAt}
use Rattle.ada_laws.proofs.searching.Searching.{then_some-some, option_map_or-true, event_at-within}
use Rattle.ada_laws.proofs.searching.Gathering.{gathered-found, gathered-from, gathered-rises}
use Rattle.ada_laws.proofs.searching.Saying.{held_in-call}

int_le-same : (i : ℤ) → int_le i i ≡ true
int_le-same (pos n) = le-leb n n (omega arith)
int_le-same (negsuc n) = le-leb n n (omega arith)

pub same_entry-same : (e : Entry) → same_entry e e ≡ true
same_entry-same e =
    and_from (eqb e.family e.family) (same_index e.index e.index) (eq-eqb e.family e.family refl)
    (and_from (int_le e.index e.index) (int_le e.index e.index) (int_le-same e.index) (int_le-same e.index))

-- an open call, as the definitions test it
pub is_open_at-from : (journal : List Event) (call : Call) (position : ℕ) (opened : IsOpenCallAt journal call position)
    → is_open_at journal position opened.stands.event ≡ true
unfolding is_open_at is_pending
is_open_at-from journal call position opened =
    rw opened.stands.says
    (and_from (not (is_released journal position)) (not (has_ended journal call.by)) (not_from_false (is_released journal position) opened.unreleased)
    (not_from_false (has_ended journal call.by) opened.live))

pub is_open_at-call : (journal : List Event) (position : ℕ) (event : Event) → event_at journal position ≡ Some event → is_open_at journal position event ≡ true
    → (call : Call) × (call_in event ≡ Some call) × IsOpenCallAt journal call position
unfolding is_open_at is_pending
is_open_at-call journal position event at opened =
    let (call, says, pending) = option_map_or-true (λ (c : Call). not (is_released journal position) && not (has_ended journal c.by)) (call_in event) opened in
    let both = and_parts (not (is_released journal position)) (not (has_ended journal call.by)) pending in (
      call,
      says,
      record {
        stands = record { event = event; stands = at; says = says };
        unreleased = not-true (is_released journal position) both.0;
        live = not-true (has_ended journal call.by) both.1;
      },
    )

-- the caller of an open call is suspended at it
pub open_call_suspends : (journal : List Event) (call : Call) (position : ℕ) → IsOpenCallAt journal call position → IsSuspendedAt journal call.by position
open_call_suspends journal call position opened = record {
  event = opened.stands.event;
  stands = opened.stands.stands;
  holds = held_in-call opened.stands.event call opened.stands.says;
  unreleased = opened.unreleased;
  live = opened.live;
}

-- what stands in a queue: an open call of that entry, with which no rendezvous began
pub record IsQueuedCall (journal : List Event) (task : ℕ) (entry : Entry) (position : ℕ) : Type 0 where
  pub call : Call
  pub opened : IsOpenCallAt journal call position
  pub unmet : is_met journal position ≡ false
  pub of_task : call.callee ≡ task
  pub of_entry : same_entry call.entry entry ≡ true

queued_call : (journal : List Event) (task : ℕ) (entry : Entry) (position : ℕ) (event : Event) → event_at journal position ≡ Some event
    → is_call_of task entry event ≡ true → is_queued_at journal position event ≡ true → IsQueuedCall journal task entry position
unfolding is_call_of is_queued_at
queued_call journal task entry position event at calls queued =
    let parts = and_parts (is_open_at journal position event) (not (is_met journal position)) queued in
    let (call, says, opened) = is_open_at-call journal position event at parts.0 in
    let (named, names, same) = option_map_or-true (λ (c : Call). eqb c.callee task && same_entry c.entry entry) (call_in event) calls in
    let one : named ≡ call = same_Some named call (sym names ∙ says) in
    let both = and_parts (eqb named.callee task) (same_entry named.entry entry) same in
    record {
      call = call;
      opened = opened;
      unmet = not-true (is_met journal position) parts.1;
      of_task = subst (λ (c : Call). c.callee ≡ task) one (eqb-true named.callee task both.0);
      of_entry = subst (λ (c : Call). same_entry c.entry entry ≡ true) one both.1;
    }

pub queue-found : (journal : List Event) (task : ℕ) (entry : Entry) (position : ℕ) → Contains (queue journal task entry) position
    → IsQueuedCall journal task entry position
unfolding queue
queue-found journal task entry position contains =
    let (p, e, at, gives) = gathered-found (λ p e. then_some (is_call_of task entry e && is_queued_at journal p e) p) journal position contains in
    let found = then_some-some (is_call_of task entry e && is_queued_at journal p e) p position gives in
    let both = and_parts (is_call_of task entry e) (is_queued_at journal p e) found.0 in
    subst (λ (q : ℕ). IsQueuedCall journal task entry q) found.1 (queued_call journal task entry p e at both.0 both.1)

call_of_itself : (event : Event) (call : Call) → call_in event ≡ Some call → is_call_of call.callee call.entry event ≡ true
unfolding is_call_of
call_of_itself event call says =
    rw says (and_from (eqb call.callee call.callee) (same_entry call.entry call.entry) (eq-eqb call.callee call.callee refl) (same_entry-same call.entry))

queued_from : (journal : List Event) (position : ℕ) (event : Event) → is_open_at journal position event ≡ true → is_met journal position ≡ false
    → is_queued_at journal position event ≡ true
unfolding is_queued_at
queued_from journal position event opened unmet =
    and_from (is_open_at journal position event) (not (is_met journal position)) opened (not_from_false (is_met journal position) unmet)

pub queue-from : (journal : List Event) (call : Call) (position : ℕ) → IsOpenCallAt journal call position → is_met journal position ≡ false
    → Contains (queue journal call.callee call.entry) position
unfolding queue
queue-from journal call position opened unmet =
    let event = opened.stands.event in
    let queued = queued_from journal position event (is_open_at-from journal call position opened) unmet in
    let both = and_from (is_call_of call.callee call.entry event) (is_queued_at journal position event) (call_of_itself event call opened.stands.says) queued in
    gathered-from (λ p e. then_some (is_call_of call.callee call.entry e && is_queued_at journal p e) p) journal position event position opened.stands.stands
    (rw both refl)

pub queue-rises : (journal : List Event) (task : ℕ) (entry : Entry) → AllPairs (λ p q. p < q) (queue journal task entry)
unfolding queue
queue-rises journal task entry =
    gathered-rises (λ p e. then_some (is_call_of task entry e && is_queued_at journal p e) p) journal
    (λ p q e gives. (then_some-some (is_call_of task entry e && is_queued_at journal p e) p q gives).1)

pub open_within : (journal : List Event) (call : ℕ) → is_open_call journal call ≡ true → call ≤ length journal
unfolding is_open_call
open_within journal call opened =
    let (e, at, found) = option_map_or-true (is_open_at journal call) (event_at journal call) opened in
    event_at-within journal call e at
