-- Calls: open, joined and queued alike.
use Rattle.std.proofs.Common.{◌≡◌, ℕ, Bool, true, false, not, ◌&&◌, eqb, Some, None, List, refl, sym, ap, ◌∙◌, inl, inr}
use Rattle.std.proofs.lemmas.Bool.{cases_Bool, and_parts, eqb-true, not-true}
use Rattle.std.proofs.lemmas.Option.{same_Some}
use Rattle.ada_events.specs.declared.event.Event.{Event}
use Rattle.ada_events.specs.Search.{is_some_and, event_at}
use Rattle.ada_events.specs.Says.{Call, Wait, call_in, wait_in}
use Rattle.ada_events.specs.Phases.{is_released, has_ended}
use Rattle.ada_events.specs.Calls.{is_pending, is_met, is_open_at, is_joined_at, is_queued_at, is_caller_in_rendezvous}
use Rattle.ada_events.specs.Termination.{is_open_terminate, has_empty_queues, is_at_open_terminate, is_ready_to_quit}
use Rattle.ada_laws.specs.Suspension.{IsSuspendedAt}
use Rattle.ada_laws.proofs.searching.Searching.{option_map_or-true}
use Rattle.ada_laws.proofs.searching.Saying.{held_in-call, held_in-wait}
use Rattle.ada_laws.proofs.queues.Queueing.{is_open_at-call, open_call_suspends}
use Rattle.ada_laws.proofs.forced.Parts.{waits_open}
use Rattle.ada_standing.specs.Renaming.{Renaming}
use Rattle.ada_standing.specs.StandsIn.{StandsIn}
use Rattle.ada_standing.proofs.alike.Orderly.{IsOrderly}
use Rattle.ada_standing.proofs.alike.Kinds.{AreBoth, calls_alike, waits_alike}
use Rattle.ada_standing.proofs.alike.Pairs.{IsPair, ended_alike}
use Rattle.ada_standing.proofs.alike.Mastering.{task_one, eqb_alike}
use Rattle.ada_standing.proofs.alike.Passing.{any_alike}

pub pending_from : (journal : List Event) (u p : ℕ) → IsSuspendedAt journal u p → is_pending journal p u ≡ true
unfolding is_pending
pending_from journal u p held = rw (held.unreleased, held.live) refl

-- a task is suspended at its own calls and waits
pub call_by : (journal : List Event) (u p : ℕ) (held : IsSuspendedAt journal u p) (c : Call) → call_in held.event ≡ Some c → c.by ≡ u
call_by journal u p held c says = same_Some c.by u (sym (held_in-call held.event c says) ∙ held.holds)

pub wait_by : (journal : List Event) (u p : ℕ) (held : IsSuspendedAt journal u p) (w : Wait) → wait_in held.event ≡ Some w → w.by ≡ u
wait_by journal u p held w says = same_Some w.by u (sym (held_in-wait held.event w says) ∙ held.holds)

open_suspended : (journal : List Event) (u p : ℕ) (held : IsSuspendedAt journal u p) (c : Call) → call_in held.event ≡ Some c
    → is_open_at journal p held.event ≡ true
unfolding is_open_at
open_suspended journal u p held c says = rw (says, call_by journal u p held c says) (pending_from journal u p held)

no_open : (journal : List Event) (p : ℕ) (e : Event) → call_in e ≡ None → is_open_at journal p e ≡ false
unfolding is_open_at
no_open journal p e none = rw none refl

-- the caller of an open call is suspended at it
pub open_held : (journal : List Event) (p : ℕ) (e : Event) → event_at journal p ≡ Some e → is_open_at journal p e ≡ true → (u : ℕ) × IsSuspendedAt journal u p
open_held journal p e at opened =
    let (call, says, is) = is_open_at-call journal p e at opened in
    (call.by, open_call_suspends journal call p is)

pub open_at_alike : (old new : List Event) (names : Renaming) (p q : ℕ) (pair : IsPair old new names p q)
    → is_open_at old p pair.held.event ≡ is_open_at new q pair.holds.event
open_at_alike old new names p q pair =
    elim (calls_alike old new names p q pair.held.event pair.holds.event pair.alike) [
      | AreBoth.both c b is has same ↦ open_suspended old pair.task p pair.held c is ∙ sym (open_suspended new pair.stand q pair.holds b has)
      | AreBoth.neither is has ↦ no_open old p pair.held.event is ∙ sym (no_open new q pair.holds.event has)
    ]

-- open calls are met alike
met_at_alike : (old new : List Event) (names : Renaming) (p q : ℕ) (pair : IsPair old new names p q) (pass : Bool → Bool)
    → (is_open_at old p pair.held.event && pass (is_met old p)) ≡ (is_open_at new q pair.holds.event && pass (is_met new q))
met_at_alike old new names p q pair pass =
    elim (calls_alike old new names p q pair.held.event pair.holds.event pair.alike) [
      | AreBoth.both c b is has same ↦ rw (open_at_alike old new names p q pair, same.met) refl
      | AreBoth.neither is has ↦ rw (no_open old p pair.held.event is, no_open new q pair.holds.event has) refl
    ]

pub joined_at_alike : (old new : List Event) (names : Renaming) (p q : ℕ) (pair : IsPair old new names p q)
    → is_joined_at old p pair.held.event ≡ is_joined_at new q pair.holds.event
unfolding is_joined_at
joined_at_alike old new names p q pair = met_at_alike old new names p q pair (λ b. b)

pub queued_at_alike : (old new : List Event) (names : Renaming) (p q : ℕ) (pair : IsPair old new names p q)
    → is_queued_at old p pair.held.event ≡ is_queued_at new q pair.holds.event
unfolding is_queued_at
queued_at_alike old new names p q pair = met_at_alike old new names p q pair not

pub queued_held : (journal : List Event) (p : ℕ) (e : Event) → event_at journal p ≡ Some e → is_queued_at journal p e ≡ true
    → (u : ℕ) × IsSuspendedAt journal u p
unfolding is_queued_at
queued_held journal p e at queued = open_held journal p e at (and_parts (is_open_at journal p e) (not (is_met journal p)) queued).0

joined_held : (journal : List Event) (p : ℕ) (e : Event) → event_at journal p ≡ Some e → is_joined_at journal p e ≡ true → (u : ℕ) × IsSuspendedAt journal u p
unfolding is_joined_at
joined_held journal p e at joined = open_held journal p e at (and_parts (is_open_at journal p e) (is_met journal p) joined).0

-- tasks that stand for others are the same alike
pub same_task_alike : (old new : List Event) (names : Renaming) (s t u v : ℕ) → StandsIn old new names → names.task s ≡ Some u → names.task t ≡ Some v
    → eqb s t ≡ eqb u v
same_task_alike old new names s t u v stands first second =
    eqb_alike names.task s t u v (λ s t v one other. task_one old new names s t v stands.tasks one other) first second

-- a pair's calls are by the one task and by the other alike
by_alike : (old new : List Event) (names : Renaming) (p q u v : ℕ) (pair : IsPair old new names p q) → StandsIn old new names → names.task u ≡ Some v
    → is_some_and (call_in pair.held.event) (λ (c : Call). eqb c.by u) ≡ is_some_and (call_in pair.holds.event) (λ (c : Call). eqb c.by v)
by_alike old new names p q u v pair stands named =
    elim (calls_alike old new names p q pair.held.event pair.holds.event pair.alike) [
      | AreBoth.both c b is has same ↦
          rw (is, has, call_by old pair.task p pair.held c is, call_by new pair.stand q pair.holds b has)
          (same_task_alike old new names pair.task u pair.stand v stands pair.named named)
      | AreBoth.neither is has ↦ rw (is, has) refl
    ]

-- and of the one and of the other
of_alike : (old new : List Event) (names : Renaming) (p q u v : ℕ) (pair : IsPair old new names p q) → StandsIn old new names → names.task u ≡ Some v
    → is_some_and (call_in pair.held.event) (λ (c : Call). eqb c.callee u) ≡ is_some_and (call_in pair.holds.event) (λ (c : Call). eqb c.callee v)
of_alike old new names p q u v pair stands named =
    elim (calls_alike old new names p q pair.held.event pair.holds.event pair.alike) [
      | AreBoth.both c b is has same ↦ rw (is, has) (same_task_alike old new names c.callee u b.callee v stands same.callee named)
      | AreBoth.neither is has ↦ rw (is, has) refl
    ]

pub caller_alike : (old new : List Event) (names : Renaming) (u v : ℕ) → StandsIn old new names → IsOrderly old → IsOrderly new → names.task u ≡ Some v
    → is_caller_in_rendezvous old u ≡ is_caller_in_rendezvous new v
unfolding is_caller_in_rendezvous
caller_alike old new names u v stands orderly also named =
    any_alike old new names
    (λ p e. is_some_and (call_in e) (λ (c : Call). eqb c.by u) && is_joined_at old p e)
    (λ q e. is_some_and (call_in e) (λ (c : Call). eqb c.by v) && is_joined_at new q e)
    stands orderly also
    (λ p e at passes. joined_held old p e at (and_parts _ (is_joined_at old p e) passes).1)
    (λ q e at passes. joined_held new q e at (and_parts _ (is_joined_at new q e) passes).1)
    (λ p q pair. rw (by_alike old new names p q u v pair stands named, joined_at_alike old new names p q pair) refl)

pub empty_alike : (old new : List Event) (names : Renaming) (u v : ℕ) → StandsIn old new names → IsOrderly old → IsOrderly new → names.task u ≡ Some v
    → has_empty_queues old u ≡ has_empty_queues new v
unfolding has_empty_queues
empty_alike old new names u v stands orderly also named =
    ap not (any_alike old new names
    (λ p e. is_some_and (call_in e) (λ (c : Call). eqb c.callee u) && is_queued_at old p e)
    (λ q e. is_some_and (call_in e) (λ (c : Call). eqb c.callee v) && is_queued_at new q e)
    stands orderly also
    (λ p e at passes. queued_held old p e at (and_parts _ (is_queued_at old p e) passes).1)
    (λ q e at passes. queued_held new q e at (and_parts _ (is_queued_at new q e) passes).1)
    (λ p q pair. rw (of_alike old new names p q u v pair stands named, queued_at_alike old new names p q pair) refl))

terminates_held : (journal : List Event) (u p : ℕ) (e : Event) → has_ended journal u ≡ false → event_at journal p ≡ Some e → waits_open journal u p e ≡ true
    → (t : ℕ) × IsSuspendedAt journal t p
terminates_held journal u p e active at passes =
    let both = and_parts _ (not (is_released journal p)) passes in
    let (w, says, test) = option_map_or-true (λ (w : Wait). eqb w.by u && is_open_terminate w.tail) (wait_in e) both.0 in
    let by = eqb-true w.by u (and_parts (eqb w.by u) (is_open_terminate w.tail) test).0 in (
      u,
      record {
        event = e;
        stands = at;
        holds = held_in-wait e w says ∙ ap Some by;
        unreleased = not-true (is_released journal p) both.1;
        live = active;
      },
    )

terminates_alike : (old new : List Event) (names : Renaming) (p q u v : ℕ) (pair : IsPair old new names p q) → StandsIn old new names → names.task u ≡ Some v
    → waits_open old u p pair.held.event ≡ waits_open new v q pair.holds.event
terminates_alike old new names p q u v pair stands named =
    elim (waits_alike old new names p q pair.held.event pair.holds.event pair.alike) [
      | AreBoth.both w x is has same ↦
          rw (
            is,
            has,
            wait_by old pair.task p pair.held w is,
            wait_by new pair.stand q pair.holds x has,
            same.tail,
            pair.held.unreleased,
            pair.holds.unreleased,
            same_task_alike old new names pair.task u pair.stand v stands pair.named named,
          ) refl
      | AreBoth.neither is has ↦ rw (is, has) refl
    ]

-- a task is ready to quit as the one that stands for it is
pub ready_alike : (old new : List Event) (names : Renaming) (u v : ℕ) → StandsIn old new names → IsOrderly old → IsOrderly new → names.task u ≡ Some v
    → is_ready_to_quit old u ≡ is_ready_to_quit new v
unfolding is_ready_to_quit
ready_alike old new names u v stands orderly also named =
    elim (cases_Bool (has_ended old u)) [
      | inl ended ↦
          rw (ended_alike old new names u v stands named, ended) (false_between (is_at_open_terminate old u) _ (is_at_open_terminate new v) _)
      | inr active ↦
          let there : has_ended new v ≡ false = ended_alike old new names u v stands named ∙ active in
          rw (
            any_alike old new names (waits_open old u) (waits_open new v) stands orderly also
                (λ p e at passes. terminates_held old u p e active at passes) (λ q e at passes. terminates_held new v q e there at passes)
                (λ p q pair. terminates_alike old new names p q u v pair stands named),
            there,
            active,
            empty_alike old new names u v stands orderly also named,
          ) refl
    ]
  where
    false_between : (a b c d : Bool) → (a && not true && b) ≡ (c && not true && d)
    false_between true b true d = refl
    false_between true b false d = refl
    false_between false b true d = refl
    false_between false b false d = refl
