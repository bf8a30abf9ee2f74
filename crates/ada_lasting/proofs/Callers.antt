-- A kernel that lives on tells outcomes, and the callers of accepted calls, as the journal that it follows does.
use Rattle.std.proofs.Common.{◌≡◌, ℕ, Bool, true, false, not, ◌&&◌, ◌||◌, if◌then◌else◌, Option, Some, None, List, refl, sym, ap, ◌∙◌, subst}
use Rattle.std.specs.Bool.{then_some}
use Rattle.std.specs.Option.{option_map, option_and_then, option_or}
use Rattle.std.proofs.lemmas.Bool.{eq-eqb, eqb-true, false≢true}
use Rattle.std.proofs.lemmas.Option.{none-some, same_Some}
use Rattle.ada_events.specs.declared.event.Event.{Event}
use Rattle.ada_events.specs.declared.event.Event.TheVariants as event
use Rattle.ada_events.specs.declared.outcome.Outcome.{Outcome}
use Rattle.ada_events.specs.declared.outcome.Outcome.TheVariants.{Dead, Done, Held, Served, TaskingError, Cancelled, Accepted, TookElse, TookDelay}
use Rattle.ada_events.specs.declared.outcome.Outcome.TheVariants.{ProgramError, Awake, ActivationOk, ActivationFailed, BlockLeft, Raised, Nothing}
use Rattle.ada_events.specs.Search.{event_at}
use Rattle.ada_events.specs.Says.{Call, call_at, call_in, held_in}
use Rattle.ada_events.specs.Tasks.{has_task}
use Rattle.ada_events.specs.Phases.{is_completed, is_started, is_terminated}
use Rattle.ada_events.specs.Calls.{is_met}
use Rattle.ada_events.specs.Outcomes.{outcome_of}
use Rattle.ada_laws.proofs.searching.Searching.{option_and_then-some, then_some-some}
use Rattle.ada_standing.specs.Renaming.{renamed_outcome}
use Rattle.ada_standing.specs.StandsIn.{is_live}
use Rattle.ada_standing.proofs.alike.Pairs.{live_back}
use Rattle.ada_waiting.specs.declared.reasons.Reason.{Reason}
use Rattle.ada_waiting.specs.declared.reasons.Reason.TheVariants as reason
use Rattle.ada_waiting.specs.Reasons.{reason_at, reason_by, held_reason, reason_of, suspended_at}
use Rattle.ada_waiting.proofs.Holding.{suspended_at_from}
use Rattle.ada_lasting.specs.Naming.{found, position_of, renaming_of}
use Rattle.ada_lasting.specs.internal.NamesBack.{named_by}
use Rattle.ada_lasting.specs.Following.{Long, Follows}
use Rattle.ada_lasting.specs.Outcomes.{is_in_rendezvous, caller_of, told_outcome}
use Rattle.ada_lasting.specs.Waiting.{renamed_reason}
use Rattle.ada_lasting.specs.internal.Present.{IsPresent}
use Rattle.ada_lasting.specs.internal.Reasons.{lasting_reason}
use Rattle.ada_lasting.specs.internal.Outcomes.{lasting_caller, lasting_outcome}
use Rattle.ada_lasting.proofs.Dividing.{name_back}
use Rattle.ada_lasting.proofs.Waited.{back, waits, reason_here}

-- ---- a task in a rendezvous

in_rendezvous : (o : Option Reason) (at : ℕ) → is_in_rendezvous o at ≡ true → o ≡ Some (reason.InRendezvous at)
unfolding is_in_rendezvous
in_rendezvous (Some (reason.InRendezvous call)) at is = ap (λ n. Some (reason.InRendezvous n)) (eqb-true call at is)
in_rendezvous _ at is = absurd (false≢true is)

-- no other reason is a rendezvous
other_reason : (r : Reason) (at : ℕ) → Some r ≡ Some (reason.InRendezvous at) → is_in_rendezvous (Some r) at ≡ false → ⊥
unfolding is_in_rendezvous
other_reason r at is other = false≢true (sym other ∙ (ap (λ o. is_in_rendezvous o at) is ∙ eq-eqb at at refl))

-- who waits for something isn't terminated
live_waiting : (journal : List Event) (task : ℕ) (r : Reason) → reason_of journal task ≡ Some r → is_live journal task ≡ true
unfolding reason_of
live_waiting journal task r is = by (has_task journal task) (is_terminated journal task) _ is
  where
    by : (known ended : Bool) (rest : Option Reason) → (if not known || ended then None else rest) ≡ Some r → (known && not ended) ≡ true
    by true false rest is = refl
    by true true rest is = absurd (none-some r is)
    by false ended rest is = absurd (none-some r is)

held_there : (journal : List Event) (task at : ℕ) → reason_of journal task ≡ Some (reason.InRendezvous at)
    → held_reason journal task ≡ Some (reason.InRendezvous at)
unfolding reason_of is_in_rendezvous
held_there journal task at is =
    by (has_task journal task) (is_terminated journal task) (is_completed journal task) (is_started journal task) (held_reason journal task) is
  where
    by : (known ended completed started : Bool) (held : Option Reason)
        → (if not known || ended then None
        else (if completed then Some reason.Completed else option_or held (if started then None else Some reason.NotStarted)))
        ≡ Some (reason.InRendezvous at) → held ≡ Some (reason.InRendezvous at)
    by false ended completed started held is = absurd (none-some _ is)
    by true true completed started held is = absurd (none-some _ is)
    by true false true started held is = absurd (other_reason reason.Completed at is refl)
    by true false false started (Some r) is = is
    by true false false true None is = absurd (none-some _ is)
    by true false false false None is = absurd (other_reason reason.NotStarted at is refl)

-- the call at which a task is in a rendezvous
record IsCallOf (event : Event) (task p at : ℕ) : Type 0 where
  call : Call
  says : call_in event ≡ Some call
  by : call.by ≡ task
  here : p ≡ at

position_in : Option Reason → ℕ
position_in (Some (reason.InRendezvous at)) = at
position_in _ = 0

call_of : (met : Bool) (p at task : ℕ) (e : Event) → reason_by met p e ≡ Some (reason.InRendezvous at) → held_in e ≡ Some task
    → IsCallOf e task p at
unfolding reason_by call_in held_in is_in_rendezvous position_in
call_of true p at task (event.Called by callee entry patience due) is holds =
    record { call = _; says = refl; by = same_Some by.0 task holds; here = ap position_in is }
call_of false p at task (event.Called by callee entry patience due) is holds = absurd (other_reason (reason.Queued p) at is refl)
call_of met p at task (event.Waiting by pick choices tail) is holds = absurd (other_reason (reason.Waiting p) at is refl)
call_of met p at task (event.Paused by due) is holds = absurd (other_reason (reason.Delayed p) at is refl)
call_of met p at task (event.Started by tasks) is holds = absurd (other_reason (reason.Activating p) at is refl)
call_of met p at task (event.Closed by block) is holds = absurd (other_reason (reason.Leaving p) at is refl)
call_of met p at task _ is holds = absurd (none-some _ is)

-- who is in a rendezvous is its caller
caller_is : (journal : List Event) (task at : ℕ) → reason_of journal task ≡ Some (reason.InRendezvous at) → caller_of journal at ≡ Some task
unfolding held_reason is_in_rendezvous
caller_is journal task at is =
    let (p, placed, rest) = option_and_then-some (λ p. option_and_then (reason_at journal p) (event_at journal p)) (suspended_at journal task)
    (reason.InRendezvous at) (held_there journal task at is) in
    let (e, stands, gives) = option_and_then-some (reason_at journal p) (event_at journal p) (reason.InRendezvous at) rest in
    let held = suspended_at_from journal task p placed in
    let holds : held_in e ≡ Some task = ap held_in (same_Some e held.event (sym stands ∙ held.stands)) ∙ held.holds in
    let calls : IsCallOf e task p at = call_of (is_met journal p) p at task e gives holds in
    let there : call_at journal at ≡ Some calls.call = ap (call_at journal) (sym calls.here) ∙ (ap (option_and_then call_in) stands ∙ calls.says) in
    rw (there, calls.by, is, eq-eqb at at refl) refl

-- and the caller is in it
caller_from : (journal : List Event) (task at : ℕ) → caller_of journal at ≡ Some task → reason_of journal task ≡ Some (reason.InRendezvous at)
caller_from journal task at is =
    let (c, there, gives) = option_and_then-some (λ (c : Call). then_some (is_in_rendezvous (reason_of journal c.by) at) c.by) (call_at journal at) task is in
    let (inside, same) = then_some-some (is_in_rendezvous (reason_of journal c.by) at) c.by task gives in
    in_rendezvous (reason_of journal task) at (subst (λ t. is_in_rendezvous (reason_of journal t) at ≡ true) same inside)

-- by the event of the call

abbrev by_call : List Event → ℕ → Option Call → Option ℕ
by_call journal at = option_and_then (λ (c : Call). then_some (is_in_rendezvous (reason_of journal c.by) at) c.by)

pub caller_none : (journal : List Event) (at : ℕ) (e : Event) → event_at journal at ≡ Some e → option_map (λ (c : Call). c.by) (call_in e) ≡ None
    → caller_of journal at ≡ None
caller_none journal at e stands none = rw stands (by (call_in e) none)
  where
    by : (o : Option Call) → option_map (λ (c : Call). c.by) o ≡ None → by_call journal at o ≡ None
    by None is = refl
    by (Some c) is = absurd (none-some c.by (sym is))

pub caller_some : (journal : List Event) (at u : ℕ) (e : Event) → event_at journal at ≡ Some e → option_map (λ (c : Call). c.by) (call_in e) ≡ Some u
    → caller_of journal at ≡ then_some (is_in_rendezvous (reason_of journal u) at) u
caller_some journal at u e stands some = rw stands (by (call_in e) some)
  where
    by : (o : Option Call) → option_map (λ (c : Call). c.by) o ≡ Some u → by_call journal at o ≡ then_some (is_in_rendezvous (reason_of journal u) at) u
    by None is = absurd (none-some u is)
    by (Some c) is = ap (λ t. then_some (is_in_rendezvous (reason_of journal t) at) t) (same_Some c.by u is)

-- ---- what the kernel tells

some_back : (n : Option Reason) (r : Reason) → option_map Some n ≡ Some (Some r) → n ≡ Some r
some_back None r is = absurd (none-some _ is)
some_back (Some s) r is = same_Some _ _ is

module _ (journal : List Event) (kernel : Long) (follows : Follows journal kernel) (is_present : IsPresent kernel) where
  forth : (u v p q : ℕ) → found kernel.names.tasks u ≡ Some v → position_of kernel.names p ≡ Some q
      → reason_of journal u ≡ Some (reason.InRendezvous p) → reason_of kernel.present v ≡ Some (reason.InRendezvous q)
  unfolding renamed_reason
  forth u v p q named at is =
      let alike = ((waits journal kernel follows is_present).tasks u v named).reason in
      some_back (reason_of kernel.present v) (reason.InRendezvous q)
      (sym alike ∙ (ap (option_map (renamed_reason (renaming_of kernel.names))) is ∙ ap (λ o. Some (option_map reason.InRendezvous o)) at))

  backwards : (u v p q : ℕ) → found kernel.names.tasks u ≡ Some v → position_of kernel.names p ≡ Some q
      → reason_of kernel.present v ≡ Some (reason.InRendezvous q) → reason_of journal u ≡ Some (reason.InRendezvous p)
  unfolding lasting_reason
  backwards u v p q named at is =
      let alike = reason_here journal kernel follows is_present u v named in
      ap (option_and_then (λ (n : ℕ). reason_of journal u)) (sym named)
      ∙ (sym alike
      ∙ (ap (option_and_then (lasting_reason kernel.names)) is ∙ ap (option_map reason.InRendezvous) (back journal kernel follows is_present p q at)))

  -- the caller of what stands for a call
  caller_here : (p q : ℕ) → position_of kernel.names p ≡ Some q → lasting_caller kernel.names kernel.present q ≡ caller_of journal p
  caller_here p q at = by (caller_of journal p) (caller_of kernel.present q) refl refl
    where
      by : (o n : Option ℕ) → caller_of journal p ≡ o → caller_of kernel.present q ≡ n → option_and_then (named_by kernel.names.tasks) n ≡ o
      by None None is has = refl
      by None (Some v) is has =
          let inside = caller_from kernel.present v q has in
          let (u, named, live) = live_back journal kernel.present (renaming_of kernel.names) v follows.stands (live_waiting kernel.present v _ inside) in
          absurd (none-some u (sym is ∙ caller_is journal u p (backwards u v p q named at inside)))
      by (Some u) n is has =
          let inside = caller_from journal u p is in
          let (v, named) = follows.stands.tasks.live u (live_waiting journal u _ inside) in
          ap (option_and_then (named_by kernel.names.tasks)) (sym has ∙ caller_is kernel.present v q (forth u v p q named at inside))
          ∙ name_back journal kernel follows is_present u v named

  accepted_back : (p choice : ℕ) (n : Outcome) → option_map (λ c. Accepted c choice) (position_of kernel.names p) ≡ Some n
      → lasting_outcome kernel.names kernel.present n ≡ Some (told_outcome journal (Accepted p choice))
  unfolding lasting_outcome told_outcome
  accepted_back p choice n is = by (position_of kernel.names p) refl is
    where
      by : (o : Option ℕ) → position_of kernel.names p ≡ o → option_map (λ c. Accepted c choice) o ≡ Some n
          → lasting_outcome kernel.names kernel.present n ≡ Some (told_outcome journal (Accepted p choice))
      by None at none = absurd (none-some n none)
      by (Some q) at some =
          ap (lasting_outcome kernel.names kernel.present) (sym (same_Some (Accepted q choice) n some))
          ∙ rw (back journal kernel follows is_present p q at, caller_here p q at) refl

  one_back : (o n : Outcome) → renamed_outcome (renaming_of kernel.names) o ≡ Some n
      → lasting_outcome kernel.names kernel.present n ≡ Some (told_outcome journal o)
  unfolding renamed_outcome lasting_outcome told_outcome
  one_back (Accepted p choice) n is = accepted_back p choice n is
  one_back Dead n is = ap (lasting_outcome kernel.names kernel.present) (sym (same_Some Dead n is))
  one_back Done n is = ap (lasting_outcome kernel.names kernel.present) (sym (same_Some Done n is))
  one_back Held n is = ap (lasting_outcome kernel.names kernel.present) (sym (same_Some Held n is))
  one_back Served n is = ap (lasting_outcome kernel.names kernel.present) (sym (same_Some Served n is))
  one_back TaskingError n is = ap (lasting_outcome kernel.names kernel.present) (sym (same_Some TaskingError n is))
  one_back Cancelled n is = ap (lasting_outcome kernel.names kernel.present) (sym (same_Some Cancelled n is))
  one_back TookElse n is = ap (lasting_outcome kernel.names kernel.present) (sym (same_Some TookElse n is))
  one_back (TookDelay number) n is = ap (lasting_outcome kernel.names kernel.present) (sym (same_Some (TookDelay number) n is))
  one_back ProgramError n is = ap (lasting_outcome kernel.names kernel.present) (sym (same_Some ProgramError n is))
  one_back Awake n is = ap (lasting_outcome kernel.names kernel.present) (sym (same_Some Awake n is))
  one_back ActivationOk n is = ap (lasting_outcome kernel.names kernel.present) (sym (same_Some ActivationOk n is))
  one_back ActivationFailed n is = ap (lasting_outcome kernel.names kernel.present) (sym (same_Some ActivationFailed n is))
  one_back BlockLeft n is = ap (lasting_outcome kernel.names kernel.present) (sym (same_Some BlockLeft n is))
  one_back Raised n is = ap (lasting_outcome kernel.names kernel.present) (sym (same_Some Raised n is))
  one_back Nothing n is = ap (lasting_outcome kernel.names kernel.present) (sym (same_Some Nothing n is))

  -- the outcome of a task that has this number in the present journal
  pub outcome_here : (task v : ℕ) → found kernel.names.tasks task ≡ Some v
      → option_and_then (lasting_outcome kernel.names kernel.present) (then_some (has_task kernel.present v) (outcome_of kernel.present v))
      ≡ option_map (λ (n : ℕ). told_outcome journal (outcome_of journal task)) (found kernel.names.tasks task)
  outcome_here task v is =
      let same = follows.stands.same task v is in
      rw (is, same.exists) (one_back (outcome_of journal task) (outcome_of kernel.present v) same.outcome)
