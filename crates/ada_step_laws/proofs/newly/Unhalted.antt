-- Where a step other than a halt is forced, no task is to be halted.
use Rattle.std.proofs.Common.{◌≡◌, ℕ, zero, suc, ◌<◌, Bool, true, false, ◌&&◌, Option, Some, None, List, sym, refl, ap, ◌∙◌, arith, inl, inr, eqb}
use Rattle.std.specs.Option.{option_or}
use Rattle.std.specs.Bool.{then_some}
use Rattle.std.proofs.lemmas.Bool.{and_parts, cases_Bool, cases_eq, eqb-true, true≢false}
use Rattle.std.proofs.lemmas.Option.{none-some, same_Some}
use Rattle.ada_events.specs.declared.event.Event.{Event}
use Rattle.ada_events.specs.declared.event.Event.TheVariants.{Halted}
use Rattle.ada_events.specs.Search.{is_some_and, first_below}
use Rattle.ada_events.specs.Says.{Call, call_in}
use Rattle.ada_events.specs.Tasks.{task_count}
use Rattle.ada_events.specs.Phases.{has_ended, is_abnormal}
use Rattle.ada_events.specs.Calls.{is_met, is_open_at, is_joined_at, is_caller_in_rendezvous}
use Rattle.ada_events.specs.Forced.{task_no, is_to_halt, halted, first_of_all, forced}
use Rattle.ada_events.specs.Lawful.{IsLawful}
use Rattle.ada_laws.specs.Calls.{IsCallAt}
use Rattle.ada_laws.specs.Suspension.{IsSuspendedAt}
use Rattle.ada_laws.proofs.searching.Searching.{option_or-none, then_some-some, option_map_or-true, any_event-found, first_below-found}
use Rattle.ada_laws.proofs.queues.Queueing.{is_open_at-call, open_call_suspends}
use Rattle.ada_laws.proofs.held.Suspending.{suspended_once}

abbrev pub is_halt : Event → Bool
is_halt (Halted task) = true
is_halt _ = false

halted_is : (journal : List Event) (h : Event) → halted journal ≡ Some h → is_halt h ≡ true
unfolding halted
halted_is journal h gives =
    let (u, below, found) = first_below-found (λ u. then_some (is_to_halt journal u) (Halted (task_no u))) (task_count journal) h gives in
    ap is_halt (sym (then_some-some (is_to_halt journal u) (Halted (task_no u)) h found).1)

first_is : (a b : Option Event) (e : Event) → option_or a b ≡ Some e → (a ≡ None → ⊥) → a ≡ Some e
first_is None b e same some = absurd (some refl)
first_is (Some x) b e same some = same

unhalted_by : (journal : List Event) (e : Event) (o : Option Event) → halted journal ≡ o → forced journal ≡ Some e → is_halt e ≡ false → o ≡ None
unfolding forced first_of_all
unhalted_by journal e None is forces other = refl
unhalted_by journal e (Some h) is forces other =
    let same = first_is (halted journal) _ e forces (λ none. none-some h (sym none ∙ is)) in
    absurd (true≢false (sym (halted_is journal e same) ∙ other))

pub unhalted : (journal : List Event) (e : Event) → forced journal ≡ Some e → is_halt e ≡ false → halted journal ≡ None
unhalted journal e forces other = unhalted_by journal e (halted journal) refl forces other

pub nothing_below : (give : ℕ → Option Event) (n u : ℕ) → first_below give n ≡ None → u < n → give u ≡ None
unfolding first_below
nothing_below give zero u none below = absurd (omega arith)
nothing_below give (suc n) u none below =
    let both = option_or-none (first_below give n) (give n) none in
    elim (cases_eq u n) [
      | inl same ↦ ap give same ∙ both.1
      | inr other ↦ nothing_below give n u both.0 (omega arith)
    ]

-- a live abnormal task that isn't the caller in a rendezvous is to be halted
pub halts_free : (journal : List Event) (u : ℕ) → u < task_count journal → is_abnormal journal u ≡ true → has_ended journal u ≡ false
    → is_caller_in_rendezvous journal u ≡ false → halted journal ≡ None → ⊥
unfolding halted is_to_halt
halts_free journal u below abnormal live free none =
    none-some (Halted (task_no u))
    (sym (nothing_below (λ u. then_some (is_to_halt journal u) (Halted (task_no u))) (task_count journal) u none below) ∙ rw (abnormal, live, free) refl)

-- the call of a caller in a rendezvous
pub record IsJoined (journal : List Event) (task position : ℕ) : Type 0 where
  pub call : Call
  pub stands : IsCallAt journal call position
  pub suspended : IsSuspendedAt journal task position
  pub met : is_met journal position ≡ true

pub joined_at : (journal : List Event) (task : ℕ) → is_caller_in_rendezvous journal task ≡ true → (position : ℕ) × IsJoined journal task position
unfolding is_caller_in_rendezvous is_joined_at
joined_at journal task joined =
    let (p, e, at, found) = any_event-found (λ p e. is_some_and (call_in e) (λ (c : Call). eqb c.by task) && is_joined_at journal p e) journal joined in
    let both = and_parts (is_some_and (call_in e) (λ (c : Call). eqb c.by task)) (is_joined_at journal p e) found in
    let (c, says, by) = option_map_or-true (λ (c : Call). eqb c.by task) (call_in e) both.0 in
    let parts = and_parts (is_open_at journal p e) (is_met journal p) both.1 in
    let (call, is, opened) = is_open_at-call journal p e at parts.0 in
    let h = open_call_suspends journal call p opened in
    let same : call.by ≡ task = ap (λ (c : Call). c.by) (same_Some call c (sym is ∙ says)) ∙ eqb-true c.by task by in (
      p,
      record {
        call = call;
        stands = opened.stands;
        suspended =
            record {
              event = h.event;
              stands = h.stands;
              holds = h.holds ∙ ap Some same;
              unreleased = h.unreleased;
              live = ap (has_ended journal)
                  (sym same) ∙ h.live;
            };
        met = parts.1;
      },
    )

-- a task that is suspended elsewhere than at a joined call isn't the caller in a rendezvous
pub free_elsewhere : (journal : List Event) (task p : ℕ) → IsLawful journal → IsSuspendedAt journal task p → (IsJoined journal task p → ⊥)
    → is_caller_in_rendezvous journal task ≡ false
free_elsewhere journal task p lawful suspended apart =
    elim (cases_Bool (is_caller_in_rendezvous journal task)) [
      | inr free ↦ free
      | inl joined ↦
          let (q, at) = joined_at journal task joined in
          let same : q ≡ p = suspended_once journal task q p lawful at.suspended suspended in
          absurd (apart (there q same at))
    ]
  where
    there : (q : ℕ) → q ≡ p → IsJoined journal task q → IsJoined journal task p
    there q same at = rw (← same) at
