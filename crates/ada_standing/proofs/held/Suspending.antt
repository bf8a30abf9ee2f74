-- What holds tasks up is alike after one more event of both journals.
use Rattle.std.proofs.Common.{◌≡◌, ℕ, suc, ◌<◌, ◌≤◌, true, false, Some, None, List, ◌∷◌, length, sym, ap, ◌∙◌, inl, inr, arith, subst}
use Rattle.std.proofs.Common.{eqb}
use Rattle.std.specs.List.{list_any}
use Rattle.std.proofs.lemmas.Bool.{or_parts}
use Rattle.std.proofs.lemmas.Option.{none-some, same_Some}
use Rattle.ada_events.specs.declared.event.Event.{Event}
use Rattle.ada_events.specs.declared.event.Event.TheVariants as event
use Rattle.ada_events.specs.Search.{is_some_and, event_at}
use Rattle.ada_events.specs.Says.{Meeting, call_in, wait_in, delay_in, start_in, closing_in, held_in, meeting_in}
use Rattle.ada_events.specs.Tasks.{task_count}
use Rattle.ada_events.specs.Phases.{has_ended, is_suspended}
use Rattle.ada_events.specs.Calls.{is_met}
use Rattle.ada_events.specs.Forced.{is_conditional}
use Rattle.ada_laws.specs.Suspension.{IsSuspendedAt}
use Rattle.ada_laws.proofs.searching.Searching.{event_at-cases, event_at-newest, event_at-older, event_at-within}
use Rattle.ada_laws.proofs.within.Parents.{same_truth}
use Rattle.ada_laws.proofs.held.Suspending.{is_suspended-from, is_suspended-at, suspended_cases}
use Rattle.ada_standing.specs.Renaming.{Renaming}
use Rattle.ada_standing.specs.internal.Next.{next_names}
use Rattle.ada_standing.specs.Holds.{IsSameHold}
use Rattle.ada_standing.specs.StandsIn.{IsHeldAlike}
use Rattle.ada_standing.proofs.alike.Kinds.{AreBoth}
use Rattle.ada_standing.proofs.alike.Pairs.{pair_back}
use Rattle.ada_standing.proofs.held.Saying.{calls_both, waits_both, delays_both, starts_both, closings_both, held_both}
use Rattle.ada_standing.proofs.held.Setting.{AreNext, TerminatedKept, CompletedKept, is_like, task_later, task_cases, task_exists}
use Rattle.ada_standing.proofs.held.Setting.{position_later, position_newest}
use Rattle.ada_standing.proofs.held.Positions.{suspended_earlier}
use Rattle.ada_standing.proofs.held.Phases.{released_kept, met_kept, ended_kept}
use Rattle.ada_standing.proofs.held.Starting.{tasks_one, start_kept, start_newest}

-- what holds a task up is a call, a wait, a delay, a start or a close
holds_by_kind : (e : Event) (u : ℕ) → held_in e ≡ Some u → call_in e ≡ None → wait_in e ≡ None → delay_in e ≡ None → start_in e ≡ None
    → closing_in e ≡ None → ⊥
unfolding held_in call_in wait_in delay_in start_in closing_in
holds_by_kind (event.Called by callee entry patience due) u holds no_call no_wait no_delay no_start no_close = none-some _ (sym no_call)
holds_by_kind (event.Waiting by pick choices tail) u holds no_call no_wait no_delay no_start no_close = none-some _ (sym no_wait)
holds_by_kind (event.Paused by due) u holds no_call no_wait no_delay no_start no_close = none-some _ (sym no_delay)
holds_by_kind (event.Started by tasks) u holds no_call no_wait no_delay no_start no_close = none-some _ (sym no_start)
holds_by_kind (event.Closed by block) u holds no_call no_wait no_delay no_start no_close = none-some _ (sym no_close)
holds_by_kind _ u holds no_call no_wait no_delay no_start no_close = none-some u holds

-- a call that isn't met after an event wasn't met before
unmet_before : (event : Event) (before : List Event) (call : ℕ) → is_met (event ∷ before) call ≡ false → is_met before call ≡ false
unfolding is_met
unmet_before event before call unmet =
    (or_parts (is_some_and (meeting_in event) (λ (m : Meeting). eqb m.call call))
    (list_any (λ (e : Event). is_some_and (meeting_in e) (λ (m : Meeting). eqb m.call call)) before) unmet).1

module _ (old new : List Event) (names : Renaming) (event copy : Event) (next : AreNext old new names event copy) where
  -- what held up alike still does
  hold_later : (p q : ℕ) (d e : Event) → names.position p ≡ Some q → event_at old p ≡ Some d → event_at new q ≡ Some e → IsSameHold old new names p q d e
      → IsSameHold (event ∷ old) (copy ∷ new) (next_names old new event names) p q d e
  hold_later p q d e placed at_p at_q (IsSameHold.call c b says tells same) =
      IsSameHold.call c b says tells (record {
        callee = task_later old new names event copy next c.callee b.callee same.callee;
        entry = same.entry;
        met = met_kept old new names event copy next p q placed same.met;
        conditional = λ unmet. same.conditional (unmet_before event old p unmet);
        due = λ unmet. same.due (unmet_before event old p unmet);
      })
  hold_later p q d e placed at_p at_q (IsSameHold.wait w v says tells same) = IsSameHold.wait w v says tells same
  hold_later p q d e placed at_p at_q (IsSameHold.pause a b says tells same) = IsSameHold.pause a b says tells same
  hold_later p q d e placed at_p at_q (IsSameHold.start s r says tells same) =
      IsSameHold.start s r says tells (start_kept old new names event copy next p q d e s r at_p at_q says tells same)
  hold_later p q d e placed at_p at_q (IsSameHold.close a b says tells same) =
      IsSameHold.close a b says tells (position_later old new names event copy next a.block b.block same)

  -- what holds up now does so alike
  hold_newest : (u : ℕ) → held_in event ≡ Some u
      → IsSameHold (event ∷ old) (copy ∷ new) (next_names old new event names) (suc (length old)) (suc (length new)) event copy
  hold_newest u holds =
      let like = is_like old new names event copy next in
      elim (calls_both names event copy like) [
        | AreBoth.both c b says tells same ↦ IsSameHold.call c b says tells (record {
          callee = task_later old new names event copy next c.callee b.callee same.callee;
          entry = same.entry;
          met = next.fitted.unmet ∙ sym next.fits.unmet;
          conditional = λ unmet. ap is_conditional same.patience;
          due = λ unmet. same.due;
        })
        | AreBoth.neither no_call none ↦ elim (waits_both names event copy like) [
          | AreBoth.both w v says tells same ↦ IsSameHold.wait w v says tells same
          | AreBoth.neither no_wait none ↦ elim (delays_both names event copy like) [
            | AreBoth.both a b says tells same ↦ IsSameHold.pause a b says tells same
            | AreBoth.neither no_delay none ↦ elim (starts_both names event copy like) [
              | AreBoth.both s r says tells same ↦
                  IsSameHold.start s r says tells (start_newest old new names event copy next s r says tells same)
              | AreBoth.neither no_start none ↦ elim (closings_both names event copy like) [
                | AreBoth.both a b says tells same ↦
                    IsSameHold.close a b says tells (position_later old new names event copy next a.block b.block same.block)
                | AreBoth.neither no_close none ↦ absurd (holds_by_kind event u holds no_call no_wait no_delay no_start no_close)
              ]
            ]
          ]
        ]
      ]

  -- the event holds up alike whom it holds up
  held_now : (u v : ℕ) → (next_names old new event names).task u ≡ Some v → held_in event ≡ Some u → held_in copy ≡ Some v
  held_now u v named holds = elim (held_both names event copy (is_like old new names event copy next)) [
    | AreBoth.both t w is has same ↦
        let kept : names.task u ≡ Some w = ap names.task (same_Some u t (sym holds ∙ is)) ∙ same in
        has ∙ (sym (task_later old new names event copy next u w kept) ∙ named)
    | AreBoth.neither is has ↦ absurd (none-some u (sym is ∙ holds))
  ]

  -- who stood for a task before the event stands for no other after it
  pub kept_one : (t u v : ℕ) → names.task t ≡ Some v → (next_names old new event names).task u ≡ Some v → t ≡ u
  kept_one t u v was named = elim (task_cases old new names event copy next u v named) [
    | inl made ↦
        let below : v < task_count new = task_exists old new names event copy next t v was in
        absurd (omega (arith, below, made.2))
    | inr kept ↦ tasks_one old new names event copy next t u v was kept
  ]

  held_back : (u v : ℕ) → (next_names old new event names).task u ≡ Some v → held_in copy ≡ Some v → held_in event ≡ Some u
  held_back u v named holds = elim (held_both names event copy (is_like old new names event copy next)) [
    | AreBoth.both t w is has same ↦
        let kept : names.task t ≡ Some v = same ∙ (sym has ∙ holds) in
        is ∙ ap Some (kept_one t u v kept named)
    | AreBoth.neither is has ↦ absurd (none-some v (sym has ∙ holds))
  ]

  module _ (terminated_kept : TerminatedKept old new names event copy) (completed_kept : CompletedKept old new names event copy) where
    -- what holds a task up after the event holds up alike who stands for it
    pub held_kept : (u v : ℕ) → (next_names old new event names).task u ≡ Some v → (p : ℕ) (held : IsSuspendedAt (event ∷ old) u p)
        → IsHeldAlike (event ∷ old) (copy ∷ new) (next_names old new event names) v p held.event
    held_kept u v named p held =
        let live : has_ended (copy ∷ new) v ≡ false =
        ended_kept old new names event copy next terminated_kept completed_kept u v named ∙ held.live in
        elim (event_at-cases event old p held.event held.stands) [
          | inl newest ↦
              let holds : held_in event ≡ Some u = ap held_in newest.1 ∙ held.holds in
              record {
                at = suc (length new);
                renamed = ap (next_names old new event names).position newest.0 ∙ position_newest old new names event copy next;
                held = record {
                  event = copy;
                  stands = event_at-newest copy new;
                  holds = held_now u v named holds;
                  unreleased = next.fitted.unreleased;
                  live = live;
                };
                alike = subst (λ (d : Event). IsSameHold (event ∷ old) (copy ∷ new) (next_names old new event names) p (suc (length new)) d copy) newest.1
                    (subst (λ (n : ℕ). IsSameHold (event ∷ old) (copy ∷ new) (next_names old new event names) n (suc (length new)) event copy)
                    (sym newest.0) (hold_newest u holds));
              }
          | inr older ↦
              let within : p ≤ length old = event_at-within old p held.event older in
              let (was, is) = suspended_earlier event old u p within held in
              let below : u < task_count old = next.orderly.exist u p was in
              elim (task_cases old new names event copy next u v named) [
                | inl made ↦ absurd (omega (arith, below, made.1))
                | inr kept ↦
                    let there = (next.stands.active u v kept was.live).held p was in
                    record {
                      at = there.at;
                      renamed = position_later old new names event copy next p there.at there.renamed;
                      held = record {
                        event = there.held.event;
                        stands = event_at-older copy new there.at there.held.event there.held.stands;
                        holds = there.held.holds;
                        unreleased = released_kept old new names event copy next p there.at there.renamed
                            (there.held.unreleased ∙ sym was.unreleased) ∙ held.unreleased;
                        live = live;
                      };
                      alike = hold_later p there.at held.event there.held.event there.renamed older there.held.stands
                          (subst (λ (d : Event). IsSameHold old new names p there.at d there.held.event) is there.alike);
                    }
              ]
        ]

    suspended_back : (u v q : ℕ) → (next_names old new event names).task u ≡ Some v → has_ended (event ∷ old) u ≡ false → IsSuspendedAt (copy ∷ new) v q
        → is_suspended (event ∷ old) u ≡ true
    suspended_back u v q named live held = elim (suspended_cases copy new v q held) [
      | inl newest ↦
          is_suspended-from (event ∷ old) u (suc (length old)) (record {
            event = event;
            stands = event_at-newest event old;
            holds = held_back u v named newest.1;
            unreleased = next.fits.unreleased;
            live = live;
          })
      | inr older ↦
          let (p, pair) = pair_back old new names v q next.stands next.orderly next.also older in
          let event_is : pair.holds.event ≡ older.event = same_Some pair.holds.event older.event (sym pair.holds.stands ∙ older.stands) in
          let stand_is : pair.stand ≡ v =
          same_Some pair.stand v (sym pair.holds.holds ∙ (ap held_in event_is ∙ older.holds)) in
          let task_is : pair.task ≡ u = kept_one pair.task u v (pair.named ∙ ap Some stand_is) named in
          is_suspended-from (event ∷ old) u p (record {
            event = pair.held.event;
            stands = event_at-older event old p pair.held.event pair.held.stands;
            holds = pair.held.holds ∙ ap Some task_is;
            unreleased = sym (released_kept old new names event copy next p q pair.placed
                (pair.holds.unreleased ∙ sym pair.held.unreleased)) ∙ held.unreleased;
            live = live;
          })
    ]

    pub suspended_kept : (u v : ℕ) → (next_names old new event names).task u ≡ Some v → has_ended (event ∷ old) u ≡ false
        → is_suspended (copy ∷ new) v ≡ is_suspended (event ∷ old) u
    suspended_kept u v named live =
        same_truth (is_suspended (copy ∷ new) v) (is_suspended (event ∷ old) u)
        (λ suspended.
        let (q, held) = is_suspended-at (copy ∷ new) v suspended in
        suspended_back u v q named live held)
        (λ suspended.
        let (p, held) = is_suspended-at (event ∷ old) u suspended in
        let there = held_kept u v named p held in
        is_suspended-from (copy ∷ new) v there.at there.held)
