-- What both journals were before the last request.
use Rattle.std.proofs.Common.{◌≡◌, ℕ, suc, ◌+◌, ◌<◌, ◌≤◌, Bool, true, false, Some, None, List, ◌∷◌, length, drop, refl, sym, ap, ◌∙◌, inl, inr, arith}
use Rattle.std.specs.Prelude.{if◌then◌else◌}
use Rattle.std.proofs.lemmas.Bool.{cases_lt, ltb-true}
use Rattle.std.proofs.lemmas.List.{drop_at}
use Rattle.std.proofs.lemmas.Option.{same_Some}
use Rattle.ada_events.specs.declared.event.Event.{Event}
use Rattle.ada_events.specs.declared.request.Request.{Request}
use Rattle.ada_events.specs.declared.request.Request.TheVariants as request
use Rattle.ada_events.specs.Tasks.{task_count, has_task}
use Rattle.ada_events.specs.Phases.{is_running, is_terminated}
use Rattle.ada_events.specs.Asks.{asked_event}
use Rattle.ada_events.specs.Lawful.{IsSettled, After, Forces, MayFollow}
use Rattle.ada_laws.specs.Unlimited.{IsLawfulUnlimited, refusal_but_limits}
use Rattle.ada_laws.proofs.forced.Rows.{IsRow, forced-row}
use Rattle.ada_laws.proofs.forced.Rows.IsRow.{halts}
use Rattle.ada_standing.specs.Renaming.{Renaming}
use Rattle.ada_standing.specs.StandsIn.{StandsIn}
use Rattle.ada_standing.specs.Asking.{renamed_request}
use Rattle.ada_standing.specs.Leading.{LedAlike}
use Rattle.ada_standing.proofs.alike.Pairs.{live_from}
use Rattle.ada_standing.proofs.alike.Phases.{running_alike}
use Rattle.ada_standing.proofs.kept.Newness.{IsFresh, fresh}
use Rattle.ada_standing.proofs.lawful.Fitting.{follows_fits}
use Rattle.ada_waiting.specs.Runnable.{is_step, before_last}
use Rattle.ada_lasting.specs.Naming.{found}
use Rattle.ada_lasting.specs.Following.{Long, before_shown, AgreedBefore}
use Rattle.ada_lasting.specs.Refusing.{creates}
use Rattle.ada_lasting.proofs.Growing.{count_after}

-- what is forced is a step, and the event of a request is none

row_is_step : (journal : List Event) (event : Event) → IsRow journal event → is_step event ≡ true
unfolding is_step
row_is_step journal event (halts u below halt) = refl
row_is_step journal event _ = refl

asked_is_none : (journal : List Event) (r : Request) → is_step (asked_event journal r) ≡ false
unfolding is_step asked_event
asked_is_none journal (request.Open by) = refl
asked_is_none journal _ = refl

forces_before : (from to : List Event) → Forces from to → before_last to ≡ before_last from
unfolding before_last
forces_before from to (Forces.nothing) = refl
forces_before from to (Forces.one_more {journal = journal} {event = event} before step) =
    rw (row_is_step journal event (forced-row journal event step)) (forces_before from journal before)

before_request : (old : List Event) (r : Request) (new : List Event) → After old r new → before_last new ≡ old
unfolding before_last
before_request old r new after = forces_before (asked_event old r ∷ old) new after.forces ∙ rw (asked_is_none old r) refl

-- nothing has become of a task that a request is to make
unmade : (journal : List Event) (r : Request) (u : ℕ) → IsLawfulUnlimited journal → IsSettled journal → refusal_but_limits journal r ≡ None
    → u ≡ task_count journal → IsFresh journal u
unmade journal r u lawful settled accepted same =
    let follows : MayFollow refusal_but_limits journal (asked_event journal r) =
    inr (record { settled = settled; request = r; accepted = accepted; becomes = refl }) in
    fresh journal (asked_event journal r) u (follows_fits (asked_event journal r) journal lawful follows) same

fresh_rests : (journal : List Event) (u : ℕ) → IsFresh journal u → is_running journal u ≡ false
unfolding is_running
fresh_rests journal u is_fresh = rw is_fresh.unstarted refl

-- of a task beyond those that there were, a request made it, and it is the first
first_beyond : (makes : Bool) (old new u : ℕ) → new ≡ (if makes then suc old else old) → u < new → old ≤ u → u ≡ old
first_beyond true old new u count below above = omega (arith, count, below, above)
first_beyond false old new u count below above = omega (arith, count, below, above)

-- and a like request makes one too
makes_both : (makes : Bool) (old new old_too new_too u : ℕ) → new ≡ (if makes then suc old else old) → new_too ≡ (if makes then suc old_too else old_too)
    → u < new → old ≤ u → old_too < new_too
makes_both true old new old_too new_too u count also below above = omega (arith, also)
makes_both false old new old_too new_too u count also below above = omega (arith, count, below, above)

-- a request under other names makes as many tasks
pub makes_alike : (names : Renaming) (r : Request) → creates (renamed_request names r) ≡ creates r
unfolding renamed_request
makes_alike names (request.Create by master families) = refl
makes_alike names _ = refl

-- two journals, of which the second stood in for the first, after a request
module _ (old new : List Event) (names : Renaming) (r s : Request) (grown : List Event) (now : Long) (stands : StandsIn old new names)
    (lawful : IsLawfulUnlimited old) (lawful_too : IsLawfulUnlimited new) (settled : IsSettled old) (settled_too : IsSettled new)
    (accepted : refusal_but_limits old r ≡ None) (accepted_too : refusal_but_limits new s ≡ None)
    (leads : After old r grown) (leads_too : After new s now.present) (led : LedAlike old new names grown now.present)
    (makes : creates s ≡ creates r) where
  beyond : (u v : ℕ) → led.after.task u ≡ Some v → task_count old ≤ u → (u ≡ task_count old) × (v ≡ task_count new)
  beyond u v named above =
      let below : u < task_count grown = ltb-true u (task_count grown) (led.stands.same u v named).existed in
      let same : u ≡ task_count old = first_beyond (creates r) (task_count old) (task_count grown) u (count_after old r grown leads) below above in
      let here : u ≡ 0 + task_count old = omega (arith, same) in
      let there : led.after.task u ≡ Some (0 + task_count new) = ap led.after.task here ∙ led.tasks 0 (omega (arith, below, above)) in
      let also : v ≡ 0 + task_count new = same_Some v (0 + task_count new) (sym named ∙ there) in
      (same, omega (arith, also))

  -- what was told alike of the tasks that there were, and of one that nothing has become of, was told alike of all
  were_alike : (is_so : List Event → ℕ → Bool) → ((u v : ℕ) → names.task u ≡ Some v → is_so new v ≡ is_so old u)
      → ((journal : List Event) (t : ℕ) → IsFresh journal t → is_so journal t ≡ false) → (u v : ℕ) → led.after.task u ≡ Some v
      → is_so new v ≡ is_so old u
  were_alike is_so alike no_more u v named = elim (cases_lt u (task_count old)) [
    | inl below ↦ alike u v (sym (led.old_tasks u below) ∙ named)
    | inr above ↦
        let both = beyond u v named above in
        no_more new v (unmade new s v lawful_too settled_too accepted_too both.1) ∙ sym (no_more old u (unmade old r u lawful settled accepted both.0))
  ]

  -- the task that is made has a name
  made_named : task_count old < task_count grown → led.after.task (0 + task_count old) ≡ Some (0 + task_count new)
  made_named grew = led.tasks 0 (omega (arith, grew))

  live_named : (u : ℕ) → has_task grown u ≡ true → is_terminated old u ≡ false → (v : ℕ) × (led.after.task u ≡ Some v)
  live_named u exists still = elim (cases_lt u (task_count old)) [
    | inl below ↦
        let (v, named) = stands.tasks.live u (live_from old u below still) in
        (v, led.kept.tasks u v named)
    | inr above ↦
        let below : u < task_count grown = ltb-true u (task_count grown) exists in
        let same : u ≡ task_count old = first_beyond (creates r) (task_count old) (task_count grown) u (count_after old r grown leads) below above in
        let here : u ≡ 0 + task_count old = omega (arith, same) in
        (0 + task_count new, ap led.after.task here ∙ made_named (omega (arith, below, above)))
  ]

  live_other : (v : ℕ) → has_task now.present v ≡ true → is_terminated new v ≡ false → (u : ℕ) × (led.after.task u ≡ Some v)
  live_other v exists still = elim (cases_lt v (task_count new)) [
    | inl below ↦
        let (u, named) = stands.tasks.others v (live_from new v below still) in
        (u, led.kept.tasks u v named)
    | inr above ↦
        let below : v < task_count now.present = ltb-true v (task_count now.present) exists in
        let count = count_after new s now.present leads_too ∙ ap (λ b. if b then suc (task_count new) else task_count new) makes in
        let same : v ≡ task_count new = first_beyond (creates r) (task_count new) (task_count now.present) v count below above in
        let there : 0 + task_count new ≡ v = omega (arith, same) in
        let grew = makes_both (creates r) (task_count new) (task_count now.present) (task_count old) (task_count grown) v count
        (count_after old r grown leads) below above in
        (0 + task_count old, made_named grew ∙ ap Some there)
  ]

  pub agreed_before : length led.steps ≡ length now.group → length led.copies ≡ length now.group
      → ((u : ℕ) → found now.names.tasks u ≡ led.after.task u) → AgreedBefore grown now
  agreed_before as_many as_many_too follow =
      let earlier : before_shown grown now ≡ old = ap (drop (length now.group)) led.grown ∙ drop_at led.steps old (length now.group) as_many in
      let earlier_too : before_shown now.present now ≡ new =
      ap (drop (length now.group)) led.grown_too ∙ drop_at led.copies new (length now.group) as_many_too in
      record {
        last = before_request new s now.present leads_too ∙ sym earlier_too;
        running = λ u v is.
            ap (λ (j : List Event). is_running j v) earlier_too
            ∙ (were_alike is_running (λ u v named. sym (running_alike old new names u v stands named)) fresh_rests u v (sym (follow u) ∙ is)
            ∙ sym (ap (λ (j : List Event). is_running j u) earlier));
        terminated = λ u v is.
            ap (λ (j : List Event). is_terminated j v) earlier_too
            ∙ (were_alike is_terminated (λ u v named. (stands.same u v named).terminated) (λ j t is_fresh. is_fresh.unterminated) u v (sym (follow u) ∙ is)
            ∙ sym (ap (λ (j : List Event). is_terminated j u) earlier));
        named = λ u exists still.
            let (v, named) = live_named u exists (sym (ap (λ (j : List Event). is_terminated j u) earlier) ∙ still) in
            (v, follow u ∙ named);
        others = λ v exists still.
            let (u, named) = live_other v exists (sym (ap (λ (j : List Event). is_terminated j v) earlier_too) ∙ still) in
            (u, follow u ∙ named);
      }
