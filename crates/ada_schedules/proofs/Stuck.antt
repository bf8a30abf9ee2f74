-- What stands in for a stuck journal is stuck.
use Rattle.std.proofs.Common.{◌≡◌, ◌≤◌, ℤ, true, Option, Some, None, List, ◌∷◌, is_none, refl, sym, ap, ◌∙◌, inr, arith}
use Rattle.std.proofs.lemmas.Bool.{true≢false}
use Rattle.ada_events.specs.declared.event.Event.{Event}
use Rattle.ada_events.specs.declared.event.Event.TheVariants.{Ticked}
use Rattle.ada_events.specs.declared.request.Request.TheVariants.{Tick}
use Rattle.ada_events.specs.Forced.{forced}
use Rattle.ada_events.specs.Asks.{asker, named_tasks, asked_event}
use Rattle.ada_events.specs.Tasks.{task_count}
use Rattle.ada_events.specs.Lawful.{IsLawful, IsSettled, MayFollow}
use Rattle.ada_laws.specs.Unlimited.{IsLawfulUnlimited, refusal_but_limits}
use Rattle.ada_laws.proofs.asking.Limitless.{lawful_unlimited}
use Rattle.ada_laws.proofs.asking.LimitLaws.{tasks_are_few}
use Rattle.ada_standing.specs.Renaming.{Renaming, renamed_event}
use Rattle.ada_standing.specs.StandsIn.{StandsIn}
use Rattle.ada_standing.specs.internal.Next.{next_names}
use Rattle.ada_standing.specs.Asking.{nobody, renamed_request, names_kept}
use Rattle.ada_standing.proofs.alike.Phases.{running_alike}
use Rattle.ada_standing.proofs.alike.Pairs.{live_back}
use Rattle.ada_standing.proofs.asked.Refusing.{refused_alike}
use Rattle.ada_standing.proofs.lawful.Laws.{forced_alike}
use Rattle.ada_standing.proofs.led.Standing.{standing_kept}
use Rattle.ada_schedules.specs.Stuck.{IsStuck, IsFirstTick}
use Rattle.ada_schedules.specs.Laws.{FirstTickAlike}

none_too : {A B : Type 0} → (o : Option A) (n : Option B) → is_none n ≡ is_none o → o ≡ None → n ≡ None
none_too o None same none = refl
none_too o (Some e) same none = absurd (true≢false (sym (same ∙ ap is_none none)))

tick_follows : (journal : List Event) (now : ℤ) → IsSettled journal → refusal_but_limits journal (Tick now) ≡ None
    → MayFollow refusal_but_limits journal (Ticked now)
unfolding asked_event
tick_follows journal now settled accepted = inr (record { settled = settled; request = Tick now; accepted = accepted; becomes = refl })

pub tick_kept : (old : List Event) (names : Renaming) (now : ℤ) → names_kept names old (Tick now) ≡ true
unfolding names_kept asker named_tasks
tick_kept old names now = refl

pub tick_renamed : (names : Renaming) (now : ℤ) → renamed_request names (Tick now) ≡ Tick now
unfolding renamed_request
tick_renamed names now = refl

ticked_renamed : (names : Renaming) (now : ℤ) → renamed_event names (Ticked now) ≡ Some (Ticked now)
unfolding renamed_event
ticked_renamed names now = refl

-- a lawful journal has fewer tasks than there are numbers
pub few_tasks : (journal : List Event) → IsLawful journal → task_count journal ≤ nobody
few_tasks journal lawful = let few : task_count journal ≤ 256 = tasks_are_few journal lawful in omega (arith, few)

module _ (old new : List Event) (names : Renaming) (stands : StandsIn old new names) (lawful : IsLawfulUnlimited old) (within : IsLawful new)
    (settled : IsSettled old) where
  settled_too : IsSettled new
  settled_too = none_too (forced old) (forced new) (forced_alike old new names stands lawful (lawful_unlimited new within)).settled settled

  -- a tick is refused alike
  tick_alike : (now : ℤ) → refusal_but_limits new (Tick now) ≡ refusal_but_limits old (Tick now)
  tick_alike now =
      ap (refusal_but_limits new) (sym (tick_renamed names now))
      ∙ refused_alike old new names (Tick now) stands lawful (lawful_unlimited new within) (few_tasks new within) (tick_kept old names now)

  -- a tick that forces nothing in the first journal forces nothing in the second
  quiet_alike : (now : ℤ) → refusal_but_limits old (Tick now) ≡ None → IsSettled (Ticked now ∷ old) → IsSettled (Ticked now ∷ new)
  quiet_alike now accepted quiet =
      let also = lawful_unlimited new within in
      let follows = tick_follows old now settled accepted in
      let copied = tick_follows new now settled_too (tick_alike now ∙ accepted) in
      let next = standing_kept old new names (Ticked now) (Ticked now) stands lawful also follows copied (ticked_renamed names now) in
      none_too (forced (Ticked now ∷ old)) (forced (Ticked now ∷ new))
      (forced_alike (Ticked now ∷ old) (Ticked now ∷ new) (next_names old new (Ticked now) names) next (lawful, follows) (also, copied)).settled quiet

  -- and the other way round
  quiet_back : (now : ℤ) → refusal_but_limits old (Tick now) ≡ None → IsSettled (Ticked now ∷ new) → IsSettled (Ticked now ∷ old)
  quiet_back now accepted quiet =
      let also = lawful_unlimited new within in
      let follows = tick_follows old now settled accepted in
      let copied = tick_follows new now settled_too (tick_alike now ∙ accepted) in
      let next = standing_kept old new names (Ticked now) (Ticked now) stands lawful also follows copied (ticked_renamed names now) in
      none_too (forced (Ticked now ∷ new)) (forced (Ticked now ∷ old))
      (sym (forced_alike (Ticked now ∷ old) (Ticked now ∷ new) (next_names old new (Ticked now) names) next (lawful, follows) (also, copied)).settled) quiet

  -- time passes to the same moment
  pub first_tick_alike : (now : ℤ) → IsFirstTick old now → IsFirstTick new now
  first_tick_alike now tick = record {
    accepted = tick_alike now ∙ tick.accepted;
    forces = λ quiet. tick.forces (quiet_back now tick.accepted quiet);
    first = λ earlier before accepted.
        let here = sym (tick_alike earlier) ∙ accepted in
        quiet_alike earlier here (tick.first earlier before here);
  }

  pub stuck_alike : IsStuck old → IsStuck new
  stuck_alike stuck = record {
    unfinished = (stands.same 0 0 stands.tasks.main).terminated ∙ stuck.unfinished;
    nobody = λ v live.
        let (u, named, lives) = live_back old new names v stands live in
        sym (running_alike old new names u v stands named) ∙ stuck.nobody u lives;
    quiet = λ now accepted.
        let here = sym (tick_alike now) ∙ accepted in
        quiet_alike now here (stuck.quiet now here);
  }

pub time_passes_alike : FirstTickAlike
time_passes_alike old new names now stands lawful within settled tick = first_tick_alike old new names stands lawful within settled now tick
