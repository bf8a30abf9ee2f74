-- Where the first journal is led by what it forces, the second one is led alike, and both settle together.
use Rattle.std.proofs.Common.{◌≡◌, Option, Some, None, List, ◌∷◌, refl, sym, ap, ◌∙◌, subst, inl, inr, is_none}
use Rattle.std.specs.Option.{option_and_then}
use Rattle.std.proofs.lemmas.Bool.{true≢false}
use Rattle.std.proofs.lemmas.Option.{none-some, same_Some}
use Rattle.ada_events.specs.declared.event.Event.{Event}
use Rattle.ada_events.specs.Forced.{forced}
use Rattle.ada_events.specs.Asks.{asked_event}
use Rattle.ada_events.specs.Lawful.{IsSettled, Forces, MayFollow}
use Rattle.ada_laws.specs.Unlimited.{IsLawfulUnlimited, refusal_but_limits}
use Rattle.ada_laws.proofs.forced.Forcing.{settled_same, forces_lawful-unlimited}
use Rattle.ada_standing.specs.Renaming.{Renaming, renamed_event}
use Rattle.ada_standing.specs.internal.Next.{next_names}
use Rattle.ada_standing.specs.StandsIn.{StandsIn}
use Rattle.ada_standing.specs.Asking.{renamed_request}
use Rattle.ada_standing.specs.Leading.{LedAlike}
use Rattle.ada_standing.specs.Laws.{LeadsAlike}
use Rattle.ada_standing.proofs.lawful.Orderly.{lawful_orderly}
use Rattle.ada_standing.proofs.lawful.Laws.{forced_alike}
use Rattle.ada_standing.proofs.lawful.Fitting.{next_of}
use Rattle.ada_standing.proofs.led.Standing.{standing_kept}
use Rattle.ada_standing.proofs.led.Asked.{asked_renamed}
use Rattle.ada_standing.proofs.led.Growing.{GrowAlike, grow_kept, grow_groups, grow_positions, grow_tasks, grow_old_tasks, grow_old_positions}

-- what the second journal forces, where the first one forces this
copy_of : (names : Renaming) (event : Event) (o n : Option Event) → o ≡ Some event → option_and_then (renamed_event names) o ≡ n → is_none n ≡ is_none o
    → (copy : Event) × (n ≡ Some copy) × (renamed_event names event ≡ Some copy)
copy_of names event (Some e) (Some c) is same settled = (c, refl, ap (renamed_event names) (sym (same_Some e event is)) ∙ same)
copy_of names event (Some e) None is same settled = absurd (true≢false settled)
copy_of names event None n is same settled = absurd (none-some event is)

none_too : (o n : Option Event) → is_none n ≡ is_none o → o ≡ None → n ≡ None
none_too o None same none = refl
none_too o (Some e) same none = absurd (true≢false (sym (same ∙ ap is_none none)))

-- what the second journal forces along with the first
record IsLed (old new : List Event) (names : Renaming) (other to : List Event) : Type 0 where
  end : List Event
  after : Renaming
  forces : Forces other end
  grow : GrowAlike old new names to end after
  stands : StandsIn to end after

module _ (old new : List Event) (names : Renaming) where
  led : (from other : List Event) (now : Renaming) → GrowAlike old new names from other now → StandsIn from other now → IsLawfulUnlimited from
      → IsLawfulUnlimited other → (to : List Event) → Forces from to → IsLed old new names other to
  led from other now grow stands lawful also to (Forces.nothing) =
      record { end = other; after = now; forces = Forces.nothing; grow = grow; stands = stands }
  led from other now grow stands lawful also to (Forces.one_more {journal} {event} forces is) =
      let so_far = led from other now grow stands lawful also journal forces in
      let lawful_now = forces_lawful-unlimited from journal forces lawful in
      let also_now = forces_lawful-unlimited other so_far.end so_far.forces also in
      let alike = forced_alike journal so_far.end so_far.after so_far.stands lawful_now also_now in
      let (copy, has, renamed) = copy_of so_far.after event (forced journal) (forced so_far.end) is alike.renamed alike.settled in
      record {
        end = copy ∷ so_far.end;
        after = next_names journal so_far.end event so_far.after;
        forces = Forces.one_more so_far.forces has;
        grow = GrowAlike.one_more journal so_far.end so_far.after event copy so_far.grow
            (next_of journal so_far.end so_far.after event copy so_far.stands lawful_now also_now (inl is) (inl has) renamed);
        stands = standing_kept journal so_far.end so_far.after event copy so_far.stands lawful_now also_now (inl is) (inl has) renamed;
      }

  -- the second journal settles where the first does, so that it is led there
  led_alike : (from other : List Event) (now : Renaming) → GrowAlike old new names from other now → StandsIn from other now → IsLawfulUnlimited from
      → IsLawfulUnlimited other → (to there : List Event) → Forces from to → IsSettled to → Forces other there → IsSettled there
      → LedAlike old new names to there
  led_alike from other now grow stands lawful also to there forces settled forces_too settled_too =
      let there_led = led from other now grow stands lawful also to forces in
      let alike = forced_alike to there_led.end there_led.after there_led.stands (forces_lawful-unlimited from to forces lawful)
      (forces_lawful-unlimited other there_led.end there_led.forces also) in
      let same = settled_same other there_led.end there there_led.forces forces_too
      (none_too (forced to) (forced there_led.end) alike.settled settled) settled_too in
      let groups = grow_groups old new names to there_led.end there_led.after there_led.grow in
      subst (LedAlike old new names to) same (record {
        after = there_led.after;
        stands = there_led.stands;
        kept = grow_kept old new names to there_led.end there_led.after there_led.grow;
        steps = groups.steps;
        copies = groups.copies;
        grown = groups.grown;
        grown_too = groups.grown_too;
        renamed = groups.renamed;
        positions = grow_positions old new names to there_led.end there_led.after there_led.grow;
        tasks = grow_tasks old new names to there_led.end there_led.after there_led.grow;
        old_tasks = grow_old_tasks old new names to there_led.end there_led.after there_led.grow;
        old_positions = grow_old_positions old new names to there_led.end there_led.after there_led.grow;
      })

pub leads_alike : LeadsAlike
leads_alike old new names request old_after new_after stands lawful also settled kept accepted accepted_too leads leads_too =
    let asked = renamed_request names request in
    let event = asked_event old request in
    let copy = asked_event new asked in
    let settled_too = none_too (forced old) (forced new) (forced_alike old new names stands lawful also).settled settled in
    let follows : MayFollow refusal_but_limits old event = inr (record { settled = settled; request = request; accepted = accepted; becomes = refl }) in
    let copied : MayFollow refusal_but_limits new copy = inr (record { settled = settled_too; request = asked; accepted = accepted_too; becomes = refl }) in
    let renamed = asked_renamed old new names request stands (lawful_orderly old lawful) kept accepted in
    led_alike old new names (event ∷ old) (copy ∷ new) (next_names old new event names)
    (GrowAlike.one_more old new names event copy GrowAlike.nothing (next_of old new names event copy stands lawful also follows copied renamed))
    (standing_kept old new names event copy stands lawful also follows copied renamed) (lawful, follows) (also, copied) old_after new_after leads.forces
    leads.settled leads_too.forces leads_too.settled
