-- Tasks are suspended alike.
use Rattle.std.proofs.Common.{◌≡◌, ℕ, false, Option, Some, None, List, refl, sym, ap, ◌∙◌}
use Rattle.std.specs.Option.{option_map}
use Rattle.std.proofs.lemmas.Option.{none-some}
use Rattle.ada_events.specs.declared.event.Event.{Event}
use Rattle.ada_events.specs.Phases.{has_ended}
use Rattle.ada_laws.specs.Unlimited.{IsLawfulUnlimited}
use Rattle.ada_laws.proofs.held.Suspending.{is_suspended-from, is_suspended-at}
use Rattle.ada_standing.specs.Renaming.{Renaming}
use Rattle.ada_standing.specs.StandsIn.{StandsIn}
use Rattle.ada_standing.proofs.alike.Pairs.{IsPair, ended_alike}
use Rattle.ada_waiting.specs.Reasons.{suspended_at}
use Rattle.ada_waiting.proofs.Holding.{suspended_at_is-unlimited, suspended_at_from}

-- both tasks are suspended, where the same holds them up, or neither is
pub data AreSuspendedAlike (old new : List Event) (names : Renaming) (u v : ℕ) : Type 0 where
  both : (p q : ℕ) → suspended_at old u ≡ Some p → suspended_at new v ≡ Some q → IsPair old new names p q → AreSuspendedAlike old new names u v
  neither : suspended_at old u ≡ None → suspended_at new v ≡ None → AreSuspendedAlike old new names u v

pub suspended_alike : (old new : List Event) (names : Renaming) (u v : ℕ) → StandsIn old new names → IsLawfulUnlimited old → IsLawfulUnlimited new
    → names.task u ≡ Some v → AreSuspendedAlike old new names u v
suspended_alike old new names u v stands lawful also named =
    by_places (suspended_at old u) (suspended_at new v) refl refl
  where
    by_places : (o n : Option ℕ) → suspended_at old u ≡ o → suspended_at new v ≡ n → AreSuspendedAlike old new names u v
    by_places None None is has = AreSuspendedAlike.neither is has
    by_places (Some p) n is has =
        let held = suspended_at_from old u p is in
        let there = (stands.active u v named held.live).held p held in
        AreSuspendedAlike.both p there.at is (suspended_at_is-unlimited new v there.at also there.held)
        (record { task = u; stand = v; named = named; placed = there.renamed; held = held; holds = there.held; alike = there.alike })
    by_places None (Some q) is has =
        let there = suspended_at_from new v q has in
        let active : has_ended old u ≡ false = sym (ended_alike old new names u v stands named) ∙ there.live in
        let (p, held) = is_suspended-at old u (sym (stands.active u v named active).suspended ∙ is_suspended-from new v q there) in
        absurd (none-some p (sym is ∙ suspended_at_is-unlimited old u p lawful held))

-- at positions that stand for one another
pub places_alike : (old new : List Event) (names : Renaming) (u v : ℕ) → AreSuspendedAlike old new names u v
    → option_map names.position (suspended_at old u) ≡ option_map Some (suspended_at new v)
places_alike old new names u v (AreSuspendedAlike.both p q is has pair) = rw (is, has) (ap Some pair.placed)
places_alike old new names u v (AreSuspendedAlike.neither is has) = rw (is, has) refl
