-- Two tasks that are held up alike, or not at all.
use Rattle.std.proofs.Common.{◌≡◌, ℕ, false, Some, List, ap, sym, ◌∙◌}
use Rattle.std.proofs.lemmas.Bool.{true≢false}
use Rattle.std.proofs.lemmas.Option.{same_Some}
use Rattle.ada_events.specs.declared.event.Event.{Event}
use Rattle.ada_events.specs.Search.{event_at}
use Rattle.ada_events.specs.Phases.{is_suspended}
use Rattle.ada_events.specs.Lawful.{IsLawful}
use Rattle.ada_laws.specs.Suspension.{IsSuspendedAt}
use Rattle.ada_laws.proofs.held.Suspending.{is_suspended-from, suspended_once}
use Rattle.ada_standing.specs.Renaming.{Renaming}
use Rattle.ada_standing.specs.Holds.{IsSameHold}
use Rattle.ada_standing.specs.internal.Suspending.{IsHeldTheSame}

module _ (old new : List Event) (names : Renaming) (u v : ℕ) where
  pub same_free : is_suspended old u ≡ false → is_suspended new v ≡ false → IsHeldTheSame old new names u v
  same_free free other = record {
    suspended = other ∙ sym free;
    held = λ p held. absurd (true≢false (sym (is_suspended-from old u p held) ∙ free));
  }

  pub same_held : (p q : ℕ) (d e : Event) → IsLawful old → IsSuspendedAt old u p → IsSuspendedAt new v q → names.position p ≡ Some q
      → event_at old p ≡ Some d → event_at new q ≡ Some e → IsSameHold old new names p q d e → IsHeldTheSame old new names u v
  same_held p q d e lawful held other placed stands copied alike = record {
    suspended = is_suspended-from new v q other ∙ sym (is_suspended-from old u p held);
    held = λ r now.
        let same : r ≡ p = suspended_once old u r p lawful now held in
        let event : now.event ≡ d = same_Some _ _ (sym now.stands ∙ ap (event_at old) same ∙ stands) in
        let copy : other.event ≡ e = same_Some _ _ (sym other.stands ∙ copied) in
        record {
          at = q;
          renamed = rw same placed;
          held = other;
          alike = rw (same, event, copy) alike;
        };
  }
