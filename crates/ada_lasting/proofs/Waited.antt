-- A kernel that lives on tells why tasks don't go on, and until when, as the journal that it follows does.
use Rattle.std.proofs.Common.{◌≡◌, ℕ, ◌≤◌, Option, Some, None, List, refl, sym, ap, ◌∙◌, subst}
use Rattle.std.specs.Option.{option_map, option_and_then}
use Rattle.std.proofs.lemmas.Option.{none-some, same_Some}
use Rattle.ada_events.specs.declared.event.Event.{Event}
use Rattle.ada_laws.proofs.asking.Limitless.{lawful_unlimited}
use Rattle.ada_waiting.specs.declared.reasons.Reason.{Reason}
use Rattle.ada_waiting.specs.declared.reasons.Reason.TheVariants.{NotStarted, Activating, Queued, InRendezvous, Waiting, Delayed, Leaving, Completed}
use Rattle.ada_waiting.specs.Reasons.{reason_of}
use Rattle.ada_lasting.specs.Naming.{position_of, found, renaming_of}
use Rattle.ada_lasting.specs.internal.NamesBack.{lasting_of}
use Rattle.ada_lasting.specs.Following.{Long, Follows}
use Rattle.ada_lasting.specs.Waiting.{AllWaitAlike, renamed_reason}
use Rattle.ada_lasting.specs.internal.Present.{IsPresent}
use Rattle.ada_lasting.specs.internal.Reasons.{lasting_reason}
use Rattle.ada_lasting.proofs.NamesBack.{lasting_of-position, position-lasting_of}
use Rattle.ada_lasting.proofs.waits.Laws.{waited_alike}

module _ (journal : List Event) (kernel : Long) (follows : Follows journal kernel) (is_present : IsPresent kernel) where
  pub waits : AllWaitAlike journal kernel.present (renaming_of kernel.names)
  waits =
      waited_alike journal kernel.present (renaming_of kernel.names) follows.stands follows.lawful (lawful_unlimited kernel.present is_present.lawful)

  -- what stands for a position has it for its lasting one
  pub back : (p q : ℕ) → position_of kernel.names p ≡ Some q → lasting_of kernel.names q ≡ Some p
  back p q is =
      let within : q ≤ kernel.names.until = subst (λ n. q ≤ n) is_present.short (follows.stands.positions.within p q is).1 in
      let (name, told) = position-lasting_of kernel.names p q is within in
      let same : name ≡ p =
      follows.stands.positions.one name p q (lasting_of-position kernel.names q name is_present.order.places told) is in
      told ∙ ap Some same

  there : (make : ℕ → Reason) (p : ℕ) (s : Reason) → option_map make (position_of kernel.names p) ≡ Some s
      → ((q : ℕ) → lasting_reason kernel.names (make q) ≡ option_map make (lasting_of kernel.names q)) → lasting_reason kernel.names s ≡ Some (make p)
  there make p s is makes = by (position_of kernel.names p) refl is
    where
      by : (o : Option ℕ) → position_of kernel.names p ≡ o → option_map make o ≡ Some s → lasting_reason kernel.names s ≡ Some (make p)
      by None at none = absurd (none-some s none)
      by (Some q) at some =
          ap (lasting_reason kernel.names) (sym (same_Some (make q) s some)) ∙ (makes q ∙ ap (option_map make) (back p q at))

  one_back : (r s : Reason) → renamed_reason (renaming_of kernel.names) r ≡ Some s → lasting_reason kernel.names s ≡ Some r
  unfolding renamed_reason lasting_reason
  one_back NotStarted s is = ap (lasting_reason kernel.names) (sym (same_Some NotStarted s is))
  one_back (Activating p) s is = there Activating p s is (λ q. refl)
  one_back (Queued p) s is = there Queued p s is (λ q. refl)
  one_back (InRendezvous p) s is = there InRendezvous p s is (λ q. refl)
  one_back (Waiting p) s is = there Waiting p s is (λ q. refl)
  one_back (Delayed p) s is = there Delayed p s is (λ q. refl)
  one_back (Leaving p) s is = there Leaving p s is (λ q. refl)
  one_back Completed s is = ap (lasting_reason kernel.names) (sym (same_Some Completed s is))

  reason_back : (o n : Option Reason) → option_map (renamed_reason (renaming_of kernel.names)) o ≡ option_map Some n
      → option_and_then (lasting_reason kernel.names) n ≡ o
  reason_back None None is = refl
  reason_back None (Some s) is = absurd (none-some _ is)
  reason_back (Some r) None is = absurd (none-some _ (sym is))
  reason_back (Some r) (Some s) is = one_back r s (same_Some _ _ is)

  -- the reason of a task that has this number in the present journal
  pub reason_here : (task v : ℕ) → found kernel.names.tasks task ≡ Some v
      → option_and_then (lasting_reason kernel.names) (reason_of kernel.present v)
      ≡ option_and_then (λ (n : ℕ). reason_of journal task) (found kernel.names.tasks task)
  reason_here task v is =
      reason_back (reason_of journal task) (reason_of kernel.present v) (waits.tasks task v is).reason
      ∙ ap (option_and_then (λ (n : ℕ). reason_of journal task)) (sym is)
