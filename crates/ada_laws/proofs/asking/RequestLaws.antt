-- What a request leads to: the laws.
use Rattle.std.proofs.Common.{◌∷◌, inr, refl}
use Rattle.ada_events.specs.Asks.{asked_event}
use Rattle.ada_laws.specs.Requests.{LeadsToOneJournal, KeepsTheOldJournal, StaysLawful}
use Rattle.ada_laws.specs.Unlimited.{StaysLawfulUnlimited}
use Rattle.ada_laws.proofs.forced.Forcing.{settled_same, forces_keeps, forces_lawful, forces_lawful-unlimited}

pub leads_to_one_journal : LeadsToOneJournal
leads_to_one_journal old request a b to_a to_b =
    settled_same (asked_event old request ∷ old) a b to_a.forces to_b.forces to_a.settled to_b.settled

pub keeps_the_old_journal : KeepsTheOldJournal
keeps_the_old_journal old request new after = forces_keeps (asked_event old request ∷ old) new after.forces

pub stays_lawful : StaysLawful
stays_lawful old request new lawful settled accepted after =
    forces_lawful (asked_event old request ∷ old) new after.forces
    (lawful, inr (record { settled = settled; request = request; accepted = accepted; becomes = refl }))

-- what a request that isn't refused leads to is lawful, where tasks, slots and events have no limit
pub after-unlimited : StaysLawfulUnlimited
after-unlimited old request new lawful settled accepted after =
    forces_lawful-unlimited (asked_event old request ∷ old) new after.forces
    (lawful, inr (record { settled = settled; request = request; accepted = accepted; becomes = refl }))
