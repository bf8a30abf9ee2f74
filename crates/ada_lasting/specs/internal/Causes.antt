-- What the kernel answers where its present journal refuses a request, and what it can't do before it asks that.
use Rattle.std.specs.Prelude.{◌≡◌, true, Option, is_some}
use Rattle.ada_events.specs.declared.refusal.Refusal.{Refusal}
use Rattle.ada_events.specs.declared.refusal.Refusal.TheVariants.{JournalFull, OutOfMemory}
use Rattle.ada_events.specs.Limits.{is_full}
use Rattle.ada_lasting.specs.declared.failure.NotDone.{NotDone}
use Rattle.ada_lasting.specs.declared.failure.NotDone.TheVariants.{Refused, NotCompacted, NoMoreNames}
use Rattle.ada_lasting.specs.declared.requests.LastingMaster.{LastingMaster}
use Rattle.ada_compact.specs.declared.failure.NotCompacted.TheVariants.{NoRoom}
use Rattle.ada_lasting.specs.Naming.{Naming}
use Rattle.ada_lasting.specs.Following.{Long}
use Rattle.ada_lasting.specs.Refusing.{AreUsedUp, IsLastTask}

-- what the kernel answers where its present journal refuses a request: that has no room for more events, or the cause
abbrev pub named_cause : Refusal → NotDone
named_cause JournalFull = NotCompacted (NoRoom JournalFull)
named_cause cause = Refused cause

-- why there is no room for a request
abbrev pub IsRoomless : Long → NotDone → Type 0
IsRoomless kernel (NotCompacted why) = is_full kernel.present ≡ true
IsRoomless kernel NoMoreNames = AreUsedUp kernel.names
IsRoomless kernel _ = ⊥

-- why the task that a request makes got no name
abbrev pub IsUnnamed : Option LastingMaster → Naming → NotDone → Type 0
IsUnnamed master names (Refused cause) = (cause ≡ OutOfMemory) × (is_some master ≡ true)
IsUnnamed master names NoMoreNames = (is_some master ≡ true) × IsLastTask names
IsUnnamed master names _ = ⊥
