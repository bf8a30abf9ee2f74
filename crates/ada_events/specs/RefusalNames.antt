-- The name of each refusal.
use Rattle.std.specs.Prelude.{ℕ, List, codes}
use Rattle.ada_events.specs.declared.refusal.Refusal.{Refusal}
use Rattle.ada_events.specs.declared.refusal.Refusal.TheVariants as refusals

abbrev pub refusal_name : Refusal → List ℕ
refusal_name refusals.UnknownTask = codes "UnknownTask"
refusal_name refusals.NotRunning = codes "NotRunning"
refusal_name refusals.DuringActivation = codes "DuringActivation"
refusal_name refusals.NotActivating = codes "NotActivating"
refusal_name refusals.NotYourMaster = codes "NotYourMaster"
refusal_name refusals.EmptyList = codes "EmptyList"
refusal_name refusals.NotYourTask = codes "NotYourTask"
refusal_name refusals.NoAccept = codes "NoAccept"
refusal_name refusals.NoSuchFamily = codes "NoSuchFamily"
refusal_name refusals.ConstraintError = codes "ConstraintError"
refusal_name refusals.SameFamilyNested = codes "SameFamilyNested"
refusal_name refusals.TerminateInAccept = codes "TerminateInAccept"
refusal_name refusals.NotInAccept = codes "NotInAccept"
refusal_name refusals.NoBlock = codes "NoBlock"
refusal_name refusals.StillNested = codes "StillNested"
refusal_name refusals.MainTask = codes "MainTask"
refusal_name refusals.MomentBack = codes "MomentBack"
refusal_name refusals.MomentTooLarge = codes "MomentTooLarge"
refusal_name refusals.TooManyTasks = codes "TooManyTasks"
refusal_name refusals.TooManySlots = codes "TooManySlots"
refusal_name refusals.TooDeep = codes "TooDeep"
refusal_name refusals.JournalFull = codes "JournalFull"
refusal_name refusals.OutOfMemory = codes "OutOfMemory"
