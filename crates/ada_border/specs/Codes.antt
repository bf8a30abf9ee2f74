-- The codes of answers. A code never changes, since hosts are compiled with it: a new cause takes the next one.
use Rattle.std.specs.Prelude.{◌≡◌, ℕ, ◌+◌, ℤ, pos, Some, List, [], ◌∷◌, map, slice_get, take}
use Rattle.ada_events.specs.declared.event.Event.{Event}
use Rattle.ada_events.specs.declared.request.Request.{Request}
use Rattle.ada_events.specs.Refusals as checks
use Rattle.ada_events.specs.declared.refusal.Refusal.{Refusal}
use Rattle.ada_events.specs.declared.refusal.Refusal.TheVariants.{UnknownTask, NotRunning, DuringActivation, NotActivating, NotYourMaster, EmptyList}
use Rattle.ada_events.specs.declared.refusal.Refusal.TheVariants.{NotYourTask, NoAccept, NoSuchFamily, ConstraintError, SameFamilyNested, TerminateInAccept}
use Rattle.ada_events.specs.declared.refusal.Refusal.TheVariants.{NotInAccept, NoBlock, StillNested, MainTask, MomentBack}
use Rattle.ada_events.specs.declared.refusal.Refusal.TheVariants.{MomentTooLarge, TooManyTasks, TooManySlots, TooDeep, JournalFull, OutOfMemory}
use Rattle.ada_border.specs.declared.bad.Bad.{Bad}
use Rattle.ada_border.specs.declared.bad.Bad.TheVariants.{TooLong, NoSuchKind, OutOfRange, NoSuchEvent, NoSuchItem, NoSuchTask, NoSuchEntry}

-- the causes of a refusal, in the order of their codes; a new one stands last, wherever it is checked
abbrev pub causes : List Refusal
causes = UnknownTask ∷ NotRunning ∷ DuringActivation ∷ NotActivating ∷ NotYourMaster ∷ EmptyList ∷ NotYourTask ∷ NoAccept ∷ NoSuchFamily ∷ ConstraintError ∷
    SameFamilyNested ∷ TerminateInAccept
    ∷ NotInAccept ∷ NoBlock ∷ StillNested ∷ MainTask ∷ MomentBack ∷ MomentTooLarge ∷ TooManyTasks ∷ TooManySlots ∷ TooDeep ∷ JournalFull ∷ OutOfMemory ∷ []

-- the code of a cause
abbrev pub refusal_code : Refusal → ℤ
refusal_code UnknownTask = pos 1
refusal_code NotRunning = pos 2
refusal_code DuringActivation = pos 3
refusal_code NotActivating = pos 4
refusal_code NotYourMaster = pos 5
refusal_code EmptyList = pos 6
refusal_code NotYourTask = pos 7
refusal_code NoAccept = pos 8
refusal_code NoSuchFamily = pos 9
refusal_code ConstraintError = pos 10
refusal_code SameFamilyNested = pos 11
refusal_code TerminateInAccept = pos 12
refusal_code NotInAccept = pos 13
refusal_code NoBlock = pos 14
refusal_code StillNested = pos 15
refusal_code MainTask = pos 16
refusal_code MomentBack = pos 17
refusal_code MomentTooLarge = pos 18
refusal_code TooManyTasks = pos 19
refusal_code TooManySlots = pos 20
refusal_code TooDeep = pos 21
refusal_code JournalFull = pos 22
refusal_code OutOfMemory = pos 23

-- what is wrong with numbers
abbrev pub bad_code : Bad → ℤ
bad_code TooLong = pos 100
bad_code NoSuchKind = pos 101
bad_code OutOfRange = pos 102
bad_code NoSuchEvent = pos 103
bad_code NoSuchItem = pos 104
bad_code NoSuchTask = pos 105
bad_code NoSuchEntry = pos 106

-- the codes are 1, 2, .. in the order of that list: so each cause has its own, and none is left out
abbrev pub AreNumbered : Type 0
AreNumbered = (cause : Refusal) → (place : ℕ) × (refusal_code cause ≡ pos (place + 1)) × (slice_get causes place ≡ Some cause)

-- the causes in the order in which they are checked: that of their codes; want of memory isn't among them
abbrev pub checked : List Refusal
checked = take 22 causes

-- of each request these are the causes that are checked, in this order
abbrev pub AreChecked : Type 0
AreChecked = (journal : List Event) (request : Request) → map (λ (c : checks.Cause). c.name) (checks.causes journal request) ≡ checked
