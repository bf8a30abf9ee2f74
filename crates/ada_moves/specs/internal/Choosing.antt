-- The moves that may come next, as they are listed.
use Rattle.std.specs.Prelude.{◌≡◌, ℕ, ◌<◌, true, Some, List, slice_get}
use Rattle.ada_events.specs.declared.event.Event.{Event}
use Rattle.ada_search.specs.Findings.{at, may_come}
use Rattle.ada_behaviours.specs.declared.want.ObjectNo.{ObjectNo}
use Rattle.ada_behaviours.specs.declared.want.Move.{Move}
use Rattle.ada_behaviours.specs.declared.want.Move.TheVariants.{Go}
use Rattle.ada_behaviours.specs.Behaviours.{Behaviour}
use Rattle.ada_behaviours.specs.Moves.{Rest, behaving}

-- the move is one of these
abbrev pub IsAmong : List Move → Move → Type 0
IsAmong moves move = (at : ℕ) × (slice_get moves at ≡ Some move)

-- whatever was among them is among them still
abbrev pub AreKept : List Move → List Move → Type 0
AreKept old new = (move : Move) → IsAmong old move → IsAmong new move

-- the move is among them, if it may come
abbrev pub IsListed : {State : Type 0} → Behaviour State → List Event → Rest State → List Move → Move → Type 0
IsListed behaviour journal rest moves move = may_come (behaving behaviour) (at journal rest) move ≡ true → IsAmong moves move

-- so is each move of an object with a pick below some number
abbrev pub AreListedTo : {State : Type 0} → Behaviour State → List Event → Rest State → List Move → ObjectNo → ℕ → Type 0
AreListedTo behaviour journal rest moves object picks = (pick : ℕ) → pick < picks → IsListed behaviour journal rest moves (Go object pick)

-- and each move of an object
abbrev pub AreListedOf : {State : Type 0} → Behaviour State → List Event → Rest State → List Move → ObjectNo → Type 0
AreListedOf behaviour journal rest moves object = (pick : ℕ) → IsListed behaviour journal rest moves (Go object pick)

-- and each move of the objects below some number
abbrev pub AreListedBelow : {State : Type 0} → Behaviour State → List Event → Rest State → List Move → ℕ → Type 0
AreListedBelow behaviour journal rest moves count = (object : ObjectNo) → object.0 < count → AreListedOf behaviour journal rest moves object
