-- Which turns are among those that may come next.
use Rattle.std.specs.Prelude.{◌≡◌, ℕ, ◌<◌, true, Option, Some, None, List, slice_get}
use Rattle.ada_events.specs.declared.event.Event.{Event}
use Rattle.ada_script.specs.declared.script.Line.{Line}
use Rattle.ada_explore.specs.declared.turns.Turn.{Turn}
use Rattle.ada_explore.specs.declared.turns.Turn.TheVariants.{Line as Say}
use Rattle.ada_explore.specs.declared.turns.Freedom.{Freedom}
use Rattle.ada_explore.specs.Picks.{may_have}
use Rattle.ada_explore.specs.Scripts.{Rest, may_come}

-- a turn is among these
abbrev pub Has : List Turn → Turn → Type 0
Has choices turn = (at : ℕ) × (slice_get choices at ≡ Some turn)

-- those that were there are there still
abbrev pub AreKept : List Turn → List Turn → Type 0
AreKept old new = (turn : Turn) → Has old turn → Has new turn

-- the line at a place with a pick
abbrev pub turn_of : ℕ → Option ℕ → Turn
turn_of place pick = Say place pick

-- the line at a place is there as it is written, and with each pick that it may have below a number
pub record HavePicks (freedom : Freedom) (script : List Line) (old new : List Turn) (place count : ℕ) : Type 0 where
  pub kept : AreKept old new
  pub written : Has new (turn_of place None)
  pub others : (pick : ℕ) → pick < count → may_have freedom.picks script place (Some pick) ≡ true → Has new (turn_of place (Some pick))

-- it is there with each pick that it may have
abbrev pub HaveAllPicks : Freedom → List Line → List Turn → ℕ → Type 0
HaveAllPicks freedom script choices place = (pick : Option ℕ) → may_have freedom.picks script place pick ≡ true → Has choices (turn_of place pick)

-- so is each of the first so many lines that are left and may come
pub record HaveLines (freedom : Freedom) (script : List Line) (journal : List Event) (rest : Rest) (old new : List Turn) (count : ℕ) : Type 0 where
  pub kept : AreKept old new
  pub lines : (k place : ℕ) → k < count → slice_get rest.left k ≡ Some place → may_come script journal rest place ≡ true
      → HaveAllPicks freedom script new place
