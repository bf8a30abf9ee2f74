-- What is found of the schedules of a script.
use Rattle.std.specs.Prelude.{◌≡◌, ◌==◌, ℕ, Bool, true, List}
use Rattle.std.specs.List.{list_all, list_any}
use Rattle.ada_script.specs.declared.script.Line.{Line}
use Rattle.ada_schedules.specs.Schedules.{State}
use Rattle.ada_search.specs.Findings.{StaysWell}
use Rattle.ada_explore.specs.declared.turns.Turn.{Turn}
use Rattle.ada_explore.specs.declared.turns.Freedom.{Freedom}
use Rattle.ada_explore.specs.Scripts.{Rest, scripted}

-- nobody said the line at a place yet
abbrev pub is_unsaid : Rest → ℕ → Bool
is_unsaid rest place = list_any (λ other. other == place) rest.left

-- nor any of those at some places
abbrev pub AreUnsaid : List ℕ → State Rest → Type 0
AreUnsaid places state = list_all (is_unsaid state.rest) places ≡ true

-- the schedule of these turns, in their order, comes to a state from which on none of the lines at some places is ever
-- said, whatever comes
abbrev pub NeverSays : Freedom → List Line → List Turn → List ℕ → Type 0
NeverSays freedom script path places = StaysWell (scripted freedom script) (AreUnsaid places) path
