-- When a play ends as is expected.
use Rattle.std.specs.Prelude.{Bool, true, false, ◌&&◌, int_le}
use Rattle.ada_explain.specs.declared.standstill.Standstill.{Standstill}
use Rattle.ada_waiting.specs.declared.standstill.Verdict.{Verdict}
use Rattle.ada_waiting.specs.declared.standstill.Verdict.TheVariants as verdict
use Rattle.ada_expectations.specs.declared.ending.Ending.{Ending}
use Rattle.ada_expectations.specs.declared.ending.Ending.TheVariants.{Terminated, Stuck, Circle, WaitsUntil, GoesOn}

-- by what can let its journal go on
abbrev pub has_verdict : Ending → Verdict → Bool
has_verdict Terminated verdict.Finished = true
has_verdict Stuck verdict.Stuck = true
has_verdict GoesOn verdict.GoesOn = true
has_verdict (WaitsUntil moment) (verdict.WaitsForTick until) = int_le moment until && int_le until moment
has_verdict _ _ = false

-- and by whether tasks wait for one another in a circle
abbrev pub is_so : Ending → Standstill → Bool
is_so Circle end = end.has_circle
is_so ending end = has_verdict ending end.verdict
