use Rattle.std.proofs.Common.{◌≡◌, take, true}
use Rattle.std.specs.List.{list_all}
use Rattle.ada_script.specs.internal.Spaces.{is_space}
use Rattle.ada_script.proofs.cursor.after_spaces.Given as goal

abbrev pub invariant-loop-i : goal.invariant-loop-i
invariant-loop-i l = list_all is_space (take l.i l.rest) ≡ true
