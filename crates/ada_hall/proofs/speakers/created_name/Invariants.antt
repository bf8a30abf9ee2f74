use Rattle.std.proofs.Common.{◌≡◌, drop}
use Rattle.std.specs.Prelude.{slice_get}
use Rattle.ada_hall.specs.Speakers.{created}
use Rattle.ada_hall.proofs.speakers.created_name.Given as goal

abbrev pub invariant-loop-line : goal.invariant-loop-line
invariant-loop-line l = slice_get (created l.lines) l.number ≡ slice_get (created (drop l.line-index l.lines)) l.left
