use Rattle.std.proofs.Common.{◌≡◌, ◌+◌, ◌≤◌, length, drop}
use Rattle.ada_hall.specs.Speakers.{created}
use Rattle.ada_hall.proofs.speakers.creations.Given as goal

abbrev pub invariant-loop-line : goal.invariant-loop-line
invariant-loop-line l =
    (l.count + length (created (drop l.line-index l.lines)) ≡ length (created l.lines)) × (l.count ≤ l.line-index)
