use Rattle.std.proofs.Common.{◌+◌, ◌≤◌, take}
use Rattle.std.specs.List.{count_by}
use Rattle.ada_hall.specs.Speakers.{is_request_of}
use Rattle.ada_run.proofs.working.play_lines.Given as goal

abbrev pub invariant-loop-at : goal.invariant-loop-at
invariant-loop-at g l = l.report.accepted + l.report.refused ≤ count_by (is_request_of l.name) (take l.at l.lines)
