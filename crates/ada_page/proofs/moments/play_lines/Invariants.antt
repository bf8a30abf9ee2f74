use Rattle.std.proofs.Common.{take}
use Rattle.ada_replay.specs.Ends.{state}
use Rattle.ada_page.specs.Shows.{Shows}
use Rattle.ada_page.specs.Standing.{AreQueued}
use Rattle.ada_page.proofs.moments.play_lines.Given as goal

abbrev pub invariant-loop-line : goal.invariant-loop-line
invariant-loop-line l =
    Shows (take l.line-index l.lines) (state l.initial.kernel l.initial.names) l.answers.items l.text.items l.moments.items (state l.kernel l.names)
    × AreQueued l.kernel l.queued.items
