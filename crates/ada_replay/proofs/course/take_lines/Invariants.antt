use Rattle.std.proofs.Common.{◌≡◌, ◌+◌, length}
use Rattle.ada_statements.specs.Text.{lines_of}
use Rattle.ada_replay.specs.Ends.{state}
use Rattle.ada_replay.specs.Play.{PlayState}
use Rattle.ada_replay.specs.declared.judgement.Judgement.{Judgement}
use Rattle.ada_replay.specs.Courses.{IsCourse}
use Rattle.ada_replay.proofs.course.take_lines.Given as goal

abbrev pub invariant-loop-line : goal.invariant-loop-line
invariant-loop-line l = record {
  fits : l.number + length l.rest ≡ length (lines_of l.log);
  leads : (judgement : Judgement) (new : PlayState) → IsCourse (l.number + 1) l.rest (state l.kernel l.names) judgement new
      → IsCourse 1 (lines_of l.log) (state l.initial.kernel l.initial.names) judgement new;
}

abbrev pub decreases-loop-line : goal.decreases-loop-line
decreases-loop-line l = length l.rest
