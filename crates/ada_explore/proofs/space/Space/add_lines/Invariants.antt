use Rattle.ada_explore.specs.internal.Choosing.{HaveLines}
use Rattle.ada_explore.proofs.space.Space.add_lines.Given as goal

-- so far
abbrev pub invariant-loop-place : goal.invariant-loop-place
invariant-loop-place l =
    HaveLines l.self.freedom l.self.script.now l.standing.kernel l.standing.rest l.fn.choices.items l.choices.items l.place-index
