use Rattle.std.proofs.Common.{sym, ◌∙◌}
use Rattle.ada_search.specs.Findings.{at as state}
use Rattle.ada_explore.proofs.Sameness.{same_rest}
use Rattle.ada_explore.proofs.space.SpaceSchedules.is_same.Goals as goal

pub returns-then-leaves_same : goal.returns-then-leaves_same
returns-then-leaves_same c = λ yes reached too.
    same_rest c.args.self.now.freedom c.args.self.now.script.now c.lines.result.now (state c.args.old.now.kernel c.args.old.now.rest)
    (state c.args.new.now.kernel c.args.new.now.rest) _ c.lines.ensures (c.leaves_same.ensures c.if-leaves_same.true)
    (sym c.say_alike.ensures ∙ yes) reached too
