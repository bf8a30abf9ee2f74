use Rattle.std.proofs.Common.{rules}
use Rattle.ada_lasting.specs.Meaning.{meant}
use Rattle.ada_embed.proofs.Asking.{stepped_by_clock, refused_by_clock, stepped_without, refused_without}
use Rattle.ada_embed.proofs.lasting.answers.ask.Goals as goal

pub returns-then-now-ge0-clause-ok : goal.returns-then-now-ge0-clause-ok
returns-then-now-ge0-clause-ok c =
    stepped_by_clock c.args.kernel.now c.step_at.new.self c.args.now _ (meant c.args.request) c.step_at.result (search rules) (search rules)
    c.step_at.ensures.ok

pub returns-then-now-ge0-clause-err : goal.returns-then-now-ge0-clause-err
returns-then-now-ge0-clause-err c =
    refused_by_clock c.args.kernel.now c.step_at.new.self c.args.now _ (meant c.args.request) c.step_at.result (search rules) (search rules)
    c.step_at.ensures.err

pub returns-else-now-ge0-clause-ok : goal.returns-else-now-ge0-clause-ok
returns-else-now-ge0-clause-ok c =
    stepped_without c.args.kernel.now c.step.new.self c.args.now (meant c.args.request) c.step.result (search rules) c.step.ensures.given_up
    c.step.ensures.ok

pub returns-else-now-ge0-clause-err : goal.returns-else-now-ge0-clause-err
returns-else-now-ge0-clause-err c =
    refused_without c.args.kernel.now c.step.new.self c.args.now (meant c.args.request) c.step.result (search rules) c.step.ensures.given_up
    c.step.ensures.err
