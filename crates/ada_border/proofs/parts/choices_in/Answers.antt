use Rattle.std.proofs.Common.{sym, ◌∙◌}
use Rattle.ada_border.specs.Requests.{choice_in}
use Rattle.ada_border.proofs.Reading.{grown}
use Rattle.ada_border.proofs.parts.choices_in.Goals as goal

pub loop-choice-preserved : goal.loop-choice-preserved
loop-choice-preserved c =
    grown choice_in c.args.plain.now c.loop-choice.choice-index _ c.loop-choice.choices c.push.new.self c.in_ok-choice_in.field-0
    c.loop-choice-test.true c.loop-choice.invariant (sym c.choice_in.ensures ∙ c.in_ok-choice_in.was) c.push.ensures
