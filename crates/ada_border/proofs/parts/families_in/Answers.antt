use Rattle.std.proofs.Common.{sym, ◌∙◌}
use Rattle.ada_border.specs.Requests.{family_in}
use Rattle.ada_border.proofs.Reading.{grown}
use Rattle.ada_border.proofs.parts.families_in.Goals as goal

pub loop-family-preserved : goal.loop-family-preserved
loop-family-preserved c =
    grown family_in c.args.plain.now c.loop-family.family-index _ c.loop-family.families c.push.new.self c.in_ok-family_in.field-0
    c.loop-family-test.true c.loop-family.invariant (sym c.family_in.ensures ∙ c.in_ok-family_in.was) c.push.ensures
