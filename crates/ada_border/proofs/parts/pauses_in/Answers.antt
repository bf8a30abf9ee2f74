use Rattle.std.proofs.Common.{sym, ◌∙◌}
use Rattle.ada_border.specs.Requests.{pause_in}
use Rattle.ada_border.proofs.Reading.{grown}
use Rattle.ada_border.proofs.parts.pauses_in.Goals as goal

pub loop-pause-preserved : goal.loop-pause-preserved
loop-pause-preserved c =
    grown pause_in c.args.plain.now c.loop-pause.pause-index _ c.loop-pause.pauses c.push.new.self c.in_ok-pause_in.field-0
    c.loop-pause-test.true c.loop-pause.invariant (sym c.pause_in.ensures ∙ c.in_ok-pause_in.was) c.push.ensures
