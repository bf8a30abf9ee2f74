use Rattle.ada_explore.specs.Scripts as scripts
use Rattle.ada_explore.proofs.Places.{keeps_more}
use Rattle.ada_explore.proofs.rest.asking.Goals as goal

pub loop-place-preserved : goal.loop-place-preserved
loop-place-preserved c =
    keeps_more (λ place. scripts.is_searched c.args.freedom.time (scripts.request_at c.args.script.now c.args.names.now place)) _ _
    c.loop-place.place c.in_ok-place.place _
    c.in_ok-place.ensures (c.is_searched.ensures c.args.names.now) c.loop-place.invariant c.in_ok-keep.ensures
