use Rattle.std.proofs.Common.{◌∙◌, ◌≤◌, ap, subst}
use Rattle.ada_events.specs.Nests.{nest}
use Rattle.ada_tables.specs.Dependents.{Facts}
use Rattle.ada_triggers.specs.internal.Keys.{AsBlock}
use Rattle.ada_triggers.proofs.Putting.{puts_none}
use Rattle.ada_triggers.proofs.Holding.{blocks_put, all_blocks_put, got_fits}
use Rattle.ada_triggers.proofs.masters.put_blocks.Goals as goal

pub put_layer-requires : goal.put_layer-requires
put_layer-requires c p is =
    got_fits c.args.view.now c.args.task.0 c.loop-place.place p _ c.get.result c.tables.ensures.lawful
    (c.nest-layers.ensures ∙ ap (λ (f : Facts). f.nest) (c.tables.ensures.stand.tasks c.args.task.0 c.requires)) c.get.ensures is

pub loop-place-init : goal.loop-place-init
loop-place-init c = puts_none c.args.agenda.now (AsBlock (nest c.args.view.now c.args.task.0))

pub loop-place-preserved : goal.loop-place-preserved
loop-place-preserved c =
    blocks_put c.args.agenda.now c.loop-place.agenda c.put_layer.new.agenda _ (nest c.args.view.now c.args.task.0) c.loop-place.place c.get.result
    c.loop-place.invariant
    (c.nest-layers.ensures ∙ ap (λ (f : Facts). f.nest) (c.tables.ensures.stand.tasks c.args.task.0 c.requires)) c.get.ensures c.put_layer.ensures

pub returns : goal.returns
returns c =
    all_blocks_put c.args.agenda.now c.loop-place.agenda (nest c.args.view.now c.args.task.0) c.nest-layers.result.now c.loop-place.place
    c.loop-place.invariant
    (c.nest-layers.ensures ∙ ap (λ (f : Facts). f.nest) (c.tables.ensures.stand.tasks c.args.task.0 c.requires))
    (subst (λ n. n ≤ c.loop-place.place) c.len-place-end.ensures.value c.loop-place-test.false)
