use Rattle.std.proofs.Common.{◌∙◌, ap, sym}
use Rattle.std.specs.Option.{option_map}
use Rattle.ada_events.specs.declared.names.TaskNo.{TaskNo}
use Rattle.ada_triggers.proofs.Outwards.{way_begins, holder_known, way_goes_on, way_ends, is_above}
use Rattle.ada_triggers.proofs.masters.put_outward.Goals as goal

pub loop-holder-init : goal.loop-holder-init
loop-holder-init c = way_begins c.args.view.now c.args.task.0 c.args.agenda.now c.requires.known c.requires.live

pub put_holder-requires : goal.put_holder-requires
put_holder-requires c =
    holder_known c.args.view.now c.args.task.0 c.loop-holder.inner.0 _ c.args.agenda.now c.loop-holder.agenda c.holder_above.ensures.lawful
    c.loop-holder.invariant (sym c.holder_above.ensures.above ∙ ap (option_map (λ (t : TaskNo). t.0)) c.in-Some.is)

pub loop-holder-preserved : goal.loop-holder-preserved
loop-holder-preserved c =
    way_goes_on c.args.view.now c.args.task.0 c.loop-holder.inner.0 _ c.args.agenda.now c.loop-holder.agenda c.put_holder.new.agenda
    c.holder_above.ensures.lawful c.loop-holder.invariant (sym c.holder_above.ensures.above ∙ ap (option_map (λ (t : TaskNo). t.0)) c.in-Some.is)
    c.put_holder.ensures

pub loop-holder-smaller : goal.loop-holder-smaller
loop-holder-smaller c =
    (is_above c.args.view.now c.loop-holder.inner.0 _ c.holder_above.ensures.lawful c.loop-holder.invariant.live
    (sym c.holder_above.ensures.above ∙ ap (option_map (λ (t : TaskNo). t.0)) c.in-Some.is)).before

pub returns : goal.returns
returns c =
    way_ends c.args.view.now c.args.task.0 c.loop-holder.inner.0 c.args.agenda.now c.loop-holder.agenda c.holder_above.ensures.lawful c.loop-holder.invariant
    (sym c.holder_above.ensures.above ∙ ap (option_map (λ (t : TaskNo). t.0)) c.in_default.is)
