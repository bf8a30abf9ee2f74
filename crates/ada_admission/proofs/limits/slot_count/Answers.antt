use Rattle.std.proofs.Common.{◌∙◌}
use Rattle.ada_records.proofs.following.SlotsApart.{slots_held}
use Rattle.ada_admission.proofs.limits.slot_count.Goals as goal

pub returns : goal.returns
returns c =
    c.slots.ensures.all
    ∙ slots_held _ c.args.view.now (record { many = c.tables.ensures.stand.many; facts = c.tables.ensures.stand.tasks })
