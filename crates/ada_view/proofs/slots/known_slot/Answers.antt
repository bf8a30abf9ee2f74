use Rattle.std.proofs.Common.{◌∙◌, sym, ap, Some}
use Rattle.ada_view.proofs.Counting.{entry_stands}
use Rattle.ada_view.proofs.Placing.{no_family_slot, outside_slot, slot_told}
use Rattle.ada_view.proofs.slots.known_slot.Goals as goal

pub returns-in_err-family : goal.returns-in_err-family
returns-in_err-family c =
    c.from_residual.ensures ∙ no_family_slot c.args.view.now c.args.task.0 c.args.entry (sym c.in_err-family.ensures)

pub slot-requires : goal.slot-requires
slot-requires c =
    entry_stands _ c.args.view.now c.args.task.0 c.args.entry c.in_ok-family.family c.tables.ensures.stand c.requires
    (sym c.in_ok-family.ensures) (sym c.is_within.ensures ∙ c.if-is_within.true)

pub returns-then-is_within : goal.returns-then-is_within
returns-then-is_within c =
    ap Some c.slot.ensures.value
    ∙ slot_told _ c.args.view.now c.args.task.0 c.args.entry c.tables.ensures.stand
    (entry_stands _ c.args.view.now c.args.task.0 c.args.entry c.in_ok-family.family c.tables.ensures.stand c.requires
    (sym c.in_ok-family.ensures) (sym c.is_within.ensures ∙ c.if-is_within.true))

pub returns-else-is_within : goal.returns-else-is_within
returns-else-is_within c =
    outside_slot c.args.view.now c.args.task.0 c.args.entry c.in_ok-family.family (sym c.in_ok-family.ensures) (sym c.is_within.ensures ∙ c.if-is_within.false)
