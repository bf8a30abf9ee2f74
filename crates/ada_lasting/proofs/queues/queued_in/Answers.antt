use Rattle.std.proofs.Common.{◌∙◌, sym}
use Rattle.ada_view.proofs.Counting.{entry_stands, length_told}
use Rattle.ada_lasting.proofs.Queued.{none_declared, none_within, some_queued}
use Rattle.ada_lasting.proofs.queues.queued_in.Goals as goal

pub returns-in_err-family : goal.returns-in_err-family
returns-in_err-family c =
    c.from_residual.ensures ∙ none_declared c.args.view.now c.args.task.0 c.args.entry (sym c.in_err-family.ensures)

pub queue_len-requires : goal.queue_len-requires
queue_len-requires c =
    entry_stands _ c.args.view.now c.args.task.0 c.args.entry c.in_ok-family.family c.tables.ensures.stand c.requires
    (sym c.in_ok-family.ensures) (sym c.is_within.ensures ∙ c.if-is_within.true)

pub returns-then-is_within : goal.returns-then-is_within
returns-then-is_within c =
    let declared = sym c.in_ok-family.ensures in
    let within = sym c.is_within.ensures ∙ c.if-is_within.true in
    some_queued c.args.view.now c.args.task.0 c.args.entry c.in_ok-family.family declared _ within
    (c.queue_len.ensures.value
    ∙ length_told _ c.args.view.now c.args.task.0 c.args.entry c.tables.ensures.stand
    (entry_stands _ c.args.view.now c.args.task.0 c.args.entry c.in_ok-family.family c.tables.ensures.stand c.requires declared within))

pub returns-else-is_within : goal.returns-else-is_within
returns-else-is_within c =
    none_within c.args.view.now c.args.task.0 c.args.entry c.in_ok-family.family (sym c.in_ok-family.ensures)
    (sym c.is_within.ensures ∙ c.if-is_within.false)
