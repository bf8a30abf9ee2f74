use Rattle.std.proofs.Common.{◌∙◌, sym}
use Rattle.ada_view.proofs.Counting.{asks_no_family, asks_outside, asks_count, entry_stands, length_told}
use Rattle.ada_view.proofs.counts.running_count.Goals as goal

pub returns-in_default : goal.returns-in_default
returns-in_default c =
    asks_no_family c.args.view.now c.args.by.0 c.args.entry c.requires.known c.requires.runs (sym c.family.ensures ∙ c.in_default.is)

pub returns-then-not-is_within : goal.returns-then-not-is_within
returns-then-not-is_within c =
    asks_outside c.args.view.now c.args.by.0 c.args.entry c.in-Some.family c.requires.known c.requires.runs (sym c.family.ensures ∙ c.in-Some.is)
    (sym c.is_within.ensures ∙ c.if-not-is_within.true)

pub queue_len-requires : goal.queue_len-requires
queue_len-requires c =
    entry_stands _ c.args.view.now c.args.by.0 c.args.entry c.in-Some.family c.tables.ensures.stand c.requires.known
    (sym c.family.ensures ∙ c.in-Some.is) (sym c.is_within.ensures ∙ c.if-not-is_within.false)

pub returns : goal.returns
returns c =
    let declared = sym c.family.ensures ∙ c.in-Some.is in
    let within = sym c.is_within.ensures ∙ c.if-not-is_within.false in
    asks_count c.args.view.now c.args.by.0 c.args.entry c.in-Some.family _ c.requires.known c.requires.runs declared within
    (c.queue_len.ensures.value
    ∙ length_told _ c.args.view.now c.args.by.0 c.args.entry c.tables.ensures.stand
    (entry_stands _ c.args.view.now c.args.by.0 c.args.entry c.in-Some.family c.tables.ensures.stand c.requires.known declared within))
