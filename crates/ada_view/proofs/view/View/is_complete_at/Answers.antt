use Rattle.std.proofs.Common.{◌∙◌, ap, sym, Some}
use Rattle.std.specs.Option.{option_and_then}
use Rattle.ada_events.specs.Says.{opening_in}
use Rattle.ada_view.proofs.Blocks.{opener_exists}
use Rattle.ada_view.proofs.Orphans.{left_complete, no_block_complete, not_opened}
use Rattle.ada_view.proofs.view.View.is_complete_at.Goals as goal

pub is_within-requires : goal.is_within-requires
unfolding opening_in
is_within-requires c =
    opener_exists c.args.self.now c.args.block c.args.event.now (record { by = c.in-Opened.by.0; under = c.in-Opened.under }) c.requires.lawful
    c.requires.opened (ap opening_in c.in-Opened.is)

pub returns-then-not-is_within : goal.returns-then-not-is_within
returns-then-not-is_within c =
    left_complete c.args.self.now c.in-Opened.by c.in-Opened.under c.args.block (c.requires.opened ∙ ap Some c.in-Opened.is)
    (sym c.is_within.ensures ∙ c.if-not-is_within.true)

pub is_complete_block-requires : goal.is_complete_block-requires
unfolding opening_in
is_complete_block-requires c = record {
  event = c.args.event.now;
  opening = record { by = c.in-Opened.by.0; under = c.in-Opened.under };
  stands = c.requires.opened;
  says = ap opening_in c.in-Opened.is;
  right = c.record.ensures.right;
  within = sym c.is_within.ensures ∙ c.if-not-is_within.false;
}

pub returns-in_default : goal.returns-in_default
returns-in_default c =
    no_block_complete c.args.self.now c.args.block c.requires.lawful
    (ap (option_and_then opening_in) c.requires.opened ∙ not_opened c.args.event.now c.in_default.not-Opened)
