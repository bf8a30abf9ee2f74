use Rattle.std.proofs.Common.{◌∙◌, ap, sym, Some}
use Rattle.std.specs.Bool.{then_some}
use Rattle.ada_events.specs.declared.event.Event.TheVariants.{Quit}
use Rattle.ada_events.specs.declared.names.Master.TheVariants.{Block}
use Rattle.ada_events.specs.Says.{opening_in}
use Rattle.ada_view.proofs.Blocks.{opener_exists, left_stays}
use Rattle.ada_view.proofs.view.View.is_block_to_quit.Goals as goal

pub is_within-requires : goal.is_within-requires
unfolding opening_in
is_within-requires c =
    opener_exists c.args.self.now c.args.at c.args.event.now (record { by = c.in-Opened.by.0; under = c.in-Opened.under }) c.record-kept.ensures.lawful
    c.requires (ap opening_in c.in-Opened.is)

pub returns-then-not-is_within : goal.returns-then-not-is_within
unfolding opening_in
returns-then-not-is_within c =
    rw c.in-Opened.is
    (ap (λ b. then_some b (Quit (Block c.args.at)))
    (sym (left_stays c.args.self.now c.in-Opened.by c.in-Opened.under c.args.at c.record-kept.ensures.lawful (c.requires ∙ ap Some c.in-Opened.is)
    (sym c.is_within.ensures ∙ c.if-not-is_within.true))))

pub is_complete_block-complete-requires : goal.is_complete_block-complete-requires
unfolding opening_in
is_complete_block-complete-requires c = record {
  event = c.args.event.now;
  opening = record { by = c.in-Opened.by.0; under = c.in-Opened.under };
  stands = c.requires;
  says = ap opening_in c.in-Opened.is;
  right = c.record-kept.ensures.right;
  within = sym c.is_within.ensures ∙ c.if-not-is_within.false;
}

pub is_to_quit-requires-clause-held : goal.is_to_quit-requires-clause-held
unfolding opening_in
is_to_quit-requires-clause-held c = record {
  task = c.in-Opened.by.0;
  known = opener_exists c.args.self.now c.args.at c.args.event.now (record { by = c.in-Opened.by.0; under = c.in-Opened.under }) c.record-kept.ensures.lawful
      c.requires (ap opening_in c.in-Opened.is);
  held = sym c.is_within.ensures ∙ c.if-not-is_within.false;
}
