use Rattle.std.proofs.Common.{◌≡◌, Some, reverse, sym, ap, ◌∙◌}
use Rattle.std.specs.Prelude.{slice_get}
use Rattle.std.specs.Option.{option_copied, option_map}
use Rattle.ada_border.specs.Events.{lengths_of}
use Rattle.ada_lasting.proofs.Shown.{lengths_shown}
use Rattle.ada_lasting.proofs.kernel.LongKernel.event_lengths.Goals as goal

pub returns : goal.returns
returns c = λ journal follows.
    let there : slice_get (reverse c.args.self.now.group) c.args.at ≡ Some c.in_ok-event.event.now =
    sym c.shown.ensures ∙ ap option_copied c.in_ok-event.was in
    ap Some c.lengths_of.ensures ∙ (ap (option_map lengths_of) (sym there) ∙ lengths_shown journal c.args.self.now follows c.args.at)
