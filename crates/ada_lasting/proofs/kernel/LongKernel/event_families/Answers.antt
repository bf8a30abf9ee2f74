use Rattle.std.proofs.Common.{◌≡◌, Some, None, reverse, sym, ap, ◌∙◌}
use Rattle.std.specs.Prelude.{slice_get}
use Rattle.std.specs.Option.{option_copied}
use Rattle.ada_border.specs.Events.{families_of}
use Rattle.ada_lasting.specs.Events.{list_of}
use Rattle.ada_lasting.proofs.Shown.{families_shown}
use Rattle.ada_lasting.proofs.kernel.LongKernel.event_families.Goals as goal

pub returns-in-Some : goal.returns-in-Some
returns-in-Some c = λ journal follows.
    let there : slice_get (reverse c.args.self.now.group) c.args.at ≡ Some c.in-Some.event.now = sym c.shown.ensures ∙ ap option_copied c.in-Some.is in
    c.families_of.ensures ∙ (ap (list_of families_of) (sym there) ∙ families_shown journal c.args.self.now follows c.args.at)

pub returns-in-None : goal.returns-in-None
returns-in-None c = λ journal follows.
    let nowhere : slice_get (reverse c.args.self.now.group) c.args.at ≡ None = sym c.shown.ensures ∙ ap option_copied c.in-None.is in
    ap (list_of families_of) (sym nowhere) ∙ families_shown journal c.args.self.now follows c.args.at
