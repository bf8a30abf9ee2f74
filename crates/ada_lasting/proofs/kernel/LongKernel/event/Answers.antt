use Rattle.std.proofs.Common.{◌≡◌, Some, reverse, sym, ap, ◌∙◌}
use Rattle.std.specs.Prelude.{slice_get}
use Rattle.std.specs.Option.{option_and_then, option_copied}
use Rattle.ada_lasting.specs.Naming.{Naming}
use Rattle.ada_lasting.specs.Following.{Long}
use Rattle.ada_lasting.specs.internal.Events.{back_of, lasting_event}
use Rattle.ada_lasting.proofs.Shown.{event_shown}
use Rattle.ada_lasting.proofs.kernel.LongKernel.event.Goals as goal

pub returns : goal.returns
returns c = λ journal follows.
    let kernel : Long = c.args.self.now in
    let there : slice_get (reverse kernel.group) c.args.at ≡ Some c.in_ok-event.event.now = sym c.shown.ensures ∙ ap option_copied c.in_ok-event.was in
    c.lasting_event.ensures
    ∙ (ap (λ (n : Naming). lasting_event (back_of n) c.in_ok-event.event.now) c.names.ensures.names
    ∙ (ap (option_and_then (lasting_event (back_of kernel.names))) (sym there) ∙ event_shown journal kernel follows c.known.ensures c.args.at))
