use Rattle.std.proofs.Common.{◌≡◌, reverse, take}
use Rattle.std.specs.Bool.{then_some}
use Rattle.std.specs.Option.{option_and_then}
use Rattle.ada_events.specs.declared.event.Event.TheVariants.{Quit}
use Rattle.ada_events.specs.declared.names.Master.TheVariants.{Block}
use Rattle.ada_events.specs.Search.{first_given}
use Rattle.ada_events.specs.Says.{Opening, opening_in}
use Rattle.ada_events.specs.Forced.{is_to_quit}
use Rattle.ada_reference.proofs.forced.endings.quit_block.Given as goal

abbrev pub invariant-loop-i : goal.invariant-loop-i
invariant-loop-i l =
    l.found ≡ first_given (λ p e. option_and_then (λ (_ : Opening). then_some (is_to_quit (reverse l.events) (Block p)) (Quit (Block p))) (opening_in e))
    (reverse (take l.i l.events))
