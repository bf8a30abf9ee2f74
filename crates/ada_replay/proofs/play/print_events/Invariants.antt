use Rattle.std.proofs.Common.{◌≡◌, ◌++◌, reverse, take}
use Rattle.ada_replay.specs.Play.{group_text}
use Rattle.ada_replay.proofs.play.print_events.Given as goal

abbrev pub invariant-loop-at : goal.invariant-loop-at
invariant-loop-at l = l.text.items ≡ l.initial.text.items ++ group_text l.names l.from (reverse (take l.at l.events))
