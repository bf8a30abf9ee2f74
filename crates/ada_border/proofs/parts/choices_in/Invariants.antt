use Rattle.std.proofs.Common.{◌≡◌, drop, length}
use Rattle.ada_border.specs.Requests.{all_in, choice_in}
use Rattle.ada_border.proofs.Reading.{joined}
use Rattle.ada_border.proofs.parts.choices_in.Given as goal

abbrev pub invariant-loop-choice : goal.invariant-loop-choice
invariant-loop-choice l =
    (all_in choice_in l.plain ≡ joined l.choices (all_in choice_in (drop l.choice-index l.plain))) × (length l.choices ≡ l.choice-index)
