use Rattle.std.proofs.Common.{◌≡◌, map, take}
use Rattle.ada_statements.specs.Binding.{choice_of}
use Rattle.ada_statements.proofs.requests.choices_of.Given as goal

abbrev pub invariant-loop-choice : goal.invariant-loop-choice
invariant-loop-choice l = l.accepts ≡ map (choice_of l.names l.by) (take l.choice-index l.choices)
