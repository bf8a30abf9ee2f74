use Rattle.std.proofs.Common.{◌≡◌, ◌++◌, ◌==◌, map, drop, true}
use Rattle.ada_script.specs.Spelling.{choice_words}
use Rattle.ada_script.specs.internal.Writing.{linked_by_or}
use Rattle.ada_script.proofs.spelling.put_choices.Given as goal

abbrev pub invariant-loop-i : goal.invariant-loop-i
invariant-loop-i l =
    l.words.items ++ linked_by_or (l.i == 0) (map choice_words (drop l.i l.choices)) ≡ l.initial.words.items ++ linked_by_or true (map choice_words l.choices)
