use Rattle.std.proofs.Common.{◌≡◌, ◌++◌, ◌==◌, ◌&&◌, map, drop}
use Rattle.ada_script.specs.Spelling.{pause_words}
use Rattle.ada_script.specs.internal.Writing.{linked_by_or}
use Rattle.ada_script.proofs.spelling.put_pauses.Given as goal

abbrev pub invariant-loop-i : goal.invariant-loop-i
invariant-loop-i l =
    l.words.items ++ linked_by_or (l.is_first && l.i == 0) (map pause_words (drop l.i l.pauses)) ≡ l.initial.words.items
    ++ linked_by_or l.is_first (map pause_words l.pauses)
