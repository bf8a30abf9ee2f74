use Rattle.std.proofs.Common.{◌≤◌, length, ◌-◌, All}
use Rattle.ada_text.specs.internal.Words.{IsWordOf}
use Rattle.ada_text.proofs.lexer.cut.Given as goal

abbrev pub invariant-loop-words : goal.invariant-loop-words
invariant-loop-words l = (l.from ≤ length l.text) × All (IsWordOf l.text) l.words.items

abbrev pub decreases-loop-words : goal.decreases-loop-words
decreases-loop-words l = length l.text - l.from
