use Rattle.std.proofs.Common.{◌≡◌, ℕ, ◌+◌, ◌-◌, ◌≤◌, length, max, get_or, vec_capacity}
use Rattle.ada_agenda.proofs.numbers.fill_to.Given as goal

abbrev pub invariant-loop-words : goal.invariant-loop-words
invariant-loop-words l =
    (length l.words.items ≤ max (length l.fn.words.items) (l.place + 1)) × (vec_capacity l.words ≡ vec_capacity l.fn.words)
    × ((w : ℕ) → get_or l.words.items w 0 ≡ get_or l.fn.words.items w 0)

abbrev pub decreases-loop-words : goal.decreases-loop-words
decreases-loop-words l = l.place + 1 - length l.words.items
