use Rattle.std.proofs.Common.{◌≡◌, ℕ, false, length}
use Rattle.ada_agenda.specs.Rows.{keeps}
use Rattle.ada_agenda.proofs.agenda.Agenda.new.Given as goal

abbrev pub invariant-loop : goal.invariant-loop
invariant-loop l = (length l.sets.items ≡ l.counter) × ((row k : ℕ) → keeps l.sets.items row k ≡ false)
