use Rattle.std.proofs.Common.{ℕ, drop}
use Rattle.ada_hall.specs.Answers.{AreJoined}
use Rattle.ada_hall.proofs.printing.are_joined.Given as goal

-- those that are left are joined to what was found so far exactly where all are
abbrev pub invariant-loop-kept : goal.invariant-loop-kept
invariant-loop-kept l = record {
  whole : (to : ℕ) → AreJoined (drop l.kept-index l.answers) l.«end» to → AreJoined l.answers 0 to;
  left : (to : ℕ) → AreJoined l.answers 0 to → AreJoined (drop l.kept-index l.answers) l.«end» to;
}
