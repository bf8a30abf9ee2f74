use Rattle.std.proofs.Common.{take}
use Rattle.std.specs.List.{All}
use Rattle.ada_lasting.specs.internal.Mastering.{IsKeptOrGone}
use Rattle.ada_lasting.proofs.masters.Masters.kept.Given as goal

abbrev pub invariant-loop-dependent : goal.invariant-loop-dependent
invariant-loop-dependent l = All (IsKeptOrGone l.view l.names l.kept.items) (take l.dependent-index l.fn.self)
