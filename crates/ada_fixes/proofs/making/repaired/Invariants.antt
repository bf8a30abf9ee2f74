use Rattle.ada_fixes.specs.internal.Until.{IsFixedUntil}
use Rattle.ada_fixes.proofs.making.repaired.Given as goal

abbrev pub invariant-loop-repair : goal.invariant-loop-repair
invariant-loop-repair l = IsFixedUntil l.text l.rest l.all.items
