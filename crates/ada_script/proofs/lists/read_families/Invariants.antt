use Rattle.std.proofs.Common.{◌≡◌, ◌-◌, ◌≤◌, length}
use Rattle.ada_script.specs.internal.Reading.{repeat_at, family_at, families_at}
use Rattle.ada_script.proofs.lists.read_families.Given as goal

abbrev pub invariant-loop-families : goal.invariant-loop-families
invariant-loop-families l = record {
  fits : length l.families ≤ 16;
  reads : repeat_at family_at (16 - length l.families) l.families l.words ≡ families_at l.fn.words;
}

abbrev pub decreases-loop-families : goal.decreases-loop-families
decreases-loop-families l = 16 - length l.families
