use Rattle.std.proofs.Common.{◌≡◌, drop, length}
use Rattle.ada_border.specs.Requests.{all_in, family_in}
use Rattle.ada_border.proofs.Reading.{joined}
use Rattle.ada_border.proofs.parts.families_in.Given as goal

abbrev pub invariant-loop-family : goal.invariant-loop-family
invariant-loop-family l =
    (all_in family_in l.plain ≡ joined l.families (all_in family_in (drop l.family-index l.plain))) × (length l.families ≡ l.family-index)
