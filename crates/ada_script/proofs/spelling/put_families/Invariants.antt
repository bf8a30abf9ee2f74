use Rattle.std.proofs.Common.{◌≡◌, ◌++◌, take}
use Rattle.std.specs.List.{flat_map}
use Rattle.ada_script.specs.Spelling.{family_words}
use Rattle.ada_script.proofs.spelling.put_families.Given as goal

abbrev pub invariant-loop-family : goal.invariant-loop-family
invariant-loop-family l = l.words.items ≡ l.initial.words.items ++ flat_map family_words (take l.family-index l.families)
