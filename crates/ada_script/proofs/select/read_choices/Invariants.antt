use Rattle.std.proofs.Common.{◌≡◌, ◌-◌, ◌≤◌, length, []}
use Rattle.ada_script.specs.internal.Reading.{choices_at}
use Rattle.ada_script.proofs.select.read_choices.Given as goal

abbrev pub invariant-alternatives : goal.invariant-alternatives
invariant-alternatives l = record {
  fits : length l.choices ≤ 16;
  reads : choices_at l.names l.by (16 - length l.choices) l.choices l.words ≡ choices_at l.names l.by 16 [] l.fn.words;
}

abbrev pub decreases-alternatives : goal.decreases-alternatives
decreases-alternatives l = 16 - length l.choices
