use Rattle.std.proofs.Common.{ap, ◌∙◌}
use Rattle.ada_tables.specs.Layers.{members}
use Rattle.ada_compact.proofs.Nesting.{same_nest}
use Rattle.ada_compact.proofs.comparison.Comparison.is_same_nest.Goals as goal

-- the two nests are what the journals say
pub returns : goal.returns
returns c = λ same.
    same_nest c.args.self.now.old c.args.self.now.new _ c.args.old.0 c.args.new.0 c.as_slice.result.now c.as_slice-2.result.now
    (ap members c.as_slice.ensures.value ∙ c.nest.ensures) (ap members c.as_slice-2.ensures.value ∙ c.nest-2.ensures) (c.are_same_layers.ensures same)
