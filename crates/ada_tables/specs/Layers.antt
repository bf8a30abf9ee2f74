-- The nest of one task: each member as a layer, outermost first, a block with the number of its live
-- dependents.
use Rattle.std.specs.Prelude.{List, map}
use Rattle.ada_events.specs.declared.names.Member.{Member}
use Rattle.ada_events.specs.declared.names.Member.TheVariants.{Block as BlockMember, Rendezvous as RendezvousMember}
use Rattle.ada_tables.specs.declared.layers.Layer.{Layer}
use Rattle.ada_tables.specs.declared.layers.Layer.TheVariants.{Block, Rendezvous}

-- the member that a layer is
abbrev pub member_of : Layer → Member
member_of (Block live opening) = BlockMember opening
member_of (Rendezvous call) = RendezvousMember call

-- the members of a nest
abbrev pub members : List Layer → List Member
members layers = map member_of layers
