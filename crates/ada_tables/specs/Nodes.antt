-- The nodes of queued calls. They lie in a slab, which finds each by a key. A task has one queued call at
-- most, and keeps the key of its node.
use Rattle.std.specs.Prelude.{ℕ, Option, None, List, slice_index_or}
use Rattle.slab.specs.Slab.{Slab}
use Rattle.ada_tables.specs.declared.nodes.Node.{Node}

-- what a contract sees of the nodes: the slab, and the key of each caller's node, by the caller's number
pub record KeptNodes : Type 0 where
  pub slab : Slab Node
  pub keys : List (Option ℕ)

-- the node under a key
abbrev pub node_of : List (Option Node) → ℕ → Option Node
node_of nodes key = slice_index_or nodes key None
