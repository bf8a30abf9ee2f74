-- How linked nodes keep the queues. The node of each queued call has the keys of the nodes before and after
-- it, and each slot keeps the keys of the first and the last node and the length of its queue.
use Rattle.std.specs.Prelude.{ℕ, zero, suc, Option, List, [], ◌∷◌}
use Rattle.std.specs.Option.{option_map_or, option_and_then}
use Rattle.ada_tables.specs.declared.nodes.Node.{Node}
use Rattle.ada_tables.specs.declared.queues.Queue.{Queue}
use Rattle.ada_tables.specs.Nodes.{node_of}
use Rattle.ada_tables.specs.Queues.{QueuedCall}

-- a node as the call that it is
abbrev pub call_of : Node → QueuedCall
call_of node = record { call = node.call; caller = node.caller }

-- so many calls, from a link on
unfoldable pub followed : List (Option Node) → ℕ → Option ℕ → List QueuedCall
followed nodes zero link = []
followed nodes (suc more) link =
    option_map_or (λ (node : Node). call_of node ∷ followed nodes more node.after) (option_and_then (node_of nodes) link) []

-- the calls that wait in a queue
abbrev pub calls_in : List (Option Node) → Queue → List QueuedCall
calls_in nodes queue = followed nodes queue.len queue.first
