-- How linked nodes keep the queues. The node of each queued call has the keys of the nodes before and after
-- it, and each slot keeps the keys of the first and the last node and the length of its queue.
use Rattle.std.specs.Prelude.{◌≡◌, ◌==◌, ℕ, ◌<◌, ◌≤◌, Bool, false, Option, Some, None, is_some, List, [], ◌∷◌, map, length, count_by, slice_set, slice_index_or}
use Rattle.ada_events.specs.declared.limits.TheConstants.{MOST_TASKS}
use Rattle.std.specs.List.{sum_by, list_any}
use Rattle.std.specs.Option.{option_map}
use Rattle.ada_tables.specs.declared.nodes.Node.{Node}
use Rattle.ada_tables.specs.declared.queues.Queue.{Queue}
use Rattle.ada_tables.specs.Nodes.{node_of}
use Rattle.ada_tables.specs.internal.Nodes.{key_of}
use Rattle.ada_tables.specs.Queues.{QueuedCall, waits}
use Rattle.ada_tables.specs.Links.{calls_in}

-- a queued call with the key of its node
pub record Place : Type 0 where
  pub key : ℕ
  pub called : QueuedCall

-- the calls at some places
abbrev pub calls_of : List Place → List QueuedCall
calls_of places = map (λ (place : Place). place.called) places

-- one of the places has the key
abbrev pub has_key : ℕ → List Place → Bool
has_key key places = list_any (λ (place : Place). place.key == key) places

-- the key of the first place, else this link
abbrev pub first_or : Option ℕ → List Place → Option ℕ
first_or after [] = after
first_or after (place ∷ rest) = Some place.key

-- the key of the last place, else this link
abbrev pub last_or : Option ℕ → List Place → Option ℕ
last_or before [] = before
last_or before (place ∷ rest) = last_or (Some place.key) rest

-- the node of a call that stands between two others
abbrev pub node_at : ℕ → Option ℕ → QueuedCall → Option ℕ → Node
node_at slot before called after = record { call = called.call; caller = called.caller; slot = slot; before = before; after = after }

-- some places follow one another in the queue at a slot, between two links: each has the node that its
-- place determines, and none stands twice
unfoldable pub IsChain : List (Option Node) → ℕ → Option ℕ → List Place → Option ℕ → Type 0
IsChain nodes slot before [] after = Unit {0}
IsChain nodes slot before (place ∷ rest) after =
    (node_of nodes place.key ≡ Some (node_at slot before place.called (first_or after rest)))
    × (has_key place.key rest ≡ false)
    × IsChain nodes slot (Some place.key) rest after

-- a queue without calls
abbrev pub no_queue : Queue
no_queue = record { first = None; last = None; len = 0 }

-- the calls of these places wait at a slot
pub record IsQueue (nodes : List (Option Node)) (slot : ℕ) (queue : Queue) (places : List Place) : Type 0 where
  pub len : queue.len ≡ length places
  pub first : queue.first ≡ first_or None places
  pub last : queue.last ≡ last_or None places
  pub chain : IsChain nodes slot None places None

-- each key of a caller leads to its node, and each node's caller has the node's key
pub record AreOwn (nodes : List (Option Node)) (keys : List (Option ℕ)) : Type 0 where
  pub leads : (caller key : ℕ) → key_of keys caller ≡ Some key → option_map (λ (node : Node). node.caller) (node_of nodes key) ≡ Some caller
  pub back : (key : ℕ) (node : Node) → node_of nodes key ≡ Some node → key_of keys node.caller ≡ Some key

-- each slot has its queue, exactly the waiting tasks have nodes, and there are as many nodes as waiting
-- calls; so no queue is longer than there are tasks
pub record AreLinked (nodes : List (Option Node)) (keys : List (Option ℕ)) (queues : List Queue) : Type 0 where
  pub each : (slot : ℕ) → slot < length queues → (places : List Place) × IsQueue nodes slot (slice_index_or queues slot no_queue) places
  pub own : AreOwn nodes keys
  pub waiting : (task : ℕ) → is_some (key_of keys task) ≡ waits task (map (calls_in nodes) queues)
  pub total : sum_by (λ (queue : Queue). queue.len) queues ≡ count_by is_some keys
  pub few : length keys ≤ MOST_TASKS

-- the nodes with another link to what stands after one
abbrev pub relinked_after : Option ℕ → Option ℕ → List (Option Node) → List (Option Node)
relinked_after None after nodes = nodes
relinked_after (Some key) after nodes = slice_set nodes key (option_map (λ (node : Node). record node { after = after }) (node_of nodes key))

-- the nodes with another link to what stands before one
abbrev pub relinked_before : Option ℕ → Option ℕ → List (Option Node) → List (Option Node)
relinked_before None before nodes = nodes
relinked_before (Some key) before nodes = slice_set nodes key (option_map (λ (node : Node). record node { before = before }) (node_of nodes key))

-- the nodes with two linked to one another
abbrev pub joined : Option ℕ → Option ℕ → List (Option Node) → List (Option Node)
joined before after nodes = relinked_before after before (relinked_after before after nodes)
