-- The call that has waited longest.
use Rattle.std.proofs.Common.{◌≡◌, ℕ, ◌<◌, List, [], ◌∷◌, length, get_or, map, Option, Some, None, refl, sym, ◌∙◌}
use Rattle.std.specs.Option.{option_map}
use Rattle.ada_tables.specs.declared.nodes.Node.{Node}
use Rattle.ada_tables.specs.declared.queues.Queue.{Queue}
use Rattle.ada_tables.specs.Nodes.{node_of}
use Rattle.ada_tables.specs.Queues.{queue_at, front_call}
use Rattle.ada_tables.specs.Links.{calls_in}
use Rattle.ada_tables.specs.internal.Links.{Place, calls_of, first_or, IsChain, AreLinked, no_queue}
use Rattle.std.proofs.lemmas.List.{length-map, get_or_read}
use Rattle.ada_tables.proofs.Linking.{calls_at, queue_calls}

front_in : (nodes : List (Option Node)) (slot : ℕ) (before : Option ℕ) (places : List Place) (key : ℕ) → IsChain nodes slot before places None
    → first_or None places ≡ Some key → option_map (λ (node : Node). node.call) (node_of nodes key) ≡ front_call (calls_of places)
unfolding IsChain
front_in nodes slot before [] key chain first = absurd (cc)
front_in nodes slot before (place ∷ rest) key chain first =
    let here : key ≡ place.key = cc in
    rw (here, chain.0) refl

-- the front is the call of the first node
pub front_found : (nodes : List (Option Node)) (keys : List (Option ℕ)) (queues : List Queue) (slot key : ℕ) → AreLinked nodes keys queues
    → slot < length queues → (get_or queues slot no_queue).first ≡ Some key
    → option_map (λ (node : Node). node.call) (node_of nodes key) ≡ front_call (queue_at (map (calls_in nodes) queues) slot)
front_found nodes keys queues slot key linked within first =
    let each = linked.each slot within in
    rw (calls_at nodes queues slot within, queue_calls nodes slot _ each.0 each.1)
    (front_in nodes slot None each.0 key each.1.chain (sym each.1.first ∙ first))

-- a queue without a first node is empty
pub front_none : (nodes : List (Option Node)) (keys : List (Option ℕ)) (queues : List Queue) (slot : ℕ) → AreLinked nodes keys queues
    → slot < length queues → (get_or queues slot no_queue).first ≡ None → None ≡ front_call (queue_at (map (calls_in nodes) queues) slot)
front_none nodes keys queues slot linked within first =
    let each = linked.each slot within in
    rw (calls_at nodes queues slot within, queue_calls nodes slot _ each.0 each.1) (at each.0 (sym each.1.first ∙ first))
  where
    at : (places : List Place) → first_or None places ≡ None → None ≡ front_call (calls_of places)
    at [] none = refl
    at (place ∷ rest) none = absurd (cc)

-- a queue's length is how many calls wait there
pub len_found : (nodes : List (Option Node)) (keys : List (Option ℕ)) (queues : List Queue) (slot : ℕ) (read : Queue) → AreLinked nodes keys queues
    → slot < length queues → read ≡ get_or queues slot read → read.len ≡ length (queue_at (map (calls_in nodes) queues) slot)
len_found nodes keys queues slot read linked within read_is =
    let each = linked.each slot within in
    rw (get_or_read queues slot read within read_is no_queue, calls_at nodes queues slot within, queue_calls nodes slot _ each.0 each.1)
    (each.1.len ∙ sym (length-map each.0 (λ (place : Place). place.called)))
