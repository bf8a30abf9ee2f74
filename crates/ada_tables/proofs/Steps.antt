-- What each call does to nodes and queues, as a contract sees them.
use Rattle.std.proofs.Common.{◌≡◌, ℕ, ◌+◌, ◌-◌, ◌<◌, ◌≤◌, true, false, List, [], ◌∷◌, ◌++◌, length, get_or, set, map, Option, Some, None, IsSome, is_some}
use Rattle.std.proofs.Common.{refl, ap, sym, ◌∙◌, arith, length-append, replicate, take}
use Rattle.std.specs.Option.{option_or, option_and_then, ForSome}
use Rattle.std.proofs.lemmas.List.{length-set, get_or_read, take_all}
use Rattle.slab.specs.Slab.{get, slab_len, HasRoomFor, Updates}
use Rattle.ada_tables.specs.declared.nodes.Node.{Node}
use Rattle.ada_tables.specs.declared.queues.Queue.{Queue}
use Rattle.ada_tables.specs.Nodes.{KeptNodes, node_of}
use Rattle.ada_tables.specs.internal.Nodes.{key_of}
use Rattle.ada_tables.specs.Queues.{QueuedCall, waits, with_last, without, Waiting}
use Rattle.ada_tables.specs.Links.{calls_in}
use Rattle.ada_tables.specs.internal.Links.{AreLinked, no_queue, relinked_after, joined}
use Rattle.ada_tables.proofs.Linking.{relinked_after_callers, joined_callers, some_node}
use Rattle.ada_tables.proofs.Arriving.{node_after, arrived_calls, arrived_linked, last_has}
use Rattle.ada_tables.proofs.Leaving.{Leaves, left_queue, leaves}
use Rattle.ada_tables.proofs.Growing.{grown_calls, grown_linked}

-- what a contract sees of nodes and queues
abbrev pub waiting : KeptNodes → List Queue → Waiting
waiting kept queues =
    record { queues = map (calls_in kept.slab.slots) queues; callers = length kept.keys; spare = kept.slab.capacity - slab_len kept.slab }

abbrev waiting_of : List (List QueuedCall) → ℕ → ℕ → Waiting
waiting_of queues callers spare = record { queues = queues; callers = callers; spare = spare }

same_waiting : (a b : Waiting) → a.queues ≡ b.queues → a.callers ≡ b.callers → a.spare ≡ b.spare → a ≡ b
same_waiting a b queues callers spare =
    ap (λ q. waiting_of q a.callers a.spare) queues ∙ ap (λ c. waiting_of b.queues c a.spare) callers ∙ ap (waiting_of b.queues b.callers) spare

-- all that is needed of a node that was put in after another
pub record Inserted (kept once : KeptNodes) (key : ℕ) (node : Node) : Type 0 where
  pub vacant : get kept.slab key ≡ None
  pub nodes : Updates kept.slab once.slab key (Some node)
  pub keys : once.keys ≡ set kept.keys node.caller (Some key)
  pub len : slab_len once.slab ≡ slab_len kept.slab + 1
  pub capacity : once.slab.capacity ≡ kept.slab.capacity

module _ (kept once : KeptNodes) (queues : List Queue) (read : Queue) (by slot call key : ℕ) (linked : AreLinked kept.slab.slots kept.keys queues)
    (known : by < length kept.keys) (within : slot < length queues) (idle : waits by (map (calls_in kept.slab.slots) queues) ≡ false)
    (read_is : read ≡ get_or queues slot read) (inserted : Inserted kept once key (node_after read by slot call)) where
  there : read ≡ get_or queues slot no_queue
  there = get_or_read queues slot read within read_is no_queue

  here : node_of once.slab.slots key ≡ Some (node_after (get_or queues slot no_queue) by slot call)
  here = inserted.nodes.changed ∙ ap (λ (q : Queue). Some (node_after q by slot call)) there

  -- a call is put last
  pub enqueued : (twice : KeptNodes) (ends : Queue) → ends ≡ record { first = option_or read.first (Some key); last = Some key; len = read.len + 1 }
      → twice ≡ record once { slab = record once.slab { slots = relinked_after read.last (Some key) once.slab.slots } }
      → AreLinked twice.slab.slots twice.keys (set queues slot ends) × (waiting twice (set queues slot ends)
      ≡ record (waiting kept queues) {
        queues = with_last slot (record { call = call; caller = by }) (map (calls_in kept.slab.slots) queues);
        spare = (waiting kept queues).spare - 1;
      })
  enqueued twice ends ends_is twice_is =
      let callers = relinked_after_callers (get_or queues slot no_queue).last (Some key) once.slab.slots in
      let vacant = inserted.vacant in
      let others = inserted.nodes.others in
      rw (twice_is, ends_is, there, inserted.keys) (
        arrived_linked kept.slab.slots once.slab.slots kept.keys queues by slot call key linked known within idle vacant here others,
        same_waiting _ _
            (arrived_calls kept.slab.slots once.slab.slots kept.keys queues by slot call key linked known within idle vacant here others)
            (length-set kept.keys by (Some key))
            (omega (arith, inserted.len, inserted.capacity, callers.count)),
      )

  -- the last node before is there
  pub last_known : ForSome read.last (λ at. is_some (node_of once.slab.slots at) ≡ true)
  last_known =
      rw there (last_has kept.slab.slots once.slab.slots kept.keys queues by slot call key linked known within idle inserted.vacant here inserted.nodes.others)

-- who waits has a node
pub has_node : (kept : KeptNodes) (queues : List Queue) (by : ℕ) → AreLinked kept.slab.slots kept.keys queues
    → waits by (map (calls_in kept.slab.slots) queues) ≡ true → IsSome (option_and_then (get kept.slab) (key_of kept.keys by))
has_node kept queues by linked waiting = at (key_of kept.keys by) refl (linked.waiting by ∙ waiting)
  where
    at : (key : Option ℕ) → key_of kept.keys by ≡ key → is_some key ≡ true → IsSome (option_and_then (get kept.slab) key)
    at None is some = absurd (cc)
    at (Some key) is some = let found = some_node (node_of kept.slab.slots key) by (linked.own.leads by key is) in rw found.1 refl

-- what follows where the task with this node leaves
pub taken : (kept : KeptNodes) (queues : List Queue) (by : ℕ) (node : Node) → AreLinked kept.slab.slots kept.keys queues
    → waits by (map (calls_in kept.slab.slots) queues) ≡ true → option_and_then (get kept.slab) (key_of kept.keys by) ≡ Some node
    → (key : ℕ) × (key_of kept.keys by ≡ Some key) × Leaves kept.slab.slots kept.keys queues by key node
taken kept queues by node linked waiting has = at (key_of kept.keys by) refl has
  where
    at : (key : Option ℕ) → key_of kept.keys by ≡ key → option_and_then (get kept.slab) key ≡ Some node
        → (key : ℕ) × (key_of kept.keys by ≡ Some key) × Leaves kept.slab.slots kept.keys queues by key node
    at None is found = absurd (cc)
    at (Some key) is found = (key, is, leaves kept.slab.slots kept.keys queues by key node linked waiting is found)

-- all that is needed of a task's node that was taken out
pub record Removed (kept once : KeptNodes) (by : ℕ) : Type 0 where
  pub nodes : ForSome (key_of kept.keys by) (λ key. once.slab.slots ≡ set kept.slab.slots key None)
  pub keys : once.keys ≡ set kept.keys by None
  pub len : slab_len once.slab + 1 ≡ slab_len kept.slab
  pub room : HasRoomFor once.slab 1
  pub capacity : once.slab.capacity ≡ kept.slab.capacity

module _ (kept once : KeptNodes) (queues : List Queue) (read : Queue) (by key : ℕ) (node : Node) (keyed : key_of kept.keys by ≡ Some key)
    (leave : Leaves kept.slab.slots kept.keys queues by key node) (read_is : read ≡ get_or queues node.slot read) where
  spot : read ≡ get_or queues node.slot no_queue
  spot = get_or_read queues node.slot read leave.within read_is no_queue

  -- its queue isn't empty
  pub longer_read : 0 < read.len
  longer_read = rw spot leave.longer

  module _ (removed : Removed kept once by) where
    gone : once.slab.slots ≡ set kept.slab.slots key None
    gone = removed.nodes key keyed

    -- its neighbours have nodes
    pub before_known : ForSome node.before (λ at. is_some (node_of once.slab.slots at) ≡ true)
    before_known = rw gone leave.before

    pub after_known : ForSome node.after (λ at. is_some (node_of once.slab.slots at) ≡ true)
    after_known = rw gone leave.after

    -- a call is taken out
    pub unlinked : (twice : KeptNodes) (ends : Queue) → ends ≡ left_queue read node
        → twice ≡ record once { slab = record once.slab { slots = joined node.before node.after once.slab.slots } }
        → AreLinked twice.slab.slots twice.keys (set queues node.slot ends)
        × (waiting twice (set queues node.slot ends) ≡ record (waiting kept queues) {
          queues = without by (map (calls_in kept.slab.slots) queues);
          spare = (waiting kept queues).spare + 1;
        })
    unlinked twice ends ends_is twice_is =
        let callers = joined_callers node.before node.after once.slab.slots in
        let fewer : slab_len twice.slab ≡ slab_len once.slab = rw twice_is callers.count in
        let as_large : twice.slab.capacity ≡ once.slab.capacity = rw twice_is refl in
        let slots : twice.slab.slots ≡ joined node.before node.after (set kept.slab.slots key None) = rw (twice_is, gone) refl in
        let keys : twice.keys ≡ set kept.keys by None = rw twice_is removed.keys in
        let end : ends ≡ left_queue (get_or queues node.slot no_queue) node = rw (ends_is, spot) refl in (
          rw (slots, keys, end) leave.linked,
          same_waiting _ _
              (rw (slots, end) leave.calls)
              (rw keys (length-set kept.keys by None))
              (omega (arith, removed.len, removed.room, removed.capacity, fewer, as_large)),
        )

-- a task that may call is added
pub grown : (kept once : KeptNodes) (queues grown : List Queue) (many : ℕ) → AreLinked kept.slab.slots kept.keys queues → length kept.keys < 256
    → once ≡ record kept { keys = kept.keys ++ None ∷ [] }
    → grown ≡ queues ++ replicate many no_queue
    → AreLinked once.slab.slots once.keys grown × (waiting once grown
    ≡ record (waiting kept queues) { queues = map (calls_in kept.slab.slots) queues ++ replicate many []; callers = length kept.keys + 1 })
grown kept once queues longer many linked few once_is grown_is =
    rw (once_is, grown_is) (
      grown_linked kept.slab.slots kept.keys queues many linked few,
      same_waiting _ _ (grown_calls kept.slab.slots kept.keys queues many linked) (length-append kept.keys (None ∷ [])) refl,
    )

-- the queues with some more without calls
pub resized : (queues kept longer : List Queue) (many len all : ℕ) → kept ≡ queues → longer ≡ take all kept ++ replicate (all - len) no_queue
    → len ≡ length queues → all ≡ len + many → longer ≡ queues ++ replicate many no_queue
resized queues kept longer many len all kept_is longer_is len_is all_is =
    let more : all - len ≡ many = omega arith in
    let fits : length queues ≤ all = omega arith in
    longer_is ∙ rw (kept_is, take_all all queues fits, more) refl

-- what is read of the first node's key
pub first_read : (queues : List Queue) (slot : ℕ) (read : Queue) (key : Option ℕ) → slot < length queues → read ≡ get_or queues slot read
    → read.first ≡ key → (get_or queues slot no_queue).first ≡ key
first_read queues slot read key within read_is first = ap (λ (q : Queue). q.first) (sym (get_or_read queues slot read within read_is no_queue)) ∙ first
