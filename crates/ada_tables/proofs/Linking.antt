-- One queue changes, and all stay linked.
use Rattle.std.proofs.Common.{◌≡◌, ◌≢◌, ℕ, zero, suc, ◌<◌, Bool, true, false, ◌||◌, List, [], ◌∷◌, length, get_or, set, map, Option, Some, None, is_some, cond}
use Rattle.std.proofs.Common.{count_by, refl, ap, sym, ◌∙◌, inl, inr, arith}
use Rattle.std.specs.List.{list_any}
use Rattle.std.specs.Option.{option_map}
use Rattle.std.proofs.lemmas.Bool.{cases_eq, cases_lt, or_cases}
use Rattle.std.proofs.lemmas.List.{map-set, length-set, length-map, ext_get_or, get_or-set_same, get_or-set_other, set_past, get_or-map}
use Rattle.std.proofs.lemmas.List.Sums.{sum_by-set}
use Rattle.ada_tables.specs.declared.nodes.Node.{Node}
use Rattle.ada_tables.specs.declared.queues.Queue.{Queue}
use Rattle.ada_tables.specs.Nodes.{node_of}
use Rattle.ada_tables.specs.internal.Nodes.{key_of}
use Rattle.ada_tables.specs.Queues.{queue_at, waits}
use Rattle.ada_tables.specs.Links.{calls_in}
use Rattle.ada_tables.specs.internal.Links.{Place, calls_of, IsQueue, AreOwn, AreLinked, no_queue, relinked_after, relinked_before, joined}
use Rattle.ada_tables.proofs.Chains.{chain_agrees, chain_slot, followed_chain, changed, changed_same, changed_other, relinked_after_other}
use Rattle.ada_tables.proofs.Chains.{relinked_before_other}

-- each node at another slot stays
abbrev pub KeepsOthers : ℕ → List (Option Node) → List (Option Node) → Type 0
KeepsOthers slot old new =
    (key other : ℕ) → option_map (λ (node : Node). node.slot) (node_of old key) ≡ Some other → other ≢ slot → node_of new key ≡ node_of old key

-- the calls of a queue are those of its places
pub queue_calls : (nodes : List (Option Node)) (slot : ℕ) (queue : Queue) (places : List Place) → IsQueue nodes slot queue places
    → calls_in nodes queue ≡ calls_of places
queue_calls nodes slot queue places is = rw (is.len, is.first) (followed_chain nodes slot None places is.chain)

module _ (nodes new : List (Option Node)) (keys : List (Option ℕ)) (queues : List Queue) (slot : ℕ) (queue : Queue) (places : List Place)
    (linked : AreLinked nodes keys queues) (within : slot < length queues) (keeps : KeepsOthers slot nodes new) (is : IsQueue new slot queue places) where
  other_stays : (at : ℕ) (low : at < length queues) → at ≢ slot → IsQueue new at (get_or queues at no_queue) (linked.each at low).0
  other_stays at low differs =
      let was = (linked.each at low).1 in
      record {
        len = was.len;
        first = was.first;
        last = was.last;
        chain = chain_agrees nodes new at None _ None
            (λ key stands. keeps key at (chain_slot nodes at None _ None key was.chain stands) differs)
            was.chain;
      }

  pub each_changed : (at : ℕ) → at < length (set queues slot queue) → (some : List Place) × IsQueue new at (get_or (set queues slot queue) at no_queue) some
  each_changed at low =
      elim (cases_eq at slot) [
        | inl same ↦ (places, rw (same, get_or-set_same queues slot queue no_queue within) is)
        | inr differs ↦
            let below : at < length queues = rw length-set at low in
            ((linked.each at below).0, rw (get_or-set_other queues slot at queue no_queue differs) (other_stays at below differs))
      ]

  pub calls_changed : map (calls_in new) (set queues slot queue) ≡ set (map (calls_in nodes) queues) slot (calls_of places)
  calls_changed =
      map-set (calls_in new) queues slot queue
      ∙ ap (set (map (calls_in new) queues) slot) (queue_calls new slot queue places is)
      ∙ ext_get_or [] _ _
      (length-set (map (calls_in new) queues) slot (calls_of places) ∙ length-map queues (calls_in new) ∙ sym (length-map queues (calls_in nodes))
      ∙ sym (length-set (map (calls_in nodes) queues) slot (calls_of places)))
      (λ at low. place at (simp (length-set, length-map) at low))
    where
      place : (at : ℕ) → at < length queues → get_or (set (map (calls_in new) queues) slot (calls_of places)) at []
          ≡ get_or (set (map (calls_in nodes) queues) slot (calls_of places)) at []
      place at low =
          elim (cases_eq at slot) [
            | inl same ↦
                let here : slot < length (map (calls_in new) queues) = rw length-map within in
                let there : slot < length (map (calls_in nodes) queues) = rw length-map within in
                rw (
                  same,
                  get_or-set_same (map (calls_in new) queues) slot (calls_of places) [] here,
                  get_or-set_same (map (calls_in nodes) queues) slot (calls_of places) []
                      there,
                ) refl
            | inr differs ↦
                rw (
                  get_or-set_other (map (calls_in new) queues) slot at (calls_of places) [] differs,
                  get_or-set_other (map (calls_in nodes) queues) slot at (calls_of places) []
                      differs,
                  get_or-map (calls_in new) queues at no_queue [] low,
                  get_or-map (calls_in nodes) queues at no_queue [] low,
                )
                (queue_calls new at _ _ (other_stays at low differs) ∙ sym (queue_calls nodes at _ _ (linked.each at low).1))
          ]

-- the caller of a node, if there is one
abbrev pub caller_of : Option Node → Option ℕ
caller_of node = option_map (λ (node : Node). node.caller) node

-- each key leads to a node of the same caller, and there are as many nodes
pub record SameCallers (old new : List (Option Node)) : Type 0 where
  pub callers : (key : ℕ) → caller_of (node_of new key) ≡ caller_of (node_of old key)
  pub count : count_by is_some new ≡ count_by is_some old

module _ (change : Node → Node) (keeps : (node : Node) → (change node).caller ≡ node.caller) where
  caller-map : (node : Option Node) → caller_of (option_map change node) ≡ caller_of node
  caller-map None = refl
  caller-map (Some node) = ap Some (keeps node)

  is_some-map : (node : Option Node) → is_some (option_map change node) ≡ is_some node
  is_some-map None = refl
  is_some-map (Some node) = refl

  -- a change of a node's links keeps the callers
  callers-changed : (nodes : List (Option Node)) (at : ℕ) → SameCallers nodes (changed nodes change at)
  callers-changed nodes at =
      record {
        callers = λ key. elim (cases_eq key at) [
          | inl same ↦ rw same (ap caller_of (changed_same nodes change at) ∙ caller-map (node_of nodes at))
          | inr differs ↦ ap caller_of (changed_other nodes change at key differs)
        ];
        count = elim (cases_lt at (length nodes)) [
          | inl within ↦
              let moved = sum_by-set (λ (node : Option Node). cond (is_some node) 1 0) nodes at (option_map change (node_of nodes at)) None within in
              omega (arith, rw (is_some-map (node_of nodes at)) at moved)
          | inr past ↦ ap (count_by is_some) (set_past nodes at (option_map change (node_of nodes at)) past)
        ];
      }

pub relinked_after_callers : (link after : Option ℕ) (nodes : List (Option Node)) → SameCallers nodes (relinked_after link after nodes)
relinked_after_callers None after nodes = record { callers = λ key. refl; count = refl }
relinked_after_callers (Some at) after nodes = callers-changed (λ node. record node { after = after }) (λ node. refl) nodes at

relinked_before_callers : (link before : Option ℕ) (nodes : List (Option Node)) → SameCallers nodes (relinked_before link before nodes)
relinked_before_callers None before nodes = record { callers = λ key. refl; count = refl }
relinked_before_callers (Some at) before nodes = callers-changed (λ node. record node { before = before }) (λ node. refl) nodes at

pub joined_callers : (before after : Option ℕ) (nodes : List (Option Node)) → SameCallers nodes (joined before after nodes)
joined_callers before after nodes =
    let once = relinked_after_callers before after nodes in
    let twice = relinked_before_callers after before (relinked_after before after nodes) in
    record { callers = λ key. twice.callers key ∙ once.callers key; count = twice.count ∙ once.count }

pub some_node : (node : Option Node) (caller : ℕ) → caller_of node ≡ Some caller → (found : Node) × (node ≡ Some found) × (found.caller ≡ caller)
some_node None caller is = absurd (cc)
some_node (Some node) caller is = (node, refl, cc)

-- whose callers stay keeps its keys
pub own_kept : (old new : List (Option Node)) (keys : List (Option ℕ)) → SameCallers old new → AreOwn old keys → AreOwn new keys
own_kept old new keys same own =
    record {
      leads = λ caller key has. same.callers key ∙ own.leads caller key has;
      back = λ key node has.
          let found = some_node (node_of old key) node.caller (sym (same.callers key) ∙ ap caller_of has) in
          ap (key_of keys) (sym found.2) ∙ own.back key found.0 found.1;
    }

-- a key at neither of two links keeps its node
pub joined_other : (before after : Option ℕ) (nodes : List (Option Node)) (key : ℕ) → before ≢ Some key → after ≢ Some key
    → node_of (joined before after nodes) key ≡ node_of nodes key
joined_other before after nodes key apart_before apart_after =
    relinked_before_other (relinked_after before after nodes) after before key apart_after
    ∙ relinked_after_other nodes before after key apart_before

pub list_any-set : {X : Type 0} (test : X → Bool) (xs : List X) (at : ℕ) (y d : X) → at < length xs → test y ≡ test (get_or xs at d)
    → list_any test (set xs at y) ≡ list_any test xs
list_any-set test [] at y d within same = absurd (omega arith)
list_any-set test (x ∷ xs) zero y d within same = ap (λ b. b || list_any test xs) same
list_any-set test (x ∷ xs) (suc at) y d within same = ap (λ b. test x || b) (list_any-set test xs at y d (omega arith) same)

pub any_place : {X : Type 0} (test : X → Bool) (xs : List X) (d : X) → list_any test xs ≡ true → (at : ℕ) × (at < length xs) × (test (get_or xs at d) ≡ true)
any_place test [] d some = absurd (cc)
any_place test (x ∷ xs) d some =
    elim (or_cases (test x) (list_any test xs) some) [
      | inl here ↦ (0, omega arith, here)
      | inr later ↦ let found = any_place test xs d later in (suc found.0, omega (arith, found.1), found.2)
    ]

-- the calls that wait at a slot
pub calls_at : (nodes : List (Option Node)) (queues : List Queue) (slot : ℕ) → slot < length queues
    → queue_at (map (calls_in nodes) queues) slot ≡ calls_in nodes (get_or queues slot no_queue)
calls_at nodes queues slot within = get_or-map (calls_in nodes) queues slot no_queue [] within

no_key : (key : Option ℕ) → is_some key ≡ false → key ≡ None
no_key None none = refl
no_key (Some key) none = absurd (cc)

-- who waits nowhere has no node
pub idle_key : (nodes : List (Option Node)) (keys : List (Option ℕ)) (queues : List Queue) (task : ℕ) → AreLinked nodes keys queues
    → waits task (map (calls_in nodes) queues) ≡ false → key_of keys task ≡ None
idle_key nodes keys queues task linked idle = no_key _ (linked.waiting task ∙ idle)

-- who has a node is known
pub key_within : (keys : List (Option ℕ)) (caller : ℕ) → is_some (key_of keys caller) ≡ true → caller < length keys
key_within [] caller has = absurd (cc)
key_within (first ∷ rest) zero has = omega arith
key_within (first ∷ rest) (suc caller) has = omega (arith, key_within rest caller has)

-- a key that has a node is one of the slab's
pub node_within : (nodes : List (Option Node)) (key : ℕ) → is_some (node_of nodes key) ≡ true → key < length nodes
node_within [] key has = absurd (cc)
node_within (first ∷ rest) zero has = omega arith
node_within (first ∷ rest) (suc key) has = omega (arith, node_within rest key has)
