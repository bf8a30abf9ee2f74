-- A call that comes last in a queue.
use Rattle.std.proofs.Common.{◌≡◌, ◌≢◌, ℕ, ◌+◌, ◌<◌, true, false, ◌||◌, List, [], ◌∷◌, ◌++◌, length, get_or, set, map, Option, Some, None}
use Rattle.std.proofs.Common.{is_some, cond, refl, ap, sym, subst, ◌∙◌, inl, inr, arith, length-append}
use Rattle.std.specs.Prelude.{◌==◌}
use Rattle.std.specs.Option.{option_or, ForSome}
use Rattle.std.proofs.Math.Bool.{or-false}
use Rattle.std.proofs.lemmas.Bool.{cases_eq, eq-eqb, ne_eqb, or_left, or_right, or_from, false_from_ne_true}
use Rattle.std.proofs.lemmas.List.{map-append, length-set, length-map, get_or-set_same, get_or-set_other}
use Rattle.std.proofs.lemmas.List.Folds.{list_any-append, list_any_at}
use Rattle.std.proofs.lemmas.List.Sums.{sum_by-set}
use Rattle.ada_tables.specs.declared.nodes.Node.{Node}
use Rattle.ada_tables.specs.declared.queues.Queue.{Queue}
use Rattle.ada_tables.specs.Nodes.{node_of}
use Rattle.ada_tables.specs.internal.Nodes.{key_of}
use Rattle.ada_tables.specs.Queues.{QueuedCall, queue_at, is_by, waits_in, waits, with_last}
use Rattle.ada_tables.specs.Links.{calls_in}
use Rattle.ada_tables.specs.internal.Links.{Place, has_key, first_or, last_or, node_at, IsChain, IsQueue, AreOwn, AreLinked, no_queue, relinked_after}
use Rattle.ada_tables.proofs.Chains.{chain_agrees, chain_slot, chain_pushed, not_last, last_stands, chain_has}
use Rattle.ada_tables.proofs.Linking.{KeepsOthers, each_changed, calls_changed, queue_calls, relinked_after_callers, own_kept, list_any-set, calls_at}
use Rattle.ada_tables.proofs.Linking.{idle_key}
use Rattle.ada_tables.proofs.Chains.{relinked_after_other}

last_or-push : (before : Option ℕ) (places : List Place) (place : Place) → last_or before (places ++ place ∷ []) ≡ Some place.key
last_or-push before [] place = refl
last_or-push before (first ∷ rest) place = last_or-push (Some first.key) rest place

first_or-push : (places : List Place) (place : Place) → option_or (first_or None places) (Some place.key) ≡ first_or None (places ++ place ∷ [])
first_or-push [] place = refl
first_or-push (first ∷ rest) place = refl

-- the node of a call that comes last in a queue
abbrev pub node_after : Queue → ℕ → ℕ → ℕ → Node
node_after queue by slot call = record { call = call; caller = by; slot = slot; before = queue.last; after = None }

module _ (nodes with_node : List (Option Node)) (keys : List (Option ℕ)) (queues : List Queue) (by slot call key : ℕ) (linked : AreLinked nodes keys queues)
    (known : by < length keys) (within : slot < length queues) (idle : waits by (map (calls_in nodes) queues) ≡ false)
    (vacant : node_of nodes key ≡ None) (here : node_of with_node key ≡ Some (node_after (get_or queues slot no_queue) by slot call))
    (others : (other : ℕ) → other ≢ key → node_of with_node other ≡ node_of nodes other) where
  abbrev pub was : Queue
  was = get_or queues slot no_queue

  abbrev places : List Place
  places = (linked.each slot within).0

  is : IsQueue nodes slot was places
  is = (linked.each slot within).1

  abbrev called : QueuedCall
  called = record { call = call; caller = by }

  abbrev new : Place
  new = record { key = key; called = called }

  abbrev pub after : List (Option Node)
  after = relinked_after was.last (Some key) with_node

  abbrev pub with_key : List (Option ℕ)
  with_key = set keys by (Some key)

  abbrev pub queue : Queue
  queue = record { first = option_or was.first (Some key); last = Some key; len = was.len + 1 }

  other_key : (at : ℕ) → has_key at places ≡ true → at ≢ key
  other_key at stands same =
      let has = chain_has nodes slot None places None at is.chain stands in
      let none = rw (same, vacant) at has in
      absurd (cc)

  absent : has_key key places ≡ false
  absent = false_from_ne_true _ (λ stands. other_key key stands refl)

  is_queue : IsQueue after slot queue (places ++ new ∷ [])
  is_queue =
      let front : IsChain with_node slot None places None = chain_agrees nodes with_node slot None places None
      (λ at stands. others at (other_key at stands)) is.chain in
      let node : node_of with_node key ≡ Some (node_at slot (last_or None places) called None) = here ∙ ap (λ link. Some (node_at slot link called None))
      is.last in
      let whole = chain_pushed with_node slot places new front node absent in
      record {
        len = omega (arith, is.len, length-append places (new ∷ []));
        first = ap (λ link. option_or link (Some key)) is.first ∙ first_or-push places new;
        last = sym (last_or-push None places new);
        chain = subst (λ link. IsChain (relinked_after link (Some key) with_node) slot None (places ++ new ∷ []) None) (sym is.last) whole;
      }

  keeps : KeepsOthers slot nodes after
  keeps at other has differs =
      let elsewhere : has_key at places ≡ false = false_from_ne_true _
      (λ stands. differs (let there = chain_slot nodes slot None places None at is.chain stands in cc)) in
      let apart : at ≢ key = λ same. let none = rw (same, vacant) at has in absurd (cc) in
      relinked_after_other with_node was.last (Some key) at (rw is.last (not_last places at elsewhere)) ∙ others at apart

  pub arrived_calls : map (calls_in after) (set queues slot queue) ≡ with_last slot called (map (calls_in nodes) queues)
  arrived_calls =
      calls_changed nodes after keys queues slot queue (places ++ new ∷ []) linked within keeps is_queue
      ∙ ap (set (map (calls_in nodes) queues) slot)
      (map-append (λ (place : Place). place.called) places (new ∷ [])
      ∙ ap (λ (front : List QueuedCall). front ++ called ∷ []) (sym (calls_at nodes queues slot within ∙ queue_calls nodes slot was places is)))

  own_with : AreOwn with_node with_key
  own_with =
      record {
        leads = λ caller at has. elim (cases_eq caller by) [
          | inl same ↦
              let there : Some key ≡ Some at = sym (get_or-set_same keys by (Some key) None known) ∙ (rw same at has) in
              let alike : at ≡ key = cc in
              rw (alike, here) (ap Some (sym same))
          | inr differs ↦
              let led = linked.own.leads caller at (sym (get_or-set_other keys by caller (Some key) None differs) ∙ has) in
              let apart : at ≢ key = λ same. let none = rw (same, vacant) at led in absurd (cc) in
              rw (others at apart) led
        ];
        back = λ at node has. elim (cases_eq at key) [
          | inl same ↦
              let there : Some (node_after (get_or queues slot no_queue) by slot call) ≡ Some node = sym here ∙ (rw same at has) in
              let whose : node.caller ≡ by = cc in
              rw (whose, same) (get_or-set_same keys by (Some key) None known)
          | inr differs ↦
              let led = linked.own.back at node (sym (others at differs) ∙ has) in
              let apart : node.caller ≢ by = λ same.
              let none = rw (same, idle_key nodes keys queues by linked idle) at led in absurd (cc) in
              get_or-set_other keys by node.caller (Some key) None apart ∙ led
        ];
      }

  waiting_now : (task : ℕ) → is_some (key_of with_key task) ≡ waits task (with_last slot called (map (calls_in nodes) queues))
  waiting_now task =
      elim (cases_eq task by) [
        | inl same ↦
            let low : slot < length (map (calls_in nodes) queues) = rw length-map within in
            let ends : waits_in by (queue_at (map (calls_in nodes) queues) slot ++ called ∷ [])
            ≡ true = list_any-append (is_by by) (queue_at (map (calls_in nodes) queues) slot) (called ∷ []) ∙ or_right _ _ (first_waits called) in
            rw (same, get_or-set_same keys by (Some key) None known)
            (sym (list_any_at (waits_in by) (set (map (calls_in nodes) queues) slot (queue_at (map (calls_in nodes) queues) slot ++ called ∷ [])) slot []
            (rw length-set low) (rw (get_or-set_same (map (calls_in nodes) queues) slot (queue_at (map (calls_in nodes) queues) slot ++ called ∷ [])
            [] low) ends)))
        | inr differs ↦
            let low : slot < length (map (calls_in nodes) queues) = rw length-map within in
            ap is_some (get_or-set_other keys by task (Some key) None differs)
            ∙ linked.waiting task
            ∙ sym (list_any-set (waits_in task) (map (calls_in nodes) queues) slot (queue_at (map (calls_in nodes) queues) slot ++ called ∷ []) [] low
            (list_any-append (is_by task) (queue_at (map (calls_in nodes) queues) slot) (called ∷ [])
            ∙ ap (λ b. waits_in task (queue_at (map (calls_in nodes) queues) slot) || b)
            (or_from (by == task) false (ne_eqb by task (λ same. differs (sym same))) refl)
            ∙ or-false (waits_in task (queue_at (map (calls_in nodes) queues) slot))))
      ]
    where
      first_waits : (call : QueuedCall) → waits_in call.caller (call ∷ []) ≡ true
      first_waits call = or_left (call.caller == call.caller) false (eq-eqb _ _ refl)

  pub arrived_linked : AreLinked after with_key (set queues slot queue)
  arrived_linked =
      record {
        each = each_changed nodes after keys queues slot queue (places ++ new ∷ []) linked within keeps is_queue;
        own = own_kept with_node after with_key (relinked_after_callers was.last (Some key) with_node) own_with;
        waiting = λ task. rw arrived_calls (waiting_now task);
        total =
            let lens = sum_by-set (λ (q : Queue). q.len) queues slot queue no_queue within in
            let counts = sum_by-set (λ (at : Option ℕ). cond (is_some at) 1 0) keys by (Some key) None known in
            let none = rw (idle_key nodes keys queues by linked idle) at counts in
            omega (arith, linked.total);
        few = rw length-set linked.few;
      }

  -- the one that was last has its node
  pub last_has : ForSome was.last (λ at. is_some (node_of with_node at) ≡ true)
  last_has at last =
      let stands = last_stands places at (sym is.last ∙ last) in
      ap is_some (others at (other_key at stands)) ∙ chain_has nodes slot None places None at is.chain stands
