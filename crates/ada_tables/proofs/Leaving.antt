-- A call that leaves its queue.
use Rattle.std.proofs.Common.{◌≡◌, ◌≢◌, ℕ, ◌-◌, ◌<◌, true, false, not, List, [], ◌∷◌, ◌++◌, length, get_or, set, map, Option, Some, None, is_some}
use Rattle.std.proofs.Common.{is_none, cond, refl, ap, sym, subst, ◌∙◌, inl, inr, arith, length-append, append-nil}
use Rattle.std.specs.Prelude.{◌==◌, if◌then◌else◌}
use Rattle.std.specs.List.{filter}
use Rattle.std.specs.Option.{ForSome}
use Rattle.std.proofs.lemmas.Bool.{cases_eq, eq-eqb, ne_eqb, eqb-true, or_parts, or_from, both_ways, false_from_ne_true}
use Rattle.std.proofs.lemmas.List.{map-append, length-set, length-map, ext_get_or, get_or-set_same, get_or-set_other, get_or-map}
use Rattle.std.proofs.lemmas.List.Folds.{list_any-append}
use Rattle.std.proofs.lemmas.List.Sums.{sum_by-set}
use Rattle.std.proofs.lemmas.Map.Views.{any-filter_same}
use Rattle.ada_tables.specs.declared.nodes.Node.{Node}
use Rattle.ada_tables.specs.declared.queues.Queue.{Queue}
use Rattle.ada_tables.specs.Nodes.{node_of}
use Rattle.ada_tables.specs.internal.Nodes.{key_of}
use Rattle.ada_tables.specs.Queues.{QueuedCall, is_by, waits_in, waits, without}
use Rattle.ada_tables.specs.Links.{calls_in}
use Rattle.ada_tables.specs.internal.Links.{Place, calls_of, has_key, first_or, last_or, node_at, IsChain, IsQueue, AreOwn, AreLinked, no_queue, joined}
use Rattle.ada_tables.proofs.Chains.{AreApart, chain_agrees, chain_slot, chain_cut, chain_joined, chain_key, not_last, not_first, last_waits, last_stands}
use Rattle.ada_tables.proofs.Chains.{first_stands, chain_has, stands_first, standing}
use Rattle.ada_tables.proofs.Linking.{KeepsOthers, each_changed, calls_changed, queue_calls, joined_callers, joined_other, own_kept, any_place, calls_at}
use Rattle.ada_tables.proofs.Linking.{key_within, node_within}

-- a queue in which the task doesn't wait stays
filter_idle : (by : ℕ) (calls : List QueuedCall) → waits_in by calls ≡ false → filter (λ call. not (is_by by call)) calls ≡ calls
filter_idle by [] idle = refl
filter_idle by (call ∷ rest) idle =
    let parts = or_parts (call.caller == by) (waits_in by rest) idle in
    rw parts.0 (ap (λ others. call ∷ others) (filter_idle by rest parts.1))

filter_out : (by : ℕ) (left : List QueuedCall) (call : QueuedCall) (right : List QueuedCall) → call.caller ≡ by → waits_in by left ≡ false
    → waits_in by right ≡ false → filter (λ call. not (is_by by call)) (left ++ call ∷ right) ≡ left ++ right
filter_out by [] call right same front back = rw (eq-eqb call.caller by same) (filter_idle by right back)
filter_out by (first ∷ rest) call right same front back =
    let parts = or_parts (first.caller == by) (waits_in by rest) front in
    rw parts.0 (ap (λ others. first ∷ others) (filter_out by rest call right same parts.1 back))

-- who still waits when a task's calls are gone
waits_in-other : (task by : ℕ) (calls : List QueuedCall) → task ≢ by → waits_in task (filter (λ call. not (is_by by call)) calls) ≡ waits_in task calls
waits_in-other task by calls differs =
    any-filter_same (is_by task) (λ call. not (is_by by call)) true
    (λ call is. rw (ne_eqb call.caller by (λ same. differs (sym (eqb-true call.caller task is) ∙ same))) refl)
    calls

waits_in-gone : (by : ℕ) (calls : List QueuedCall) → waits_in by (filter (λ call. not (is_by by call)) calls) ≡ false
waits_in-gone by calls = any-filter_same (is_by by) (λ call. not (is_by by call)) false (λ call is. rw is refl) calls

waits-other : (task by : ℕ) (queues : List (List QueuedCall)) → task ≢ by → waits task (without by queues) ≡ waits task queues
waits-other task by [] differs = refl
waits-other task by (calls ∷ rest) differs = rw (waits_in-other task by calls differs, waits-other task by rest differs) refl

waits-gone : (by : ℕ) (queues : List (List QueuedCall)) → waits by (without by queues) ≡ false
waits-gone by [] = refl
waits-gone by (calls ∷ rest) = or_from _ _ (waits_in-gone by calls) (waits-gone by rest)

last_or-append : (before : Option ℕ) (left right : List Place) → last_or before (left ++ right) ≡ last_or (last_or before left) right
last_or-append before [] right = refl
last_or-append before (place ∷ rest) right = last_or-append (Some place.key) rest right

-- the first and the last place once one has left
first_left : (left : List Place) (place : Place) (right : List Place)
    → (if is_none (last_or None left) then first_or None right else first_or None (left ++ place ∷ right)) ≡ first_or None (left ++ right)
first_left [] place right = refl
first_left (first ∷ rest) place right = rw (last_waits None first rest).1 refl

last_left : (left : List Place) (place : Place) (right : List Place)
    → (if is_none (first_or None right) then last_or None left else last_or None (left ++ place ∷ right)) ≡ last_or None (left ++ right)
last_left left place [] = rw append-nil refl
last_left left place (next ∷ rest) = rw (last_or-append None left (place ∷ (next ∷ rest)), last_or-append None left (next ∷ rest)) refl

-- a queue without one of its nodes
abbrev pub left_queue : Queue → Node → Queue
left_queue queue node =
    record {
      first = (if is_none node.before then node.after else queue.first);
      last = (if is_none node.after then node.before else queue.last);
      len = queue.len - 1;
    }

-- what follows where a task with this node, under this key, leaves
pub record Leaves (nodes : List (Option Node)) (keys : List (Option ℕ)) (queues : List Queue) (by key : ℕ) (node : Node) : Type 0 where
  pub within : node.slot < length queues
  pub longer : 0 < (get_or queues node.slot no_queue).len
  pub before : ForSome node.before (λ at. is_some (node_of (set nodes key None) at) ≡ true)
  pub after : ForSome node.after (λ at. is_some (node_of (set nodes key None) at) ≡ true)
  pub linked :
      AreLinked (joined node.before node.after (set nodes key None)) (set keys by None)
      (set queues node.slot (left_queue (get_or queues node.slot no_queue) node))
  pub calls : map (calls_in (joined node.before node.after (set nodes key None))) (set queues node.slot (left_queue (get_or queues node.slot no_queue) node))
      ≡ without by (map (calls_in nodes) queues)

module _ (nodes : List (Option Node)) (keys : List (Option ℕ)) (queues : List Queue) (slot : ℕ) (linked : AreLinked nodes keys queues)
    (within : slot < length queues) (left : List Place) (place : Place) (right : List Place)
    (whole : (linked.each slot within).0 ≡ left ++ place ∷ right) where
  abbrev was : Queue
  was = get_or queues slot no_queue

  abbrev by : ℕ
  by = place.called.caller

  abbrev key : ℕ
  key = place.key

  abbrev its_node : Node
  its_node = node_at slot (last_or None left) place.called (first_or None right)

  abbrev gone : List (Option Node)
  gone = set nodes key None

  abbrev fewer : List (Option ℕ)
  fewer = set keys by None

  abbrev after : List (Option Node)
  after = joined (last_or None left) (first_or None right) gone

  abbrev queue : Queue
  queue = left_queue was its_node

  is : IsQueue nodes slot was (left ++ place ∷ right)
  is = subst (IsQueue nodes slot was) whole (linked.each slot within).1

  record Cut : Type 0 where
    front : IsChain nodes slot None left (Some key)
    node : node_of nodes key ≡ Some its_node
    alone : has_key key right ≡ false
    back : IsChain nodes slot (Some key) right None
    apart : AreApart left right
    absent : has_key key left ≡ false

  cut : Cut
  unfolding IsChain
  cut =
      let parts = chain_cut nodes slot None left (place ∷ right) None is.chain in
      let chain = parts.1 in
      record {
        front = parts.0;
        node = chain.0;
        alone = chain.1;
        back = chain.2;
        apart = λ at stands. (or_parts (place.key == at) (has_key at right) (parts.2 at stands)).1;
        absent = false_from_ne_true _ (λ stands. both_ways (has_key key (place ∷ right)) (parts.2 key stands) (stands_first place right));
      }

  pub found_node : node_of nodes place.key ≡ Some its_node
  found_node = cut.node

  -- the task keeps the key of the node
  pub found_key : key_of keys place.called.caller ≡ Some place.key
  found_key = linked.own.back key its_node cut.node

  known : by < length keys
  known = key_within keys by (ap is_some found_key)

  there : key < length nodes
  there = node_within nodes key (ap is_some cut.node)

  other_left : (at : ℕ) → has_key at left ≡ true → at ≢ key
  other_left at stands same = both_ways (has_key key left) cut.absent (ap (λ k. has_key k left) (sym same) ∙ stands)

  other_right : (at : ℕ) → has_key at right ≡ true → at ≢ key
  other_right at stands same = both_ways (has_key key right) cut.alone (ap (λ k. has_key k right) (sym same) ∙ stands)

  is_queue : IsQueue after slot queue (left ++ right)
  is_queue =
      let front = chain_agrees nodes gone slot None left (Some key) (λ at stands. get_or-set_other nodes key at None None (other_left at stands))
      cut.front in
      let back = chain_agrees nodes gone slot (Some key) right None (λ at stands. get_or-set_other nodes key at None None (other_right at stands))
      cut.back in
      record {
        len = omega (arith, is.len, length-append left (place ∷ right), length-append left right);
        first = ap (λ link. if is_none (last_or None left) then first_or None right else link) is.first ∙ first_left left place right;
        last = ap (λ link. if is_none (first_or None right) then last_or None left else link) is.last ∙ last_left left place right;
        chain = chain_joined gone slot (Some key) left right (Some key) front back cut.apart;
      }

  keeps : KeepsOthers slot nodes after
  keeps at other has differs =
      let absent : has_key at (left ++ place ∷ right)
      ≡ false = false_from_ne_true _ (λ stands. differs (let here = chain_slot nodes slot None (left ++ place ∷ right) None at is.chain stands in cc)) in
      let sides = or_parts _ _ (sym (list_any-append (λ (p : Place). p.key == at) left (place ∷ right)) ∙ absent) in
      let rest = or_parts _ _ sides.1 in
      joined_other (last_or None left) (first_or None right) gone at (not_last left at sides.0) (not_first right at rest.1)
      ∙ get_or-set_other nodes key at None None (λ same. both_ways (key == at) rest.0 (eq-eqb key at (sym same)))

  idle_left : waits_in by (calls_of left) ≡ false
  idle_left =
      false_from_ne_true _ (λ waits. both_ways (has_key key left) cut.absent
      (chain_key nodes keys slot None left (Some key) by key linked.own cut.front waits found_key))

  idle_right : waits_in by (calls_of right) ≡ false
  idle_right =
      false_from_ne_true _ (λ waits. both_ways (has_key key right) cut.alone
      (chain_key nodes keys slot (Some key) right None by key linked.own cut.back waits found_key))

  idle_elsewhere : (at : ℕ) → at < length queues → at ≢ slot → waits_in by (calls_in nodes (get_or queues at no_queue)) ≡ false
  idle_elsewhere at low differs =
      let other = linked.each at low in
      false_from_ne_true _ (λ waits. differs (
      let stands = chain_key nodes keys at None other.0 None by key linked.own other.1.chain (rw (queue_calls nodes at _ other.0 other.1) at waits) found_key in
      let elsewhere = chain_slot nodes at None other.0 None key other.1.chain stands in
      let here = rw cut.node at elsewhere in
      cc))

  here_left : filter (λ call. not (is_by by call)) (calls_in nodes was) ≡ calls_of (left ++ right)
  here_left =
      ap (filter (λ call. not (is_by by call)))
      (queue_calls nodes slot was (left ++ place ∷ right) is ∙ map-append (λ (p : Place). p.called) left (place ∷ right))
      ∙ filter_out by (calls_of left) place.called (calls_of right) refl idle_left idle_right
      ∙ sym (map-append (λ (p : Place). p.called) left right)

  pub left_calls : map (calls_in after) (set queues slot queue) ≡ without by (map (calls_in nodes) queues)
  left_calls =
      calls_changed nodes after keys queues slot queue (left ++ right) linked within keeps is_queue
      ∙ ext_get_or [] _ _
      (length-set (map (calls_in nodes) queues) slot (calls_of (left ++ right))
      ∙ sym (length-map (map (calls_in nodes) queues) (filter (λ call. not (is_by by call)))))
      (λ at low. place_at at (simp (length-set, length-map) at low))
    where
      place_at : (at : ℕ) → at < length queues → get_or (set (map (calls_in nodes) queues) slot (calls_of (left ++ right))) at []
          ≡ get_or (without by (map (calls_in nodes) queues)) at []
      place_at at low =
          let many : at < length (map (calls_in nodes) queues) = rw length-map low in
          let here : slot < length (map (calls_in nodes) queues) = rw length-map within in
          elim (cases_eq at slot) [
            | inl same ↦
                rw (
                  get_or-map (filter (λ call. not (is_by by call))) (map (calls_in nodes) queues) at [] [] many,
                  same,
                  get_or-set_same
                      (map (calls_in nodes) queues) slot (calls_of (left ++ right)) [] here,
                  calls_at nodes queues slot within,
                )
                (sym here_left)
            | inr differs ↦
                rw (
                  get_or-map (filter (λ call. not (is_by by call))) (map (calls_in nodes) queues) at [] [] many,
                  get_or-set_other
                      (map (calls_in nodes) queues) slot at (calls_of (left ++ right)) [] differs,
                  calls_at nodes queues at low,
                )
                (sym (filter_idle by _ (idle_elsewhere at low differs)))
          ]

  own_gone : AreOwn gone fewer
  own_gone =
      record {
        leads = λ caller at has. elim (cases_eq caller by) [
          | inl same ↦ let none : None ≡ Some at = sym (get_or-set_same keys by None None known) ∙ (rw same at has) in absurd (cc)
          | inr differs ↦
              let led = linked.own.leads caller at (sym (get_or-set_other keys by caller None None differs) ∙ has) in
              let apart : at ≢ key = λ same. differs (let whose = rw (same, cut.node) at led in cc) in
              rw (get_or-set_other nodes key at None None apart) led
        ];
        back = λ at node has. elim (cases_eq at key) [
          | inl same ↦ let none : None ≡ Some node = sym (get_or-set_same nodes key None None there) ∙ (rw same at has) in absurd (cc)
          | inr differs ↦
              let led = linked.own.back at node (sym (get_or-set_other nodes key at None None differs) ∙ has) in
              let apart : node.caller ≢ by = λ same. differs (
              let keyed : Some at ≡ Some key = sym led ∙ ap (key_of keys) same ∙ found_key in cc) in
              get_or-set_other keys by node.caller None None apart ∙ led
        ];
      }

  waiting_now : (task : ℕ) → is_some (key_of fewer task) ≡ waits task (without by (map (calls_in nodes) queues))
  waiting_now task =
      elim (cases_eq task by) [
        | inl same ↦ rw (same, waits-gone by (map (calls_in nodes) queues)) (ap is_some (get_or-set_same keys by None None known))
        | inr differs ↦
            ap is_some (get_or-set_other keys by task None None differs) ∙ linked.waiting task
            ∙ sym (waits-other task by (map (calls_in nodes) queues) differs)
      ]

  left_linked : AreLinked after fewer (set queues slot queue)
  left_linked =
      record {
        each = each_changed nodes after keys queues slot queue (left ++ right) linked within keeps is_queue;
        own = own_kept gone after fewer (joined_callers (last_or None left) (first_or None right) gone) own_gone;
        waiting = λ task. rw left_calls (waiting_now task);
        total =
            let lens = sum_by-set (λ (q : Queue). q.len) queues slot queue no_queue within in
            let counts = sum_by-set (λ (at : Option ℕ). cond (is_some at) 1 0) keys by None None known in
            let one = rw found_key at counts in
            omega (arith, linked.total, is.len, length-append left (place ∷ right));
        few = rw length-set linked.few;
      }

  leaves_here : Leaves nodes keys queues place.called.caller place.key its_node
  leaves_here =
      record {
        within = within;
        longer = omega (arith, is.len, length-append left (place ∷ right));
        before = λ at last.
            let stands = last_stands left at last in
            ap is_some (get_or-set_other nodes key at None None (other_left at stands))
            ∙ chain_has nodes slot None left (Some key) at cut.front stands;
        after = λ at first.
            let stands = first_stands right at first in
            ap is_some (get_or-set_other nodes key at None None (other_right at stands))
            ∙ chain_has nodes slot (Some key) right None at cut.back stands;
        linked = left_linked;
        calls = left_calls;
      }

-- a task that waits leaves its queue
pub leaves : (nodes : List (Option Node)) (keys : List (Option ℕ)) (queues : List Queue) (by key : ℕ) (node : Node) → AreLinked nodes keys queues
    → waits by (map (calls_in nodes) queues) ≡ true → key_of keys by ≡ Some key → node_of nodes key ≡ Some node → Leaves nodes keys queues by key node
leaves nodes keys queues by key node linked waiting keyed has =
    let spot = any_place (waits_in by) (map (calls_in nodes) queues) [] waiting in
    let within : spot.0 < length queues = rw length-map at spot.1 in
    let there : waits_in by (calls_in nodes (get_or queues spot.0 no_queue)) ≡ true = rw (calls_at nodes queues spot.0 within) at spot.2 in
    let each = linked.each spot.0 within in
    let at = standing by each.0 (rw (queue_calls nodes spot.0 _ each.0 each.1) at there) in
    let here = leaves_here nodes keys queues spot.0 linked within at.left at.place at.right at.whole in
    let key_is : at.place.key ≡ key =
    let same : Some at.place.key ≡ Some key = sym (found_key nodes keys queues spot.0 linked within at.left at.place at.right at.whole)
    ∙ ap (key_of keys) at.by ∙ keyed in cc in
    let node_is : its_node nodes keys queues spot.0 linked within at.left at.place at.right at.whole ≡ node =
    let same : Some (its_node nodes keys queues spot.0 linked within at.left at.place at.right at.whole) ≡ Some node =
    sym (found_node nodes keys queues spot.0 linked within at.left at.place at.right at.whole) ∙ ap (node_of nodes) key_is ∙ has in cc in
    subst (Leaves nodes keys queues by key) node_is
    (subst (λ k. Leaves nodes keys queues by k (its_node nodes keys queues spot.0 linked within at.left at.place at.right at.whole)) key_is
    (subst (λ b. Leaves nodes keys queues b at.place.key (its_node nodes keys queues spot.0 linked within at.left at.place at.right at.whole)) at.by here))
