-- Chains of queued calls: what keeps one, cutting one in two, and linking two to one another.
use Rattle.std.proofs.Common.{◌≡◌, ◌≢◌, ℕ, true, false, List, [], ◌∷◌, ◌++◌, length, set, Option, Some, None, is_some, refl, ap, sym, ◌∙◌, inl, inr}
use Rattle.std.specs.Prelude.{◌==◌}
use Rattle.std.specs.Option.{option_map}
use Rattle.std.proofs.lemmas.Bool.{eq-eqb, ne_eqb, eqb-true, or_parts, or_left, or_right, or_cases, or_from, both_ways, cases_lt, false_from_ne_true}
use Rattle.std.proofs.lemmas.List.{get_or-set_same, get_or-set_other, set_past, get_or_past}
use Rattle.std.proofs.lemmas.List.Folds.{list_any-append}
use Rattle.ada_tables.specs.declared.nodes.Node.{Node}
use Rattle.ada_tables.specs.Nodes.{node_of}
use Rattle.ada_tables.specs.internal.Nodes.{key_of}
use Rattle.ada_tables.specs.Queues.{waits_in}
use Rattle.ada_tables.specs.Links.{followed}
use Rattle.ada_tables.specs.internal.Links.{Place, calls_of, has_key, first_or, last_or, node_at, IsChain, AreOwn, relinked_after, relinked_before, joined}

-- two lists of nodes agree on the keys of some places
abbrev pub AgreeOn : List Place → List (Option Node) → List (Option Node) → Type 0
AgreeOn places old new = (key : ℕ) → has_key key places ≡ true → node_of new key ≡ node_of old key

-- no key stands in both
abbrev pub AreApart : List Place → List Place → Type 0
AreApart left right = (key : ℕ) → has_key key left ≡ true → has_key key right ≡ false

pub stands_first : (place : Place) (rest : List Place) → has_key place.key (place ∷ rest) ≡ true
stands_first place rest = or_left (place.key == place.key) (has_key place.key rest) (eq-eqb _ _ refl)

pub chain_agrees : (old new : List (Option Node)) (slot : ℕ) (before : Option ℕ) (places : List Place) (after : Option ℕ) → AgreeOn places old new
    → IsChain old slot before places after → IsChain new slot before places after
unfolding IsChain
chain_agrees old new slot before [] after agree chain = tt
chain_agrees old new slot before (place ∷ rest) after agree chain = (
  agree place.key (stands_first place rest) ∙ chain.0,
  chain.1,
  chain_agrees old new slot (Some place.key) rest after
      (λ key waits. agree key (or_right (place.key == key) (has_key key rest) waits)) chain.2,
)

-- the node of a place has the chain's slot
pub chain_slot : (nodes : List (Option Node)) (slot : ℕ) (before : Option ℕ) (places : List Place) (after : Option ℕ) (key : ℕ)
    → IsChain nodes slot before places after → has_key key places ≡ true → option_map (λ (node : Node). node.slot) (node_of nodes key) ≡ Some slot
unfolding IsChain
chain_slot nodes slot before [] after key chain waits = absurd (cc)
chain_slot nodes slot before (place ∷ rest) after key chain waits =
    elim (or_cases (place.key == key) (has_key key rest) waits) [
      | inl same ↦ rw (← eqb-true place.key key same, chain.0) refl
      | inr later ↦ chain_slot nodes slot (Some place.key) rest after key chain.2 later
    ]

-- a chain in two
pub chain_cut : (nodes : List (Option Node)) (slot : ℕ) (before : Option ℕ) (left right : List Place) (after : Option ℕ)
    → IsChain nodes slot before (left ++ right) after → IsChain nodes slot before left (first_or after right)
    × IsChain nodes slot (last_or before left) right after × AreApart left right
unfolding IsChain
chain_cut nodes slot before [] right after chain = (tt, chain, λ key waits. absurd (cc))
chain_cut nodes slot before (place ∷ rest) right after chain =
    let cut = chain_cut nodes slot (Some place.key) rest right after chain.2 in
    let parts = or_parts _ _ (sym (list_any-append (λ (p : Place). p.key == place.key) rest right) ∙ chain.1) in (
      (
        chain.0 ∙ ap (λ link. Some (node_at slot before place.called link)) (first_of_both rest),
        parts.0,
        cut.0,
      ),
      cut.1,
      λ key waits. elim (or_cases (place.key == key) (has_key key rest) waits) [
        | inl same ↦ rw (← eqb-true place.key key same) parts.1
        | inr later ↦ cut.2 key later
      ],
    )
  where
    first_of_both : (front : List Place) → first_or after (front ++ right) ≡ first_or (first_or after right) front
    first_of_both [] = refl
    first_of_both (first ∷ others) = refl

-- two chains as one
pub chain_whole : (nodes : List (Option Node)) (slot : ℕ) (before : Option ℕ) (left right : List Place) (after : Option ℕ)
    → IsChain nodes slot before left (first_or after right) → IsChain nodes slot (last_or before left) right after → AreApart left right
    → IsChain nodes slot before (left ++ right) after
unfolding IsChain
chain_whole nodes slot before [] right after front back apart = back
chain_whole nodes slot before (place ∷ rest) right after front back apart = (
  front.0 ∙ ap (λ link. Some (node_at slot before place.called link)) (first_of_both rest),
  list_any-append (λ (p : Place). p.key == place.key) rest right ∙ or_from _ _ front.1 (apart place.key (stands_first place rest)),
  chain_whole nodes slot (Some place.key) rest right after front.2 back
      (λ key waits. apart key (or_right (place.key == key) (has_key key rest) waits)),
)
  where
    first_of_both : (front : List Place) → first_or (first_or after right) front ≡ first_or after (front ++ right)
    first_of_both [] = refl
    first_of_both (first ∷ others) = refl

-- the last of some places is one of them
pub last_waits : (before : Option ℕ) (place : Place) (rest : List Place) → (key : ℕ) × (last_or before (place ∷ rest) ≡ Some key)
    × (has_key key (place ∷ rest) ≡ true)
last_waits before place [] = (place.key, refl, stands_first place [])
last_waits before place (next ∷ rest) =
    let found = last_waits (Some place.key) next rest in
    (found.0, found.1, or_right (place.key == found.0) (has_key found.0 (next ∷ rest)) found.2)

module _ (nodes : List (Option Node)) (change : Node → Node) where
  -- a node is changed where there is one
  abbrev pub changed : ℕ → List (Option Node)
  changed key = set nodes key (option_map change (node_of nodes key))

  pub changed_same : (key : ℕ) → node_of (changed key) key ≡ option_map change (node_of nodes key)
  changed_same key =
      elim (cases_lt key (length nodes)) [
        | inl within ↦ get_or-set_same nodes key (option_map change (node_of nodes key)) None within
        | inr past ↦ rw (set_past nodes key (option_map change (node_of nodes key)) past, get_or_past nodes key None past) refl
      ]

  pub changed_other : (key other : ℕ) → other ≢ key → node_of (changed key) other ≡ node_of nodes other
  changed_other key other differs = get_or-set_other nodes key other (option_map change (node_of nodes key)) None differs

-- another link changes the node of that key alone
pub relinked_after_other : (nodes : List (Option Node)) (link after : Option ℕ) (key : ℕ) → link ≢ Some key
    → node_of (relinked_after link after nodes) key ≡ node_of nodes key
relinked_after_other nodes None after key differs = refl
relinked_after_other nodes (Some at) after key differs =
    changed_other nodes (λ node. record node { after = after }) at key (λ same. differs (ap Some (sym same)))

pub relinked_before_other : (nodes : List (Option Node)) (link before : Option ℕ) (key : ℕ) → link ≢ Some key
    → node_of (relinked_before link before nodes) key ≡ node_of nodes key
relinked_before_other nodes None before key differs = refl
relinked_before_other nodes (Some at) before key differs =
    changed_other nodes (λ node. record node { before = before }) at key (λ same. differs (ap Some (sym same)))

-- a key that stands in none of two stretches stands at neither of the links between them
pub not_last : (places : List Place) (key : ℕ) → has_key key places ≡ false → last_or None places ≢ Some key
not_last [] key idle same = absurd (cc)
not_last (place ∷ rest) key idle same =
    let found = last_waits None place rest in
    let here : found.0 ≡ key = let step : Some found.0 ≡ Some key = sym found.1 ∙ same in cc in
    both_ways (has_key key (place ∷ rest)) idle (ap (λ c. has_key c (place ∷ rest)) (sym here) ∙ found.2)

pub not_first : (places : List Place) (key : ℕ) → has_key key places ≡ false → first_or None places ≢ Some key
not_first [] key idle same = absurd (cc)
not_first (place ∷ rest) key idle same =
    let here : place.key ≡ key = cc in
    both_ways _ idle (or_left (place.key == key) (has_key key rest) (eq-eqb _ _ here))

-- a chain whose last node is linked to something else
pub chain_relinked_after : (nodes : List (Option Node)) (slot : ℕ) (before : Option ℕ) (places : List Place) (after other : Option ℕ)
    → IsChain nodes slot before places after → IsChain (relinked_after (last_or None places) other nodes) slot before places other
unfolding IsChain
chain_relinked_after nodes slot before [] after other chain = tt
chain_relinked_after nodes slot before (place ∷ []) after other chain = (
  changed_same nodes (λ node. record node { after = other }) place.key ∙ ap (option_map (λ (node : Node). record node { after = other })) chain.0,
  refl,
  tt,
)
chain_relinked_after nodes slot before (place ∷ (next ∷ rest)) after other chain = (
  relinked_after_other nodes (last_or None (next ∷ rest)) other place.key (not_last (next ∷ rest) place.key chain.1) ∙ chain.0,
  chain.1,
  chain_relinked_after nodes slot (Some place.key) (next ∷ rest) after other chain.2,
)

-- a chain whose first node is linked to something else
pub chain_relinked_before : (nodes : List (Option Node)) (slot : ℕ) (before other : Option ℕ) (places : List Place) (after : Option ℕ)
    → IsChain nodes slot before places after → IsChain (relinked_before (first_or None places) other nodes) slot other places after
unfolding IsChain
chain_relinked_before nodes slot before other [] after chain = tt
chain_relinked_before nodes slot before other (place ∷ rest) after chain = (
  changed_same nodes (λ node. record node { before = other }) place.key ∙ ap (option_map (λ (node : Node). record node { before = other })) chain.0,
  chain.1,
  chain_agrees nodes _ slot (Some place.key) rest after
      (λ key waits. changed_other nodes (λ node. record node { before = other }) place.key key (λ same. both_ways _ chain.1 (rw same at waits)))
      chain.2,
)

-- two chains are one where the last of the one and the first of the other are linked
pub chain_joined : (nodes : List (Option Node)) (slot : ℕ) (before : Option ℕ) (left right : List Place) (after : Option ℕ)
    → IsChain nodes slot None left after → IsChain nodes slot before right None → AreApart left right
    → IsChain (joined (last_or None left) (first_or None right) nodes) slot None (left ++ right) None
chain_joined nodes slot before left right after front back apart =
    let once = relinked_after (last_or None left) (first_or None right) nodes in
    let twice = relinked_before (first_or None right) (last_or None left) once in
    let front_once = chain_relinked_after nodes slot None left after (first_or None right) front in
    let back_once = chain_agrees nodes once slot before right None
    (λ key waits. relinked_after_other nodes (last_or None left) (first_or None right) key (not_last left key (apart_back key waits))) back in
    chain_whole twice slot None left right None
    (chain_agrees once twice slot None left (first_or None right)
    (λ key waits. relinked_before_other once (first_or None right) (last_or None left) key (not_first right key (apart key waits))) front_once)
    (chain_relinked_before once slot before (last_or None left) right None back_once)
    apart
  where
    apart_back : (key : ℕ) → has_key key right ≡ true → has_key key left ≡ false
    apart_back key waits = false_from_ne_true _ (λ other. both_ways _ (apart key other) waits)

-- a node that comes after the last of a chain is one of it
pub chain_pushed : (nodes : List (Option Node)) (slot : ℕ) (places : List Place) (place : Place) → IsChain nodes slot None places None
    → node_of nodes place.key ≡ Some (node_at slot (last_or None places) place.called None) → has_key place.key places ≡ false
    → IsChain (relinked_after (last_or None places) (Some place.key) nodes) slot None (places ++ place ∷ []) None
unfolding IsChain
chain_pushed nodes slot places place front node absent =
    chain_whole _ slot None places (place ∷ []) None
    (chain_relinked_after nodes slot None places None (Some place.key) front)
    (relinked_after_other nodes (last_or None places) (Some place.key) place.key (not_last places place.key absent) ∙ node, refl, tt)
    (λ key waits. or_from (place.key == key) false
    (ne_eqb place.key key (λ same. both_ways (has_key place.key places) absent (ap (λ k. has_key k places) same ∙ waits))) refl)

-- the calls of a chain are found by following it
pub followed_chain : (nodes : List (Option Node)) (slot : ℕ) (before : Option ℕ) (places : List Place) → IsChain nodes slot before places None
    → followed nodes (length places) (first_or None places) ≡ calls_of places
unfolding IsChain followed
followed_chain nodes slot before [] chain = refl
followed_chain nodes slot before (place ∷ rest) chain =
    rw chain.0 (ap (λ others. place.called ∷ others) (followed_chain nodes slot (Some place.key) rest chain.2))

-- a caller's call stands under the caller's key
pub chain_key : (nodes : List (Option Node)) (keys : List (Option ℕ)) (slot : ℕ) (before : Option ℕ) (places : List Place) (after : Option ℕ)
    (caller key : ℕ) → AreOwn nodes keys → IsChain nodes slot before places after → waits_in caller (calls_of places) ≡ true
    → key_of keys caller ≡ Some key → has_key key places ≡ true
unfolding IsChain
chain_key nodes keys slot before [] after caller key own chain waits has = absurd (cc)
chain_key nodes keys slot before (place ∷ rest) after caller key own chain waits has =
    elim (or_cases (place.called.caller == caller) (waits_in caller (calls_of rest)) waits) [
      | inl same ↦
          let led = own.back place.key _ chain.0 in
          let here : key_of keys caller ≡ Some place.key = ap (key_of keys) (sym (eqb-true _ _ same)) ∙ led in
          let alike : place.key ≡ key = let step : Some place.key ≡ Some key = sym here ∙ has in cc in
          or_left (place.key == key) (has_key key rest) (eq-eqb _ _ alike)
      | inr later ↦
          or_right (place.key == key) (has_key key rest)
          (chain_key nodes keys slot (Some place.key) rest after caller key own chain.2 later has)
    ]

-- the place of a caller in a queue
pub record Standing (caller : ℕ) (places : List Place) : Type 0 where
  pub left : List Place
  pub place : Place
  pub right : List Place
  pub whole : places ≡ left ++ place ∷ right
  pub by : place.called.caller ≡ caller

pub standing : (caller : ℕ) (places : List Place) → waits_in caller (calls_of places) ≡ true → Standing caller places
standing caller [] waits = absurd (cc)
standing caller (place ∷ rest) waits =
    elim (or_cases (place.called.caller == caller) (waits_in caller (calls_of rest)) waits) [
      | inl same ↦ record { left = []; place = place; right = rest; whole = refl; by = eqb-true _ _ same }
      | inr later ↦
          let found = standing caller rest later in
          record { left = place ∷ found.left; place = found.place; right = found.right; whole = ap (λ others. place ∷ others) found.whole; by = found.by }
    ]

-- a key at an end is one of the places'
pub last_stands : (places : List Place) (key : ℕ) → last_or None places ≡ Some key → has_key key places ≡ true
last_stands [] key last = absurd (cc)
last_stands (place ∷ rest) key last =
    let found = last_waits None place rest in
    let here : key ≡ found.0 = let step : Some key ≡ Some found.0 = sym last ∙ found.1 in cc in
    ap (λ c. has_key c (place ∷ rest)) here ∙ found.2

pub first_stands : (places : List Place) (key : ℕ) → first_or None places ≡ Some key → has_key key places ≡ true
first_stands [] key first = absurd (cc)
first_stands (place ∷ rest) key first = let here : key ≡ place.key = cc in ap (λ c. has_key c (place ∷ rest)) here ∙ stands_first place rest

-- each place has its node
pub chain_has : (nodes : List (Option Node)) (slot : ℕ) (before : Option ℕ) (places : List Place) (after : Option ℕ) (key : ℕ)
    → IsChain nodes slot before places after → has_key key places ≡ true → is_some (node_of nodes key) ≡ true
chain_has nodes slot before places after key chain waits = some_from (node_of nodes key) (chain_slot nodes slot before places after key chain waits)
  where
    some_from : (node : Option Node) → option_map (λ (n : Node). n.slot) node ≡ Some slot → is_some node ≡ true
    some_from None has = absurd (cc)
    some_from (Some n) has = refl
