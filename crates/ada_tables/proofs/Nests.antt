-- Nests: their members, and the counts of their blocks, where a nest changes.
use Rattle.std.proofs.Common.{◌≡◌, ℕ, true, false, eqb, List, [], ◌∷◌, ◌++◌, refl, ap, sym, ◌∙◌, subst, inl, inr}
use Rattle.std.specs.Prelude.{if◌then◌else◌}
use Rattle.std.specs.List.{list_any}
use Rattle.std.proofs.lemmas.Bool.{cases_Bool, both_ways, eq-eqb, eqb-true, or_parts}
use Rattle.ada_events.specs.declared.names.Member.{Member}
use Rattle.ada_events.specs.declared.names.Member.TheVariants.{Block}
use Rattle.ada_tables.specs.declared.layers.Layer.{Layer}
use Rattle.ada_tables.specs.declared.layers.Layer.TheVariants.{Block as BlockLayer, Rendezvous as RendezvousLayer}
use Rattle.ada_tables.specs.Layers.{member_of, members}
use Rattle.ada_tables.specs.internal.Layers.{layer_of, is_block_at, live_of, moved, moved_to, live_at}
use Rattle.ada_events.specs.Holders.{is_block, has_block, up_to}

pub is_block-member : (block : ℕ) (layer : Layer) → is_block block (member_of layer) ≡ is_block_at block layer
is_block-member block (BlockLayer live opening) = refl
is_block-member block (RendezvousLayer call) = refl

pub has_block-members : (block : ℕ) (layers : List Layer) → has_block block (members layers) ≡ list_any (is_block_at block) layers
has_block-members block [] = refl
has_block-members block (layer ∷ rest) = rw (is_block-member block layer, has_block-members block rest) refl

-- the count of a block is changed
live_of-moved : (count : ℕ → ℕ) (block : ℕ) (layer : Layer) → is_block_at block layer ≡ true → live_of (moved count layer) ≡ count (live_of layer)
live_of-moved count block (BlockLayer live opening) here = refl
live_of-moved count block (RendezvousLayer call) here = absurd (cc)

is_block_at-moved : (count : ℕ → ℕ) (block : ℕ) (layer : Layer) → is_block_at block (moved count layer) ≡ is_block_at block layer
is_block_at-moved count block (BlockLayer live opening) = refl
is_block_at-moved count block (RendezvousLayer call) = refl

member_of-moved : (count : ℕ → ℕ) (layer : Layer) → member_of (moved count layer) ≡ member_of layer
member_of-moved count (BlockLayer live opening) = refl
member_of-moved count (RendezvousLayer call) = refl

-- the member of a layer stays where its count changes
pub members-moved_to : (count : ℕ → ℕ) (block : ℕ) (layers : List Layer) → members (moved_to count block layers) ≡ members layers
unfolding moved_to
members-moved_to count block [] = refl
members-moved_to count block (layer ∷ rest) =
    elim (cases_Bool (is_block_at block layer)) [
      | inl here ↦ rw (here, member_of-moved count layer) refl
      | inr other ↦ rw (other, member_of-moved count layer) (ap (λ (ms : List Member). member_of layer ∷ ms) (members-moved_to count block rest))
    ]

-- a count is changed exactly where its block is the one or stands outside it
pub live_at-moved_to : (count : ℕ → ℕ) (inner block : ℕ) (layers : List Layer) → has_block block (members layers) ≡ true
    → live_at block (moved_to count inner layers) ≡ (if has_block block (up_to inner (members layers)) then count (live_at block layers)
    else live_at block layers)
unfolding moved_to live_at
live_at-moved_to count inner block [] has = absurd (cc)
live_at-moved_to count inner block (layer ∷ rest) has =
    elim (cases_Bool (is_block_at block layer)) [
      | inl here ↦ rw (is_block-member block layer, is_block_at-moved count block layer, here, live_of-moved count block layer here) refl
      | inr other ↦
          let later : has_block block (members rest) ≡ true = rw (is_block-member block layer, other) at has in
          elim (cases_Bool (is_block_at inner layer)) [
            | inl stop ↦ rw (is_block-member block layer, is_block-member inner layer, is_block_at-moved count block layer, other, stop) refl
            | inr on ↦ rw (is_block-member block layer, is_block-member inner layer, is_block_at-moved count block layer, other, on)
                (live_at-moved_to count inner block rest later)
          ]
    ]

-- a block is the last of a nest up to it
pub has_block-up_to : (block : ℕ) (nest : List Member) → has_block block nest ≡ true → has_block block (up_to block nest) ≡ true
has_block-up_to block [] has = has
has_block-up_to block (member ∷ rest) has =
    elim (cases_Bool (is_block block member)) [
      | inl here ↦ rw here refl
      | inr other ↦ rw other (has_block-up_to block rest (rw other at has))
    ]

pub has_block_within : (inner block : ℕ) (nest : List Member) → has_block inner nest ≡ true → eqb inner block ≡ true → has_block block (up_to inner nest) ≡ true
has_block_within inner block nest has same =
    subst (λ (b : ℕ). has_block b (up_to inner nest) ≡ true) (eqb-true inner block same) (has_block-up_to inner nest has)

-- what stands up to a block stands in the nest
pub has_block-from_up_to : (inner block : ℕ) (nest : List Member) → has_block block (up_to inner nest) ≡ true → has_block block nest ≡ true
has_block-from_up_to inner block [] has = has
has_block-from_up_to inner block (member ∷ rest) has =
    elim (cases_Bool (is_block block member)) [
      | inl here ↦ rw here refl
      | inr other ↦ elim (cases_Bool (is_block inner member)) [
        | inl stop ↦ absurd (both_ways (has_block block (up_to inner (member ∷ rest))) (rw (other, stop) refl) has)
        | inr on ↦ rw other (has_block-from_up_to inner block rest (rw (other, on) at has))
      ]
    ]

-- what stands up to a block stays where members come behind it
pub up_to-append : (inner : ℕ) (nest more : List Member) → has_block inner nest ≡ true → up_to inner (nest ++ more) ≡ up_to inner nest
up_to-append inner [] more has = absurd (cc)
up_to-append inner (member ∷ rest) more has =
    elim (cases_Bool (is_block inner member)) [
      | inl here ↦ rw here refl
      | inr other ↦ rw other (ap (λ (ms : List Member). member ∷ ms) (up_to-append inner rest more (rw other at has)))
    ]

-- the count of a block stays where members come behind it
pub live_at-append : (block : ℕ) (layers more : List Layer) → has_block block (members layers) ≡ true → live_at block (layers ++ more) ≡ live_at block layers
unfolding live_at
live_at-append block [] more has = absurd (cc)
live_at-append block (layer ∷ rest) more has =
    elim (cases_Bool (is_block_at block layer)) [
      | inl here ↦ rw here refl
      | inr other ↦ rw other (live_at-append block rest more (rw (is_block-member block layer, other) at has))
    ]

-- a block that comes in has no dependents
pub live_at-new : (block : ℕ) (layers : List Layer) → has_block block (members layers) ≡ false → live_at block (layers ++ layer_of (Block block) ∷ []) ≡ 0
unfolding live_at
live_at-new block [] none = rw (eq-eqb block block refl) refl
live_at-new block (layer ∷ rest) none =
    let parts = or_parts (is_block block (member_of layer)) (has_block block (members rest)) none in
    let other : is_block_at block layer ≡ false = sym (is_block-member block layer) ∙ parts.0 in
    rw other (live_at-new block rest parts.1)
