-- The nest of one task: each member as a layer, outermost first, a block with the number of its live
-- dependents.
use Rattle.std.specs.Prelude.{◌≡◌, ℕ, Bool, true, false, ◌==◌, if◌then◌else◌, List, [], ◌∷◌, position, remove}
use Rattle.std.specs.Option.{option_map_or}
use Rattle.std.specs.List.{list_any}
use Rattle.ada_events.specs.declared.names.Member.{Member}
use Rattle.ada_events.specs.declared.names.Member.TheVariants.{Block as BlockMember, Rendezvous as RendezvousMember}
use Rattle.ada_tables.specs.declared.layers.Layer.{Layer}
use Rattle.ada_tables.specs.declared.layers.Layer.TheVariants.{Block, Rendezvous}

-- a member as a layer, without dependents
abbrev pub layer_of : Member → Layer
layer_of (BlockMember opening) = Block 0 opening
layer_of (RendezvousMember call) = Rendezvous call

-- the layer is the block that was opened at a position
abbrev pub is_block_at : ℕ → Layer → Bool
is_block_at position (Block live opening) = opening == position
is_block_at position (Rendezvous call) = false

-- the layer is the rendezvous with the call at a position
abbrev pub is_rendezvous_at : ℕ → Layer → Bool
is_rendezvous_at position (Block live opening) = false
is_rendezvous_at position (Rendezvous call) = call == position

-- the number of the live dependents of a layer, if it is a block
abbrev pub live_of : Layer → ℕ
live_of (Block live opening) = live
live_of (Rendezvous call) = 0

-- the layers without the rendezvous with a call
abbrev pub cut_layers : ℕ → List Layer → List Layer
cut_layers call layers = option_map_or (remove layers) (position (is_rendezvous_at call) layers) layers

-- a layer with another count, if it is a block
abbrev pub moved : (ℕ → ℕ) → Layer → Layer
moved count (Block live opening) = Block (count live) opening
moved count (Rendezvous call) = Rendezvous call

-- the layers with other counts of a block and of those outside it
unfoldable pub moved_to : (ℕ → ℕ) → ℕ → List Layer → List Layer
moved_to count block [] = []
moved_to count block (layer ∷ rest) =
    moved count layer ∷ (if is_block_at block layer then rest else moved_to count block rest)

-- how many live dependents a block has
unfoldable pub live_at : ℕ → List Layer → ℕ
live_at block [] = 0
live_at block (layer ∷ rest) = if is_block_at block layer then live_of layer else live_at block rest

-- each block stands once
abbrev pub AreOnce : List Layer → Type 0
AreOnce [] = Unit {0}
AreOnce (layer ∷ rest) = ((block : ℕ) → is_block_at block layer ≡ true → list_any (is_block_at block) rest ≡ false) × AreOnce rest
