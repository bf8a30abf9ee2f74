-- Who holds a master (9.4): a task holds its own body and the blocks that it is within. And which masters
-- enclose another there.
use Rattle.std.specs.Prelude.{ℕ, Bool, false, ◌==◌, if◌then◌else◌, List, [], ◌∷◌}
use Rattle.std.specs.List.{list_any}
use Rattle.ada_events.specs.declared.names.Master.{Master}
use Rattle.ada_events.specs.declared.names.Master.TheVariants.{Body, Block}
use Rattle.ada_events.specs.declared.names.Member.{Member}
use Rattle.ada_events.specs.declared.names.Member.TheVariants.{Block as BlockMember, Rendezvous}

-- the member is the block that was opened at a position
abbrev pub is_block : ℕ → Member → Bool
is_block position (BlockMember opened) = opened == position
is_block position (Rendezvous call) = false

-- the block stands in the nest
abbrev pub has_block : ℕ → List Member → Bool
has_block block nest = list_any (is_block block) nest

-- a nest from its outermost member up to a block
abbrev pub up_to : ℕ → List Member → List Member
up_to block [] = []
up_to block (member ∷ rest) = member ∷ (if is_block block member then [] else up_to block rest)

-- the master is the body of the task of that number, or a block of its nest
abbrev pub holds : ℕ → List Member → Master → Bool
holds task nest (Body t) = t.0 == task
holds task nest (Block block) = has_block block nest

-- of two masters that a task holds, the second is the first or stands outside it
abbrev pub encloses : ℕ → List Member → Master → Master → Bool
encloses task nest from (Body t) = t.0 == task
encloses task nest (Body t) (Block block) = false
encloses task nest (Block inner) (Block block) = has_block block (up_to inner nest)
