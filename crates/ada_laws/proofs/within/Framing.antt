-- The frame of a task: its body, or a block that it opened.
use Rattle.std.proofs.Common.{◌≡◌, ℕ, Some, List, [], ◌∷◌, refl, ◌⊎◌, inl, inr}
use Rattle.std.specs.List.{Contains}
use Rattle.ada_events.specs.declared.event.Event.{Event}
use Rattle.ada_events.specs.declared.names.Master.{Master}
use Rattle.ada_events.specs.declared.names.Master.TheVariants.{Body, Block as BlockMaster}
use Rattle.ada_events.specs.declared.names.Member.{Member}
use Rattle.ada_events.specs.declared.names.Member.TheVariants.{Block, Rendezvous}
use Rattle.ada_events.specs.Search.{event_at}
use Rattle.ada_events.specs.Says.{Opening, opening_in}
use Rattle.ada_events.specs.Nests.{nest, innermost_block, frame}
use Rattle.ada_laws.proofs.within.Members.{IsMember, nest_member}
use Rattle.ada_laws.proofs.within.Members.IsMember.{block_in}
use Rattle.ada_laws.proofs.searching.Gathering.{Contains-first, Contains-later}
use Rattle.ada_laws.proofs.searching.Searching.{event_at-older}

-- a block that the task opened at the position
pub record IsBlockOf (journal : List Event) (task position : ℕ) : Type 0 where
  pub event : Event
  pub opening : Opening
  pub stands : event_at journal position ≡ Some event
  pub says : opening_in event ≡ Some opening
  pub by : opening.by ≡ task

-- it stays one
pub block_later : (event : Event) (before : List Event) (task p : ℕ) → IsBlockOf before task p → IsBlockOf (event ∷ before) task p
block_later event before task p block = record {
  event = block.event;
  opening = block.opening;
  stands = event_at-older event before p block.event block.stands;
  says = block.says;
  by = block.by;
}

pub innermost_block-is : (outer : Master) (members : List Member) → (innermost_block outer members ≡ outer)
    ⊎ ((p : ℕ) × Contains members (Block p) × (innermost_block outer members ≡ BlockMaster p))
unfolding innermost_block
innermost_block-is outer [] = inl refl
innermost_block-is outer (Block p ∷ rest) =
    elim (innermost_block-is (BlockMaster p) rest) [
      | inl same ↦ inr (p, Contains-first (Block p) rest, same)
      | inr block ↦ inr (block.0, Contains-later (Block p) (Block block.0) rest block.1, block.2)
    ]
innermost_block-is outer (Rendezvous call ∷ rest) =
    elim (innermost_block-is outer rest) [
      | inl same ↦ inl same
      | inr block ↦ inr (block.0, Contains-later (Rendezvous call) (Block block.0) rest block.1, block.2)
    ]

pub nest_block : (journal : List Event) (task p : ℕ) → Contains (nest journal task) (Block p) → IsBlockOf journal task p
nest_block journal task p contains = of_member (nest_member journal task (Block p) contains)
  where
    of_member : IsMember journal task (Block p) → IsBlockOf journal task p
    of_member (block_in q e o at says by unleft) = record { event = e; opening = o; stands = at; says = says; by = by }

-- the frame of a task is its body, or a block that it opened
pub frame_is : (journal : List Event) (task : ℕ) → (frame journal task ≡ Body (record { 0 = task }))
    ⊎ ((p : ℕ) × IsBlockOf journal task p × (frame journal task ≡ BlockMaster p))
unfolding frame
frame_is journal task =
    elim (innermost_block-is (Body (record { 0 = task })) (nest journal task)) [
      | inl same ↦ inl same
      | inr block ↦ inr (block.0, nest_block journal task block.0 block.1, block.2)
    ]
