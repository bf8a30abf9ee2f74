-- A task's frame with one more member of its nest.
use Rattle.std.specs.Prelude.{Option, Some, None}
use Rattle.ada_events.specs.declared.names.Master.{Master}
use Rattle.ada_events.specs.declared.names.Master.TheVariants.{Block as BlockMaster}
use Rattle.ada_events.specs.declared.names.Member.{Member}
use Rattle.ada_events.specs.declared.names.Member.TheVariants.{Block, Rendezvous}

-- the block that the member is, else this frame
abbrev pub frame_with : Master → Option Member → Master
frame_with frame None = frame
frame_with frame (Some (Block position)) = BlockMaster position
frame_with frame (Some (Rendezvous call)) = frame
