-- What a task is within: the blocks that it opened and hasn't left, and the rendezvous that it accepted
-- and hasn't ended.
use Rattle.std.specs.Prelude.{ℕ, Bool, not, ◌==◌, ◌&&◌, ◌-◌, Option, None, List, [], ◌∷◌, length, slice_get}
use Rattle.std.specs.Option.{option_map_or, option_or}
use Rattle.std.specs.Bool.{then_some}
use Rattle.std.specs.List.{list_any}
use Rattle.ada_events.specs.declared.event.Event.{Event}
use Rattle.ada_events.specs.declared.names.Master.{Master}
use Rattle.ada_events.specs.declared.names.Master.TheVariants.{Body, Block as BlockMaster}
use Rattle.ada_events.specs.declared.names.Member.{Member}
use Rattle.ada_events.specs.declared.names.Member.TheVariants.{Block, Rendezvous}
use Rattle.ada_events.specs.Search.{is_number, is_some_and, any_event, gathered}
use Rattle.ada_events.specs.Says.{Opening, Closing, Wait, Meeting, opening_in, closing_in, left_in, meeting_in, wait_at}
use Rattle.ada_events.specs.Calls.{is_open_call}

-- the close at a position was followed by the task's leaving the block (9.4)
unfoldable pub is_left_close : List Event → ℕ → Bool
is_left_close journal close = list_any (λ (e : Event). is_number close (left_in e)) journal

-- the block is left
unfoldable pub is_left : List Event → ℕ → Bool
is_left journal block =
    any_event (λ p e. is_some_and (closing_in e) (λ (c : Closing). c.block == block) && is_left_close journal p) journal

-- the wait at a position is the task's
unfoldable pub is_wait_of : List Event → ℕ → ℕ → Bool
is_wait_of journal task wait = is_some_and (wait_at journal wait) (λ (w : Wait). w.by == task)

-- what the event at a position puts into the task's nest: a block that the task opened and hasn't left,
-- or a rendezvous of one of its waits whose call is open
unfoldable pub member_at : List Event → ℕ → ℕ → Event → Option Member
member_at journal task position event =
    option_or
    (option_map_or (λ (o : Opening). then_some (o.by == task && not (is_left journal position)) (Block position)) (opening_in event) None)
    (option_map_or (λ (m : Meeting). then_some (is_wait_of journal task m.wait && is_open_call journal m.call) (Rendezvous m.call)) (meeting_in event) None)

-- the nest of a task, the innermost member last
unfoldable pub nest : List Event → ℕ → List Member
nest journal task = gathered (member_at journal task) journal

-- the innermost member of a nest, which is its last
abbrev pub innermost : List Member → Option Member
innermost members = slice_get members (length members - 1)

-- the last block of a nest, else this master
unfoldable pub innermost_block : Master → List Member → Master
innermost_block outer [] = outer
innermost_block outer (Block p ∷ rest) = innermost_block (BlockMaster p) rest
innermost_block outer (Rendezvous call ∷ rest) = innermost_block outer rest

-- the frame of a task: the innermost block that it is in, else its body
unfoldable pub frame : List Event → ℕ → Master
frame journal task = innermost_block (Body (record { 0 = task })) (nest journal task)
