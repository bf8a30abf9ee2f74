-- What a journal says of its tasks, queues and counts, as tables that stand for it hold it.
use Rattle.std.proofs.Common.{◌≡◌, ℕ, zero, suc, pos, true, Some, None, List, [], ◌∷◌, ◌++◌, reverse, refl, arith}
use Rattle.std.specs.List.{All}
use Rattle.ada_events.specs.declared.event.Event.{Event}
use Rattle.ada_events.specs.declared.event.Event.TheVariants.{Opened, Created, Started, Elaborated, Called, Waiting, Completed, Met, Activated, Gone}
use Rattle.ada_events.specs.declared.event.EventTail.TheVariants.{Nothing, Terminate}
use Rattle.ada_events.specs.declared.names.Patience.TheVariants.{Simple}
use Rattle.ada_events.specs.declared.names.TaskNo.{TaskNo}
use Rattle.ada_events.specs.declared.names.Entry.{Entry}
use Rattle.ada_events.specs.declared.names.Family.{Family}
use Rattle.ada_events.specs.declared.names.Choice.{Choice}
use Rattle.ada_events.specs.declared.names.Master.TheVariants.{Body, Block}
use Rattle.ada_events.specs.declared.names.Member.TheVariants.{Block as InBlock, Rendezvous as InRendezvous}
use Rattle.ada_events.specs.Search.{any_event, gathered, event_at}
use Rattle.ada_events.specs.Says.{creation_in, opening_in, call_in, wait_in, closing_in, meeting_in, started_in, elaborated_in, completed_in, gone_in, quit_in}
use Rattle.ada_events.specs.Says.{left_in, held_in, released_in}
use Rattle.ada_events.specs.Tasks.{task_count, creation_of, families_of}
use Rattle.ada_events.specs.Masters.{parent_in, reaches, depends_on}
use Rattle.ada_events.specs.Phases.{is_completed, is_terminated, has_ended, is_released, is_suspended, is_started, is_running}
use Rattle.ada_events.specs.Calls.{is_pending, is_met, is_open_at, is_queued_at, is_open_call, is_call_of, queue}
use Rattle.ada_events.specs.Nests.{is_left_close, is_left, is_wait_of, member_at, nest}
use Rattle.ada_events.specs.Termination.{has_empty_queues, is_ready_to_quit}
use Rattle.ada_tables.specs.declared.phase.Phase.TheVariants.{Unstarted, Active, Held, Quittable, Completed as IsCompleted, Terminated}
use Rattle.ada_tables.specs.Dependents.{count_below}
use Rattle.ada_tables.specs.Queues.{QueuedCall}
use Rattle.ada_tables.specs.Standing.{facts_in, caller_of, AreQueued, live_count, unready_count}

-- opens every definition
unfoldable everything : Unit {0}
unfolding any_event gathered event_at creation_in opening_in call_in wait_in closing_in meeting_in started_in elaborated_in completed_in gone_in quit_in left_in
    held_in released_in task_count creation_of families_of parent_in reaches depends_on is_completed is_terminated has_ended is_released is_suspended is_started
    is_running is_pending is_met is_open_at is_queued_at is_open_call is_call_of queue is_left_close is_left is_wait_of member_at nest has_empty_queues
    is_ready_to_quit count_below
everything = tt

abbrev task : ℕ → TaskNo
task n = record { 0 = n }

abbrev single : Family
single = record { low = pos 0; high = pos 0 }

abbrev entry : ℕ → Entry
entry family = record { family = family; index = pos 0 }

abbrev open_choice : Entry → Choice
open_choice e = record { guard = true; entry = e }

-- the main program makes a server with two entries and two clients, and all of them run
abbrev preamble : List Event
preamble =
    reverse (Created (task 0) (Body (task 0)) (Body (task 0)) (single ∷ single ∷ []) ∷
    Created (task 0) (Body (task 0)) (Body (task 0)) [] ∷
    Created (task 0) (Body (task 0)) (Body (task 0)) [] ∷
    Started (task 0) (task 1 ∷ task 2 ∷ task 3 ∷ []) ∷
    Elaborated (task 1) true ∷
    Elaborated (task 2) true ∷
    Elaborated (task 3) true ∷
    Activated 4 true ∷ [])

-- both clients call the server, which opens a block, makes a task in it and accepts the first call
abbrev in_rendezvous : List Event
in_rendezvous =
    reverse (Called (task 2) (task 1) (entry 0) Simple None ∷
    Called (task 3) (task 1) (entry 0) Simple None ∷
    Opened (task 1) (Body (task 1)) ∷
    Created (task 1) (Block 11) (Block 11) [] ∷
    Waiting (task 1) 0 (open_choice (entry 0) ∷ []) Nothing ∷
    Met 9 13 ∷ []) ++ preamble

main_runs : facts_in in_rendezvous 0 ≡ record { master = None; families = []; nest = []; phase = Active }
unfolding everything
main_runs = refl

server_serves : facts_in in_rendezvous 1 ≡ record {
  master =
      Some (Body (task 0));
  families = single ∷ single ∷ [];
  nest = InBlock 11 ∷ InRendezvous 9 ∷ [];
  phase = Active;
}
unfolding everything
server_serves = refl

client_is_held : facts_in in_rendezvous 2 ≡ record { master = Some (Body (task 0)); families = []; nest = []; phase = Held }
unfolding everything
client_is_held = refl

made_in_the_block : facts_in in_rendezvous 4 ≡ record { master = Some (Block 11); families = []; nest = []; phase = Unstarted }
unfolding everything
made_in_the_block = refl

second_caller : All (λ (c : QueuedCall). caller_of in_rendezvous c.call ≡ Some c.caller) (record { call = 10; caller = 3 } ∷ [])
unfolding everything
second_caller zero d low = refl
second_caller (suc k) d low = absurd (omega arith)

-- the call that is served waits no longer
second_waits : AreQueued in_rendezvous 1 (entry 0) (record { call = 10; caller = 3 } ∷ [])
unfolding everything
second_waits = record { positions = refl; callers = second_caller }

nobody_waits : AreQueued in_rendezvous 1 (entry 1) []
unfolding everything
nobody_waits = record { positions = refl; callers = λ k d low. absurd (omega arith) }

under_main : live_count in_rendezvous (Body (task 0)) ≡ 4
unfolding everything
under_main = refl

under_the_server : live_count in_rendezvous (Body (task 1)) ≡ 1
unfolding everything
under_the_server = refl

under_the_block : live_count in_rendezvous (Block 11) ≡ 1
unfolding everything
under_the_block = refl

-- the server waits for a call or its end, and a client completes and is gone
abbrev at_terminate : List Event
at_terminate =
    reverse (Waiting (task 1) 0 (open_choice (entry 0) ∷ []) (Terminate true) ∷
    Completed (task 2) ∷
    Gone (task 2) ∷ []) ++ preamble

server_may_quit : facts_in at_terminate 1 ≡ record { master = Some (Body (task 0)); families = single ∷ single ∷ []; nest = []; phase = Quittable }
unfolding everything
server_may_quit = refl

client_is_gone : facts_in at_terminate 2 ≡ record { master = Some (Body (task 0)); families = []; nest = []; phase = Terminated }
unfolding everything
client_is_gone = refl

two_live : live_count at_terminate (Body (task 0)) ≡ 2
unfolding everything
two_live = refl

one_unready : unready_count at_terminate (Body (task 0)) ≡ 1
unfolding everything
one_unready = refl

-- a client that is completed, and isn't gone yet
client_is_completed : facts_in (Completed (task 3) ∷ preamble) 3 ≡ record { master = Some (Body (task 0)); families = []; nest = []; phase = IsCompleted }
unfolding everything
client_is_completed = refl
