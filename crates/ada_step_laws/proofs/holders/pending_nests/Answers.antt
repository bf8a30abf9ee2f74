use Rattle.ada_step_laws.proofs.holding.PendingNests.{closed_blocks_are_innermost, waits_have_room, open_terminates_are_in_no_rendezvous}
use Rattle.ada_step_laws.proofs.holders.pending_nests.Goals as goal

pub returns-clause-blocks : goal.returns-clause-blocks
returns-clause-blocks c = closed_blocks_are_innermost

pub returns-clause-room : goal.returns-clause-room
returns-clause-room c = waits_have_room

pub returns-clause-alone : goal.returns-clause-alone
returns-clause-alone c = open_terminates_are_in_no_rendezvous
