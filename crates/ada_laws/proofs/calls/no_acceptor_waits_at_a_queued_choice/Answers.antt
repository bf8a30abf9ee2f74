-- The law, as its lemmas prove it.
use Rattle.ada_laws.proofs.queues.CallLaws.{no_acceptor_waits_at_a_queued_choice}
use Rattle.ada_laws.proofs.calls.no_acceptor_waits_at_a_queued_choice.Goals as goal

pub returns : goal.returns
returns c = no_acceptor_waits_at_a_queued_choice
