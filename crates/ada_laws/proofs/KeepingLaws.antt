-- The six laws of a lawful and settled journal.
use Rattle.ada_laws.specs.Laws.{JournalsKeepTheLaws}
use Rattle.ada_laws.proofs.queues.CallLaws.{one_open_call_each, open_calls_suspend, calls_that_suspend_are_open, open_calls_are_joined_or_queued, queues_rise}
use Rattle.ada_laws.proofs.queues.CallLaws.{fronts_are_met, one_meeting_for_a_joined_call, no_open_call_to_a_finished_task}
use Rattle.ada_laws.proofs.queues.CallLaws.{no_acceptor_waits_at_a_queued_choice}
use Rattle.ada_laws.proofs.within.DependentLaws.{a_terminated_body_has_no_live_dependent}

pub journals_keep_the_laws : JournalsKeepTheLaws
journals_keep_the_laws journal lawful settled = record {
  one_open_call_each = record {
    one = one_open_call_each journal lawful;
    suspends = open_calls_suspend journal;
    open_at = calls_that_suspend_are_open journal;
    joined_or_queued = open_calls_are_joined_or_queued journal lawful;
  };
  queues_rise_and_fronts_are_met = record { rise = queues_rise journal; met = fronts_are_met journal lawful };
  one_meeting_for_a_joined_call = one_meeting_for_a_joined_call journal lawful;
  no_open_call_to_a_finished_task = no_open_call_to_a_finished_task journal settled;
  a_terminated_body_has_no_live_dependent = a_terminated_body_has_no_live_dependent journal lawful;
  no_acceptor_waits_at_a_queued_choice = no_acceptor_waits_at_a_queued_choice journal settled;
}
