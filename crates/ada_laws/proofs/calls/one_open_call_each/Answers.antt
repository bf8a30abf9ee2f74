-- The law, as its lemmas prove it.
use Rattle.ada_laws.proofs.queues.CallLaws.{one_open_call_each, open_calls_suspend, calls_that_suspend_are_open, open_calls_are_joined_or_queued}
use Rattle.ada_laws.proofs.calls.one_open_call_each.Goals as goal

pub returns-clause-one : goal.returns-clause-one
returns-clause-one c = one_open_call_each

pub returns-clause-suspends : goal.returns-clause-suspends
returns-clause-suspends c = open_calls_suspend

pub returns-clause-joined_or_queued : goal.returns-clause-joined_or_queued
returns-clause-joined_or_queued c = open_calls_are_joined_or_queued

pub returns-clause-open_at : goal.returns-clause-open_at
returns-clause-open_at c = calls_that_suspend_are_open
