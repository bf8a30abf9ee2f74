-- The law, as its lemmas prove it.
use Rattle.ada_laws.proofs.held.Suspending.{is_suspended-at, is_suspended-from, suspended_latest, suspended_once, suspended_exists}
use Rattle.ada_laws.proofs.suspension.suspended_at_one_position.Goals as goal

pub returns-clause-somewhere : goal.returns-clause-somewhere
returns-clause-somewhere c = is_suspended-at

pub returns-clause-there : goal.returns-clause-there
returns-clause-there c = is_suspended-from

pub returns-clause-latest : goal.returns-clause-latest
returns-clause-latest c = suspended_latest

pub returns-clause-one : goal.returns-clause-one
returns-clause-one c = suspended_once

pub returns-clause-exists : goal.returns-clause-exists
returns-clause-exists c = suspended_exists
