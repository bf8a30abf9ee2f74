use Rattle.ada_step_laws.proofs.changing.LatestOutcomes.{holds_are_held, releases_decide, raisers_have_raised, others_keep_outcomes}
use Rattle.ada_step_laws.proofs.changes.outcomes_are_the_latest.Goals as goal

pub returns-clause-held : goal.returns-clause-held
returns-clause-held c = holds_are_held

pub returns-clause-released : goal.returns-clause-released
returns-clause-released c = releases_decide

pub returns-clause-raised : goal.returns-clause-raised
returns-clause-raised c = raisers_have_raised

pub returns-clause-others : goal.returns-clause-others
returns-clause-others c = others_keep_outcomes
