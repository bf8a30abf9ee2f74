use Rattle.ada_search.proofs.Closing.{none_gets_stuck}
use Rattle.ada_search.proofs.Steps.{ok_then, some_then}
use Rattle.ada_search.proofs.covering.covered_by.Goals as goal

pub returns : goal.returns
returns g c =
    ok_then c.stays_well.result _ _ (λ found stays. some_then found _ _ (λ states well. none_gets_stuck _ well) stays) c.stays_well.ensures
