use Rattle.ada_search.proofs.Steps.{ok_then, all_covered}
use Rattle.ada_search.proofs.check.Check.go_on.Goals as goal

pub returns : goal.returns
returns g c =
    ok_then c.cover_choices.result _ _
    (λ done known yes. all_covered _ _ _ _ _ _ _ _ _ c.deref.ensures.value c.in_ok-standing.ensures c.journal-journal.ensures.lawful
    c.journal-journal.ensures.settled (c.in_ok-is_met.ensures c.if-not-branch.false) c.in_ok-choices.ensures (known yes)) c.cover_choices.ensures
