use Rattle.std.proofs.Common.{sym, ◌∙◌}
use Rattle.ada_search.proofs.Steps.{ok_then, gone_on}
use Rattle.ada_search.proofs.check.Check.go_on_from.Goals as goal

pub returns : goal.returns
returns g c =
    ok_then c.go_on.result _ _
    (λ done known yes. gone_on _ _ _ _ _ _ _ c.args.state (c.choices.ensures ∙ c.in_ok-path.ensures) (sym c.in-Some.ensures) (known yes))
    c.go_on.ensures
