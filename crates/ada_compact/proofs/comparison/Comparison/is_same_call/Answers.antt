use Rattle.std.proofs.Common.{rules, sym, ◌∙◌}
use Rattle.std.proofs.lemmas.Bool.{true≢false}
use Rattle.ada_compact.proofs.Holding.{same_calls}
use Rattle.ada_compact.proofs.comparison.Comparison.is_same_call.Goals as goal

pub returns-then-met : goal.returns-then-met
returns-then-met c = λ met.
    same_calls _ _ _ c.args.at c.args.to _ _ _ _ _ _ _ _ _ _ _ _ c.in-Called-Called.is-0 c.in-Called-Called.is-1
    (search rules) (search rules) (c.requires.alike ∙ c.requires.met)
    (λ queued. absurd (true≢false (sym met ∙ c.requires.met ∙ queued))) (λ queued. absurd (true≢false (sym met ∙ c.requires.met ∙ queued)))

pub returns-then-is_conditional : goal.returns-then-is_conditional
returns-then-is_conditional c = λ same.
    same_calls _ _ _ c.args.at c.args.to _ _ _ _ _ _ _ _ _ _ _ _ c.in-Called-Called.is-0 c.in-Called-Called.is-1
    (search rules) (search rules) (c.requires.alike ∙ c.requires.met) (λ queued. search rules) (λ queued. search rules)
