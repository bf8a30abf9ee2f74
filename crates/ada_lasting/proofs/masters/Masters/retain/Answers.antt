use Rattle.std.proofs.Common.{rules, ap, ◌∙◌}
use Rattle.std.proofs.lemmas.Fn.{filter_same}
use Rattle.ada_lasting.specs.internal.Mastering.{named_masters}
use Rattle.ada_lasting.proofs.masters.Masters.retain.Goals as goal

pub returns : goal.returns
returns c =
    filter_same _ _ _ (λ x b f' k. search rules) _ _ c.retain.ensures.filtered ∙ ap (named_masters c.args.names.now) c.self.view_is
