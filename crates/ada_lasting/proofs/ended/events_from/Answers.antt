use Rattle.std.proofs.Common.{◌≡◌, ◌≤◌, length, reverse, sym, ap, ◌∙◌, subst}
use Rattle.std.proofs.lemmas.List.{length-reverse}
use Rattle.ada_lasting.proofs.Newest.{newest_kept}
use Rattle.ada_lasting.proofs.ended.events_from.Goals as goal

pub returns : goal.returns
returns c =
    let whole : reverse c.as_slice.result.now ≡ c.args.kernel.now = c.as_slice.ensures.value ∙ c.journal.ensures.events in
    let long : length c.as_slice.result.now ≡ length c.args.kernel.now = sym (length-reverse c.as_slice.result.now) ∙ ap length whole in
    newest_kept c.as_slice.result.now c.args.from (subst (λ n. c.args.from ≤ n) (sym long) c.requires) whole long
