use Rattle.std.proofs.Common.{◌≡◌, ◌≤◌, length, reverse, sym, ap, ◌∙◌, subst}
use Rattle.std.proofs.lemmas.List.{length-reverse}
use Rattle.ada_lasting.specs.Following.{Long}
use Rattle.ada_lasting.proofs.Newest.{newest_kept}
use Rattle.ada_lasting.proofs.kernel.LongKernel.group.Goals as goal

pub returns : goal.returns
returns c =
    let whole : reverse c.as_slice-events.result.now ≡ c.self.inside.kernel = c.as_slice-events.ensures.value ∙ c.journal.ensures.events in
    let long : length c.as_slice-events.result.now ≡ length c.self.inside.kernel =
    sym (length-reverse c.as_slice-events.result.now) ∙ ap length whole in
    let within : c.self.inside.group ≤ length c.as_slice-events.result.now = subst (λ n. c.self.inside.group ≤ n) (sym long) c.self.invariant.1 in
    newest_kept c.as_slice-events.result.now c.self.inside.group within whole long ∙ ap (λ (k : Long). k.group) c.self.view_is
