use Rattle.std.proofs.Common.{◌≡◌, List, sym, ◌∙◌, subst}
use Rattle.ada_events.specs.declared.event.Event.{Event}
use Rattle.ada_events.specs.Attributes.{is_finished}
use Rattle.ada_lasting.specs.Following.{Long, Follows}
use Rattle.ada_lasting.specs.internal.Present.{IsPresent}
use Rattle.ada_lasting.proofs.Answered.{answers}
use Rattle.ada_lasting.proofs.kernel.LongKernel.finished.Goals as goal

pub returns : goal.returns
returns c =
    subst (λ (k : Long). (journal : List Event) → Follows journal k → c.finished.result ≡ is_finished journal) c.self.view_is
    (λ journal follows. c.finished.ensures ∙ (answers journal _ follows (subst IsPresent (sym c.self.view_is) c.known.ensures)).finished)
