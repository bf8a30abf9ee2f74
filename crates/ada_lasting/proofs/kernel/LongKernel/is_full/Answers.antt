use Rattle.std.proofs.Common.{◌+◌, length, ap, ◌∙◌}
use Rattle.std.specs.Prelude.{nat_lt}
use Rattle.ada_events.specs.declared.limits.TheConstants.{MOST_EVENTS, MOST_APPENDED}
use Rattle.ada_events.specs.Limits.{is_full}
use Rattle.ada_lasting.specs.Following.{Long}
use Rattle.ada_lasting.proofs.kernel.LongKernel.is_full.Goals as goal

pub returns : goal.returns
unfolding is_full
returns c =
    ap (λ n. nat_lt MOST_EVENTS (n + MOST_APPENDED))
    (c.len.ensures ∙ (ap length c.journal.ensures.events ∙ ap (λ (k : Long). length k.present) c.self.view_is))
