use Rattle.std.proofs.Common.{◌<◌, ◌∙◌, ap, sym, subst}
use Rattle.ada_records.proofs.following.Agreeing.{ends_phase}
use Rattle.ada_records.proofs.holding.Walking.{same_dependents}
use Rattle.ada_tables.specs.Dependents.{Facts, is_terminated as ends}
use Rattle.ada_waiting.proofs.awaited.depends_on.Goals as goal

pub depends_on-requires-clause-known : goal.depends_on-requires-clause-known
depends_on-requires-clause-known c = subst (λ n. c.args.task.0 < n) (sym c.tables.ensures.stand.many) c.requires.known

pub depends_on-requires-clause-live : goal.depends_on-requires-clause-live
depends_on-requires-clause-live c =
    ap (λ (f : Facts). ends f.phase) (c.tables.ensures.stand.tasks c.args.task.0 c.requires.known)
    ∙ ends_phase c.args.view.now c.args.task.0 ∙ c.requires.live

pub returns : goal.returns
returns c =
    c.depends_on.ensures
    ∙ same_dependents _ c.args.view.now c.tables.ensures.lawful
    (record { many = c.tables.ensures.stand.many; facts = c.tables.ensures.stand.tasks })
    c.args.master c.args.task.0 c.requires.known c.requires.live
