use Rattle.std.proofs.Common.{◌<◌, ◌∙◌, ap, sym, subst}
use Rattle.ada_records.proofs.following.Agreeing.{ends_phase}
use Rattle.ada_step_laws.proofs.holding.Enclosing.{frame_reaches_held}
use Rattle.ada_records.proofs.holding.Walking.{same_dependents}
use Rattle.ada_tables.specs.Dependents.{Facts, is_terminated as ends}
use Rattle.ada_view.proofs.Orphans.{alone_or, else_or}
use Rattle.ada_admission.proofs.masters.is_reached.Goals as goal

pub depends_on-requires-clause-known : goal.depends_on-requires-clause-known
depends_on-requires-clause-known c = subst (λ n. c.args.by.0 < n) (sym c.tables-tables.ensures.stand.many) c.requires.known

pub depends_on-requires-clause-live : goal.depends_on-requires-clause-live
depends_on-requires-clause-live c =
    ap (λ (f : Facts). ends f.phase) (c.tables-tables.ensures.stand.tasks c.args.by.0 c.requires.known)
    ∙ ends_phase c.args.view.now c.args.by.0 ∙ c.requires.live

pub returns-then-holds : goal.returns-then-holds
returns-then-holds c =
    c.holds.ensures ∙ alone_or _ _ (sym c.holds.ensures ∙ c.if-holds.true)
    ∙ sym (frame_reaches_held c.args.view.now c.args.by.0 c.args.master c.tables-tables.ensures.lawful c.requires.known)

pub returns-else-holds : goal.returns-else-holds
returns-else-holds c =
    c.depends_on.ensures
    ∙ same_dependents _ c.args.view.now c.tables-tables.ensures.lawful
    (record { many = c.tables-tables.ensures.stand.many; facts = c.tables-tables.ensures.stand.tasks })
    c.args.master c.args.by.0 c.requires.known c.requires.live
    ∙ else_or _ _ (sym c.holds.ensures ∙ c.if-holds.false)
    ∙ sym (frame_reaches_held c.args.view.now c.args.by.0 c.args.master c.tables-tables.ensures.lawful c.requires.known)
