use Rattle.std.proofs.Common.{sym, ◌∙◌}
use Rattle.ada_standing.specs.Names.{renaming_of}
use Rattle.ada_compact.proofs.Kept.{all_named}
use Rattle.ada_compact.proofs.compacting.compact.Goals as goal

pub returns-clause-kept : goal.returns-clause-kept
returns-clause-kept c =
    all_named c.args.kernel.now (renaming_of c.in_ok-compacted.compacted.names) c.args.kept.now (sym c.are_named.ensures ∙ c.if-not-are_named.false)

pub returns-clause-stands : goal.returns-clause-stands
returns-clause-stands c = c.stands_in.ensures c.if-not-stands_in.false
