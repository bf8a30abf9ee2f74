use Rattle.ada_statements.proofs.BoundNames.{found_by_its_bytes}
use Rattle.ada_statements.proofs.names.Names.declared.Goals as goal

pub returns-clause-name : goal.returns-clause-name
returns-clause-name c = found_by_its_bytes c.args.name.now c.self.inside.table.entries (λ entry. entry.0.now) c.get_key_value.result c.get_key_value.ensures.key
