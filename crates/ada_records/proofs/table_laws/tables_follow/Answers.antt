use Rattle.ada_records.proofs.following.TableChanges.{tables_follow}
use Rattle.ada_records.proofs.table_laws.tables_follow.Goals as goal

pub returns : goal.returns
returns c = tables_follow
