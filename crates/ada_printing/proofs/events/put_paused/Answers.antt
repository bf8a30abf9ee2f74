use Rattle.std.proofs.Common.{rules, append_assoc}
use Rattle.std.proofs.lemmas.Result.{IfOk-equal}
use Rattle.ada_printing.proofs.events.put_paused.Goals as goal

pub returns-clause-text : goal.returns-clause-text
returns-clause-text c = search (rules, IfOk-equal, append_assoc)
