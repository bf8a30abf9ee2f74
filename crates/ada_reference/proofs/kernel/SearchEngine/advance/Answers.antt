use Rattle.ada_reference.proofs.Asking.{few_tasks}
use Rattle.ada_reference.proofs.kernel.SearchEngine.advance.Goals as goal

pub forced-requires-clause-few : goal.forced-requires-clause-few
forced-requires-clause-few c = few_tasks c.as_slice.result.now c.args.journal.now.events c.as_slice.ensures.value c.requires.lawful
