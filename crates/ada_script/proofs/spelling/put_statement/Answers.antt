use Rattle.ada_script.proofs.spelling.put_statement.Goals as goal

pub returns-in-ShowCallable : goal.returns-in-ShowCallable
returns-in-ShowCallable c = rw c.in-ShowCallable.is c.put_show.ensures
