use Rattle.ada_tables.proofs.Turns.{main_made}
use Rattle.ada_tables.proofs.tasks.Tasks.add_main_reserved.Goals as goal

pub invariant_of-self : goal.invariant_of-self
invariant_of-self c =
    main_made c.self.inside.tasks.items c.push_reserved.new.self.items c.of.result 0 0 c.new.result c.self.invariant (rw (← c.self.view_is) at c.requires.first)
    c.push_reserved.ensures.items c.of.ensures
