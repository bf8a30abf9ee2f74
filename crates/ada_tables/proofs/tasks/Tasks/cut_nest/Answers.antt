use Rattle.std.proofs.lemmas.List.{length-map}
use Rattle.ada_tables.proofs.Turns.{cut_out, same_known}
use Rattle.ada_tables.proofs.tasks.Tasks.cut_nest.Goals as goal

pub invariant_of-self : goal.invariant_of-self
invariant_of-self c =
    (cut_out c.self.inside.tasks.items c.args.task c.args.call c.index_mut-record.result.now c.cut.new.self c.self.invariant
    (rw (← c.self.view_is, length-map) at c.requires) c.index_mut-record.ensures.value c.cut.ensures).0

pub returns : goal.returns
returns c =
    let held = cut_out c.self.inside.tasks.items c.args.task c.args.call c.index_mut-record.result.now c.cut.new.self
    c.self.invariant (rw (← c.self.view_is, length-map) at c.requires) c.index_mut-record.ensures.value c.cut.ensures in
    rw (← c.self.view_is) (same_known _ _ _ _ _ held.1 held.2)
