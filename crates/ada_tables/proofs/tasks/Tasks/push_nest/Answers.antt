use Rattle.std.proofs.lemmas.List.{length-map}
use Rattle.ada_tables.proofs.Turns.{pushed, same_known}
use Rattle.ada_tables.proofs.tasks.Tasks.push_nest.Goals as goal

pub invariant_of-self : goal.invariant_of-self
invariant_of-self c =
    (pushed c.self.inside.tasks.items c.args.task c.index_mut-record.result.now c.push.new.self c.args.member c.self.invariant
    (rw (← c.self.view_is, length-map) at c.requires.known) c.index_mut-record.ensures.value c.push.ensures (rw (← c.self.view_is) at c.requires.fresh)).0

pub returns : goal.returns
returns c =
    let held = pushed c.self.inside.tasks.items c.args.task c.index_mut-record.result.now c.push.new.self c.args.member
    c.self.invariant (rw (← c.self.view_is, length-map) at c.requires.known) c.index_mut-record.ensures.value c.push.ensures
    (rw (← c.self.view_is) at c.requires.fresh) in
    rw (← c.self.view_is) (same_known _ _ _ _ _ held.1 held.2)
