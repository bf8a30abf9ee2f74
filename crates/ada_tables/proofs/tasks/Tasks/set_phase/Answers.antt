use Rattle.std.proofs.lemmas.List.{length-map}
use Rattle.ada_tables.proofs.Turns.{phased, same_known, not_terminated}
use Rattle.ada_tables.proofs.tasks.Tasks.set_phase.Goals as goal

pub invariant_of-self-in_default : goal.invariant_of-self-in_default
invariant_of-self-in_default c =
    (phased c.self.inside.tasks.items c.args.task c.index_mut-record.result.now c.args.phase c.self.invariant
    (rw (← c.self.view_is, length-map) at c.requires.known) c.index_mut-record.ensures.value (rw (← c.self.view_is) at c.requires.live)
    (not_terminated c.args.phase c.in_default.not-Terminated)).0

pub returns-in_default : goal.returns-in_default
returns-in_default c =
    let held = phased c.self.inside.tasks.items c.args.task c.index_mut-record.result.now c.args.phase c.self.invariant
    (rw (← c.self.view_is, length-map) at c.requires.known) c.index_mut-record.ensures.value (rw (← c.self.view_is) at c.requires.live)
    (not_terminated c.args.phase c.in_default.not-Terminated) in
    rw (← c.self.view_is) (same_known _ _ _ _ _ held.1 held.2)
