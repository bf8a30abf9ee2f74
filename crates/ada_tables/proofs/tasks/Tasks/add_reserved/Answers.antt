use Rattle.std.proofs.Common.{◌≡◌, length, subst, sym, arith}
use Rattle.std.proofs.lemmas.List.{with_items_is}
use Rattle.ada_tables.specs.internal.Counts.{AreCounted}
use Rattle.ada_tables.proofs.Turns.{made_alone, made_led, task_made}
use Rattle.ada_tables.proofs.tasks.Tasks.add_reserved.Goals as goal

pub count-requires-clause-alone : goal.count-requires-clause-alone
count-requires-clause-alone c = rw c.as_mut_slice.ensures.value
    (made_alone c.self.inside.tasks.items c.push_reserved.new.self.items c.of.result c.args.master c.holder_of-holder.result c.args.first_slot
    c.from_slice-families.result c.self.invariant (rw (← c.self.view_is) at c.requires.few) (rw (← c.self.view_is) at c.requires.master)
    (rw c.as_slice-2.ensures.value at c.holder_of-holder.ensures.within) (rw c.as_slice-2.ensures.value at c.holder_of-holder.ensures.held)
    c.push_reserved.ensures.items c.of.ensures)

pub count-requires-clause-led : goal.count-requires-clause-led
count-requires-clause-led c = rw c.as_mut_slice.ensures.value
    (made_led c.self.inside.tasks.items c.push_reserved.new.self.items c.of.result c.args.master c.holder_of-holder.result c.args.first_slot
    c.from_slice-families.result c.self.invariant (rw (← c.self.view_is) at c.requires.few) (rw (← c.self.view_is) at c.requires.master)
    (rw c.as_slice-2.ensures.value at c.holder_of-holder.ensures.within) (rw c.as_slice-2.ensures.value at c.holder_of-holder.ensures.held)
    c.push_reserved.ensures.items c.of.ensures c.len-task.result (omega (arith, c.self.inside.tasks.ok.0, c.len-task.ensures)))

pub invariant_of-self : goal.invariant_of-self
invariant_of-self c =
    let long : length c.count.new.tasks ≡ c.push_reserved.new.self.len = omega
    (arith, c.count.auto.tasks, c.as_mut_slice.ensures.len, c.push_reserved.new.self.ok.0) in
    subst AreCounted (sym (with_items_is c.push_reserved.new.self c.count.new.tasks long))
    (task_made c.self.inside.tasks.items c.push_reserved.new.self.items c.of.result c.args.master c.holder_of-holder.result c.args.first_slot
    c.from_slice-families.result c.self.invariant (rw (← c.self.view_is) at c.requires.few) (rw (← c.self.view_is) at c.requires.master)
    (rw c.as_slice-2.ensures.value at c.holder_of-holder.ensures.within) (rw c.as_slice-2.ensures.value at c.holder_of-holder.ensures.held)
    c.push_reserved.ensures.items c.of.ensures
    c.count.new.tasks c.len-task.result (omega (arith, c.self.inside.tasks.ok.0, c.len-task.ensures)) (rw c.as_mut_slice.ensures.value at c.count.ensures)).0
