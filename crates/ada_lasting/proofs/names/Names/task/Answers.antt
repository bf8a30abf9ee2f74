use Rattle.std.proofs.Common.{◌≡◌, ◌^◌, true, sym, ◌∙◌, arith}
use Rattle.ada_lasting.specs.internal.Keeping.{name_tasks}
use Rattle.ada_lasting.proofs.Finding.{rises_wider, found_task}
use Rattle.ada_lasting.proofs.names.Names.task.Goals as goal

pub find_near-requires : goal.find_near-requires
find_near-requires c =
    let made = c.self.invariant.6 in
    rw c.deref.ensures.value (rises_wider c.self.inside.tasks.items 0 c.self.inside.made (2 ^ 64) c.self.invariant.0 (omega (arith, made)))

pub overflow_cast-result : goal.overflow_cast-result
overflow_cast-result c =
    let is = sym c.find_near.ensures ∙ c.in-Some.is in
    let small : name_tasks c.deref.result.now ≡ true = rw c.deref.ensures.value c.self.invariant.1 in
    let below = found_task c.deref.result.now c.args.lasting c.in-Some.present small is in
    grind (arith, below)
