use Rattle.std.proofs.Common.{sym, replicate, false, arith}
use Rattle.std.proofs.lemmas.List.{get_or-replicate, length-replicate}
use Rattle.ada_admission.proofs.Doubling.{none_seen, one_seen, seen_twice}
use Rattle.ada_admission.proofs.activation.has_double_task.Goals as goal

pub loop-left-init : goal.loop-left-init
loop-left-init c = none_seen c.args.tasks.now (replicate 256 false) (length-replicate 256 false) (λ task below. get_or-replicate 256 task false false below)

pub returns-then-seen-place : goal.returns-then-seen-place
returns-then-seen-place c =
    sym (seen_twice c.args.tasks.now c.loop-left.seen c.loop-left.left c.from-place.result _
    (omega arith) c.loop-left.invariant c.from-place.ensures c.requires c.if-seen-place.true)

pub loop-left-preserved : goal.loop-left-preserved
loop-left-preserved c =
    one_seen c.args.tasks.now c.loop-left.seen c.loop-left.left c.from-place.result _
    (omega arith) c.loop-left.invariant c.from-place.ensures c.requires c.if-seen-place.false
