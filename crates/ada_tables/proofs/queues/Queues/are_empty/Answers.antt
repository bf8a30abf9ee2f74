use Rattle.std.proofs.Common.{◌+◌, length, sym, ◌∙◌}
use Rattle.std.specs.Prelude.{◌==◌}
use Rattle.std.proofs.lemmas.Bool.{and_from, eq-eqb, ne_eqb}
use Rattle.ada_tables.specs.Queues.{queue_at}
use Rattle.ada_tables.proofs.Emptiness.{all_of_none, all_more, all_fails}
use Rattle.ada_tables.proofs.queues.Queues.are_empty.Goals as goal

pub loop-slot-init : goal.loop-slot-init
loop-slot-init c = sym (all_of_none (λ slot. length (queue_at c.args.self.now.queues (c.args.first + slot)) == 0))

pub returns-then-queue_len-ne0 : goal.returns-then-queue_len-ne0
returns-then-queue_len-ne0 c =
    sym (all_fails (λ slot. length (queue_at c.args.self.now.queues (c.args.first + slot)) == 0) c.args.many c.loop-slot.slot c.loop-slot-test.true
    (ne_eqb _ 0 (λ none. c.if-queue_len-ne0.true (c.queue_len.ensures.value ∙ none))))

pub loop-slot-preserved : goal.loop-slot-preserved
loop-slot-preserved c =
    all_more (λ slot. length (queue_at c.args.self.now.queues (c.args.first + slot)) == 0) c.loop-slot.slot
    ∙ and_from _ _ c.loop-slot.invariant (eq-eqb _ 0 (sym c.queue_len.ensures.value ∙ c.if-queue_len-ne0.false))
