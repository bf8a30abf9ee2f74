use Rattle.std.proofs.lemmas.List.{length-map}
use Rattle.ada_tables.proofs.Steps.{enqueued, last_known}
use Rattle.ada_tables.proofs.queues.Queues.enqueue_reserved.Goals as goal

pub set_after-requires : goal.set_after-requires
set_after-requires c =
    last_known c.self.inside.nodes c.insert_reserved-key.new.self c.self.inside.queues.items c.index-queue.result.now c.args.by c.args.slot c.args.call
    c.insert_reserved-key.result
    c.self.invariant (rw (← c.self.view_is) at c.requires.known) (rw (← c.self.view_is, length-map) at c.requires.slot)
    (rw (← c.self.view_is) at c.requires.idle) c.index-queue.ensures (record {
      vacant = c.insert_reserved-key.ensures.vacant;
      nodes = c.insert_reserved-key.ensures.nodes;
      keys = c.insert_reserved-key.ensures.keys;
      len = c.insert_reserved-key.ensures.len;
      capacity = c.insert_reserved-key.ensures.capacity;
    })

pub invariant_of-self : goal.invariant_of-self
invariant_of-self c =
    (enqueued c.self.inside.nodes c.insert_reserved-key.new.self c.self.inside.queues.items c.index-queue.result.now c.args.by c.args.slot c.args.call
    c.insert_reserved-key.result
    c.self.invariant (rw (← c.self.view_is) at c.requires.known) (rw (← c.self.view_is, length-map) at c.requires.slot)
    (rw (← c.self.view_is) at c.requires.idle) c.index-queue.ensures (record {
      vacant = c.insert_reserved-key.ensures.vacant;
      nodes = c.insert_reserved-key.ensures.nodes;
      keys = c.insert_reserved-key.ensures.keys;
      len = c.insert_reserved-key.ensures.len;
      capacity = c.insert_reserved-key.ensures.capacity;
    }) c.set_after.new.self c.with_last.result c.with_last.ensures
    c.set_after.ensures).0

pub returns : goal.returns
returns c =
    rw (← c.self.view_is)
    (enqueued c.self.inside.nodes c.insert_reserved-key.new.self c.self.inside.queues.items c.index-queue.result.now c.args.by c.args.slot c.args.call
    c.insert_reserved-key.result
    c.self.invariant (rw (← c.self.view_is) at c.requires.known) (rw (← c.self.view_is, length-map) at c.requires.slot)
    (rw (← c.self.view_is) at c.requires.idle) c.index-queue.ensures (record {
      vacant = c.insert_reserved-key.ensures.vacant;
      nodes = c.insert_reserved-key.ensures.nodes;
      keys = c.insert_reserved-key.ensures.keys;
      len = c.insert_reserved-key.ensures.len;
      capacity = c.insert_reserved-key.ensures.capacity;
    }) c.set_after.new.self c.with_last.result c.with_last.ensures
    c.set_after.ensures).1
