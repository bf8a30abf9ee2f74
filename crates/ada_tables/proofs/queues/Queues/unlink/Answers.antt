use Rattle.std.proofs.Common.{arith}
use Rattle.ada_tables.proofs.Steps.{has_node, taken, longer_read, before_known, after_known, unlinked}
use Rattle.ada_tables.proofs.queues.Queues.unlink.Goals as goal

pub remove-node-requires : goal.remove-node-requires
remove-node-requires c = has_node c.self.inside.nodes c.self.inside.queues.items c.args.by c.self.invariant (rw (← c.self.view_is) at c.requires)

pub index-queue-requires : goal.index-queue-requires
index-queue-requires c =
    let took = taken c.self.inside.nodes c.self.inside.queues.items c.args.by c.remove-node.result c.self.invariant
    (rw (← c.self.view_is) at c.requires) c.remove-node.ensures.node in
    omega (arith, took.2.within, c.self.inside.queues.ok.0)

pub without-requires : goal.without-requires
without-requires c =
    let took = taken c.self.inside.nodes c.self.inside.queues.items c.args.by c.remove-node.result c.self.invariant
    (rw (← c.self.view_is) at c.requires) c.remove-node.ensures.node in
    longer_read c.self.inside.nodes c.remove-node.new.self c.self.inside.queues.items c.index-queue.result.now c.args.by took.0 c.remove-node.result
    took.1 took.2 c.index-queue.ensures

pub index_mut-requires : goal.index_mut-requires
index_mut-requires c =
    let took = taken c.self.inside.nodes c.self.inside.queues.items c.args.by c.remove-node.result c.self.invariant
    (rw (← c.self.view_is) at c.requires) c.remove-node.ensures.node in
    omega (arith, took.2.within, c.self.inside.queues.ok.0)

pub join-requires-clause-before : goal.join-requires-clause-before
join-requires-clause-before c =
    let took = taken c.self.inside.nodes c.self.inside.queues.items c.args.by c.remove-node.result c.self.invariant
    (rw (← c.self.view_is) at c.requires) c.remove-node.ensures.node in
    before_known c.self.inside.nodes c.remove-node.new.self c.self.inside.queues.items c.index-queue.result.now c.args.by took.0 c.remove-node.result
    took.1 took.2 c.index-queue.ensures (record {
      nodes = c.remove-node.ensures.nodes;
      keys = c.remove-node.ensures.keys;
      len = c.remove-node.ensures.len;
      room = c.remove-node.ensures.room;
      capacity = c.remove-node.ensures.capacity;
    })

pub join-requires-clause-after : goal.join-requires-clause-after
join-requires-clause-after c =
    let took = taken c.self.inside.nodes c.self.inside.queues.items c.args.by c.remove-node.result c.self.invariant
    (rw (← c.self.view_is) at c.requires) c.remove-node.ensures.node in
    after_known c.self.inside.nodes c.remove-node.new.self c.self.inside.queues.items c.index-queue.result.now c.args.by took.0 c.remove-node.result
    took.1 took.2 c.index-queue.ensures (record {
      nodes = c.remove-node.ensures.nodes;
      keys = c.remove-node.ensures.keys;
      len = c.remove-node.ensures.len;
      room = c.remove-node.ensures.room;
      capacity = c.remove-node.ensures.capacity;
    })

pub invariant_of-self : goal.invariant_of-self
invariant_of-self c =
    let took = taken c.self.inside.nodes c.self.inside.queues.items c.args.by c.remove-node.result c.self.invariant
    (rw (← c.self.view_is) at c.requires) c.remove-node.ensures.node in
    (unlinked c.self.inside.nodes c.remove-node.new.self c.self.inside.queues.items c.index-queue.result.now c.args.by took.0 c.remove-node.result
    took.1 took.2 c.index-queue.ensures (record {
      nodes = c.remove-node.ensures.nodes;
      keys = c.remove-node.ensures.keys;
      len = c.remove-node.ensures.len;
      room = c.remove-node.ensures.room;
      capacity = c.remove-node.ensures.capacity;
    }) c.join.new.self c.without.result c.without.ensures c.join.ensures).0

pub returns : goal.returns
returns c =
    let took = taken c.self.inside.nodes c.self.inside.queues.items c.args.by c.remove-node.result c.self.invariant
    (rw (← c.self.view_is) at c.requires) c.remove-node.ensures.node in
    rw (← c.self.view_is)
    (unlinked c.self.inside.nodes c.remove-node.new.self c.self.inside.queues.items c.index-queue.result.now c.args.by took.0 c.remove-node.result
    took.1 took.2 c.index-queue.ensures (record {
      nodes = c.remove-node.ensures.nodes;
      keys = c.remove-node.ensures.keys;
      len = c.remove-node.ensures.len;
      room = c.remove-node.ensures.room;
      capacity = c.remove-node.ensures.capacity;
    }) c.join.new.self c.without.result c.without.ensures c.join.ensures).1
