use Rattle.std.proofs.Common.{◌≡◌, ◌≤◌, fold, take}
use Rattle.ada_text.specs.Trees.{counted}
use Rattle.ada_text.proofs.tree.reach.Reach.are_in_order.Given as goal

abbrev pub invariant-loop-node : goal.invariant-loop-node
invariant-loop-node l = (l.count ≡ fold (counted l.self) 0 (take l.node-index l.nodes)) × (l.count ≤ l.node-index)
