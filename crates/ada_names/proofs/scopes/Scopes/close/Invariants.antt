use Rattle.std.proofs.Common.{◌≡◌, ◌-◌, ◌≤◌, length, drop, min}
use Rattle.ada_names.proofs.scopes.Scopes.close.Given as goal

abbrev pub invariant-names : goal.invariant-names
invariant-names l = record {
  rest : l.self ≡ drop (length l.fn.self - length l.self) l.fn.self;
  fewer : length l.self ≤ length l.fn.self;
  enough : min (length l.fn.self) l.first ≤ length l.self;
}

abbrev pub decreases-names : goal.decreases-names
decreases-names l = length l.self
