use Rattle.std.proofs.Common.{◌≡◌, ℕ, ◌+◌, ◌-◌, None, length, get_or}
use Rattle.ada_names.proofs.scopes.make_room.Given as goal

abbrev pub invariant-room : goal.invariant-room
invariant-room l = (k : ℕ) → get_or l.table.items k None ≡ get_or l.fn.table.items k None

abbrev pub decreases-room : goal.decreases-room
decreases-room l = l.symbol + 1 - length l.table.items
