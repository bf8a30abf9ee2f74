use Rattle.std.proofs.Common.{◌≡◌, ◌+◌, map}
use Rattle.std.specs.List.{range_with_len}
use Rattle.ada_run.proofs.seat.seats.Given as goal

-- those who have a seat have them in their order, and a part of the share is left for each one who has none yet
abbrev pub invariant-loop-speaker : goal.invariant-loop-speaker
invariant-loop-speaker g l = (l.share.parts + l.speaker ≡ l.speakers) × (l.share.amount ≡ 0)
    × (map (λ seat. seat.speaker) l.seats.items ≡ range_with_len 0 l.speaker)
