use Rattle.std.proofs.Common.{◌≡◌, filter}
use Rattle.std.specs.List.{range_with_len}
use Rattle.ada_explore.specs.Scripts as scripts
use Rattle.ada_explore.proofs.rest.asking.Given as goal

abbrev pub invariant-loop-place : goal.invariant-loop-place
invariant-loop-place l =
    l.places.items
    ≡ filter (λ place. scripts.is_searched l.freedom.time (scripts.request_at l.script l.names place)) (range_with_len 0 l.place)
