use Rattle.std.proofs.Common.{◌≡◌, find, drop, option_map}
use Rattle.ada_events.specs.declared.names.TaskNo.{TaskNo as Number}
use Rattle.ada_explore.specs.Scripts as scripts
use Rattle.ada_explore.proofs.rest.Rest.next_of.Given as goal

-- none of the lines before it passes
abbrev pub invariant-loop-place : goal.invariant-loop-place
invariant-loop-place l =
    scripts.next_of l.script l.self (option_map (λ (t : Number). t.0) l.by)
    ≡ find (λ place. scripts.is_same (scripts.asker_at l.script l.self.names place) (option_map (λ (t : Number). t.0) l.by))
    (drop l.place-index l.place-items)
