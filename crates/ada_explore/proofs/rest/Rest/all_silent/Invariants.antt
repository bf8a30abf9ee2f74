use Rattle.std.proofs.Common.{◌≡◌, drop}
use Rattle.std.specs.List.{list_any}
use Rattle.ada_explore.specs.Scripts as scripts
use Rattle.ada_explore.proofs.rest.Rest.all_silent.Given as goal

-- nobody may say any of the lines before it
abbrev pub invariant-loop-place : goal.invariant-loop-place
invariant-loop-place l =
    list_any (scripts.may_say l.script l.kernel l.self) l.self.left
    ≡ list_any (scripts.may_say l.script l.kernel l.self) (drop l.place-index l.place-items)
