use Rattle.std.proofs.Common.{◌≡◌, ◌++◌, drop}
use Rattle.ada_lasting.specs.internal.Moving.{later}
use Rattle.ada_lasting.proofs.names.Names.add_later.Given as goal

abbrev pub invariant-loop-place : goal.invariant-loop-place
invariant-loop-place l = l.out.items ++ later l.self.since l.self.from l.self.until (drop l.place-index l.places)
    ≡ l.initial.out.items ++ later l.self.since l.self.from l.self.until l.places
