use Rattle.std.proofs.Common.{◌≡◌, false, ◌+◌, ◌-◌, ◌≤◌, cond, length, vec_len}
use Rattle.std.specs.Io.KnownBytes.{Consumes, IsAtEnd}
use Rattle.ada_replay.proofs.input.read_input.Given as goal

abbrev pub invariant-loop-more : goal.invariant-loop-more
invariant-loop-more g l =
    (vec_len l.piece ≡ 65536) × (vec_len l.text ≤ 823297) × (length l.text.items ≡ vec_len l.text)
    × Consumes (g.R.Read.remaining l.initial.reader) (g.R.Read.remaining l.reader) l.text.items
    × (l.more ≡ false → IsAtEnd (g.R.Read.remaining l.reader))

abbrev pub decreases-loop-more : goal.decreases-loop-more
decreases-loop-more g l = 823297 - vec_len l.text + cond l.more 1 0
