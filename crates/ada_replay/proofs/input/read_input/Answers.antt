use Rattle.std.proofs.Common.{inl, inr, arith}
use Rattle.ada_replay.proofs.Bytes.{consumed_whole, takes_more}
use Rattle.ada_replay.proofs.input.read_input.Goals as goal
use Rattle.ada_replay.proofs.input.read_input.Goals.{then-loop-more-test+else-len-lt-MOST_BYTES, else-loop-more-test}

pub returns-clause-ok : goal.returns-clause-ok
returns-clause-ok g c =
    consumed_whole (g.R.Read.remaining c.args.reader.now) (g.R.Read.remaining c.loop-more.reader) c.loop-more.text.items 823297
    c.loop-more.invariant.3 (omega arith)
    (elim c.loop-more-test.branch [
      | then-loop-more-test+else-len-lt-MOST_BYTES w ↦ inr (omega arith)
      | else-loop-more-test w ↦ inl (c.loop-more.invariant.4 w.loop-more-test.false)
    ])

pub returns-in_err-read-clause-taken : goal.returns-in_err-read-clause-taken
returns-in_err-read-clause-taken g c =
    takes_more (g.R.Read.remaining c.args.reader.now) (g.R.Read.remaining c.loop-more.reader) (g.R.Read.remaining c.read_piece.new.reader)
    c.loop-more.text.items 823297 _ c.loop-more.invariant.3 c.loop-more.invariant.2 c.loop-more.invariant.1 c.read_piece.ensures.taken
