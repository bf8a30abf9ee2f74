use Rattle.std.proofs.Common.{◌+◌, ◌∙◌, inl, inr, take}
use Rattle.std.proofs.lemmas.Result.{err_from_is_err_and}
use Rattle.ada_replay.specs.Ends.{state}
use Rattle.ada_replay.proofs.Playing.{says_at_rest}
use Rattle.ada_replay.proofs.Cuts.{nothing_pending, pending_line, pending_piece, lines_cut, some_written, all_played, play_ends, play_is_cut}
use Rattle.ada_replay.proofs.play.play.Goals as goal

pub returns-in-Err-clause-err : goal.returns-in-Err-clause-err
returns-in-Err-clause-err g c = (
  inl c.in-Err.ensures.err.0,
  lines_cut c.args.lines.now c.loop-line.line-index (state c.args.kernel.now c.args.names.now) (state c.loop-line.kernel c.loop-line.names)
      (g.W.Write.contents c.args.writer.now) (g.W.Write.contents c.loop-line.writer) (g.W.Write.contents c.write_output.new.writer) c.loop-line.text.items
      (record { lawful = c.in-Err.ensures.at_rest.0; settled = c.in-Err.ensures.at_rest.1 }) c.loop-line.invariant
      (some_written c.loop-line.text.items c.deref.result.now (g.W.Write.contents c.loop-line.writer) (g.W.Write.contents c.write_output.new.writer)
      c.write_output.result (c.deref.ensures.value ∙ c.in-Err.ensures.err.1) c.write_output.ensures.ok c.write_output.ensures.err),
)

pub returns-in_err-write_piece-clause-err : goal.returns-in_err-write_piece-clause-err
returns-in_err-write_piece-clause-err g c =
    let p = err_from_is_err_and c.from_residual.result c.from_residual.ensures.1 in
    let so_far =
    pending_line c.args.lines.now c.loop-line.line-index c.line-item.result (state c.args.kernel.now c.args.names.now)
    (state c.loop-line.kernel c.loop-line.names) (state c.say.new.kernel c.say.new.names)
    (g.W.Write.contents c.args.writer.now) (g.W.Write.contents c.loop-line.writer) c.loop-line.text.items c.say.new.text.items
    c.loop-line-test.true c.line-item.is c.loop-line.invariant c.in_default.ensures.ok in
    rw (p.1, p.2) (
      inr c.in_err-write_piece.ensures.err.0,
      lines_cut c.args.lines.now (c.loop-line.line-index + 1) (state c.args.kernel.now c.args.names.now) (state c.say.new.kernel c.say.new.names)
          (g.W.Write.contents c.args.writer.now) (g.W.Write.contents c.loop-line.writer) (g.W.Write.contents c.write_piece.new.writer) c.say.new.text.items
          (says_at_rest c.line-item.result (state c.loop-line.kernel c.loop-line.names) (state c.say.new.kernel c.say.new.names) c.in_default.ensures.ok.0
          (record { lawful = c.in_default.ensures.at_rest.0; settled = c.in_default.ensures.at_rest.1 }) c.in_default.ensures.ok.2)
          so_far (c.in_err-write_piece.ensures.err.1, c.in_err-write_piece.ensures.err.2),
    )

pub loop-line-init : goal.loop-line-init
loop-line-init g c =
    rw (c.reserve.ensures.items, c.new-text.ensures.items) (nothing_pending (state c.args.kernel.now c.args.names.now) (g.W.Write.contents c.args.writer.now))

pub loop-line-preserved : goal.loop-line-preserved
loop-line-preserved g c =
    pending_piece (take (c.loop-line.line-index + 1) c.args.lines.now) (state c.args.kernel.now c.args.names.now) (state c.say.new.kernel c.say.new.names)
    (g.W.Write.contents c.args.writer.now) (g.W.Write.contents c.loop-line.writer) (g.W.Write.contents c.write_piece.new.writer)
    c.say.new.text.items c.write_piece.new.text.items
    (pending_line c.args.lines.now c.loop-line.line-index c.line-item.result (state c.args.kernel.now c.args.names.now)
    (state c.loop-line.kernel c.loop-line.names) (state c.say.new.kernel c.say.new.names)
    (g.W.Write.contents c.args.writer.now) (g.W.Write.contents c.loop-line.writer) c.loop-line.text.items c.say.new.text.items
    c.loop-line-test.true c.line-item.is c.loop-line.invariant c.in_default.ensures.ok)
    c.in_ok-write_piece.ensures.ok

pub returns-clause-ok : goal.returns-clause-ok
returns-clause-ok g c =
    play_ends c.args.lines.now (state c.args.kernel.now c.args.names.now) (state c.loop-line.kernel c.loop-line.names)
    (g.W.Write.contents c.args.writer.now) (g.W.Write.contents c.loop-line.writer) (g.W.Write.contents c.write_output-2.new.writer)
    c.loop-line.text.items c.deref-2.result.now c.write_output-2.result
    (all_played c.args.lines.now c.loop-line.line-index (state c.args.kernel.now c.args.names.now) (state c.loop-line.kernel c.loop-line.names)
    (g.W.Write.contents c.args.writer.now) (g.W.Write.contents c.loop-line.writer) c.loop-line.text.items c.loop-line-test.false c.loop-line.invariant)
    c.deref-2.ensures.value c.write_output-2.ensures.ok

pub returns-clause-err : goal.returns-clause-err
returns-clause-err g c =
    play_is_cut c.args.lines.now (state c.args.kernel.now c.args.names.now) (state c.loop-line.kernel c.loop-line.names)
    (g.W.Write.contents c.args.writer.now) (g.W.Write.contents c.loop-line.writer) (g.W.Write.contents c.write_output-2.new.writer)
    c.loop-line.text.items c.deref-2.result.now c.write_output-2.result
    (all_played c.args.lines.now c.loop-line.line-index (state c.args.kernel.now c.args.names.now) (state c.loop-line.kernel c.loop-line.names)
    (g.W.Write.contents c.args.writer.now) (g.W.Write.contents c.loop-line.writer) c.loop-line.text.items c.loop-line-test.false c.loop-line.invariant)
    c.deref-2.ensures.value c.write_output-2.ensures.err
