use Rattle.std.proofs.Common.{◌+◌, drop, inl, inr, ◌∙◌}
use Rattle.std.proofs.lemmas.List.{drop_all}
use Rattle.std.proofs.lemmas.Result.{err_from_is_err_and}
use Rattle.ada_replay.proofs.Cuts.{some_written}
use Rattle.ada_replay.specs.declared.answer.Answer.TheVariants.{Group}
use Rattle.ada_hall.specs.declared.answer.KeptAnswer.{KeptAnswer}
use Rattle.ada_hall.proofs.Printed.{next_left, next_place, next_within, left_one, left_piece, left_cut, texts_end, texts_are_cut}
use Rattle.ada_hall.proofs.printing.write_texts.Goals as goal

no_answer : KeptAnswer
no_answer = record { place = 0; events = 0; tasks = 0; answer = Group 0 0 }

pub line_at-line-requires : goal.line_at-line-requires
unfolding no_answer
line_at-line-requires g c =
    next_place c.args.lines.now _ c.args.events.now
    (next_left c.args.lines.now c.args.answers.now c.loop-kept.kept-index no_answer c.args.events.now c.loop-kept.names (g.W.Write.contents c.args.writer.now)
    (g.W.Write.contents c.loop-kept.writer) c.loop-kept.text.items c.loop-kept-test.true c.loop-kept.invariant)

pub print_answer-requires-clause-within : goal.print_answer-requires-clause-within
unfolding no_answer
print_answer-requires-clause-within g c =
    next_within c.args.lines.now _ c.args.events.now
    (next_left c.args.lines.now c.args.answers.now c.loop-kept.kept-index no_answer c.args.events.now c.loop-kept.names (g.W.Write.contents c.args.writer.now)
    (g.W.Write.contents c.loop-kept.writer) c.loop-kept.text.items c.loop-kept-test.true c.loop-kept.invariant)

pub returns-in-Err-clause-err : goal.returns-in-Err-clause-err
returns-in-Err-clause-err g c = (
  inl c.in-Err.ensures.err.0,
  left_cut c.args.lines.now c.args.answers.now (drop c.loop-kept.kept-index c.args.answers.now) c.args.events.now c.loop-kept.names
      (g.W.Write.contents c.args.writer.now) (g.W.Write.contents c.loop-kept.writer) (g.W.Write.contents c.write_output.new.writer) c.loop-kept.text.items
      c.loop-kept.invariant
      (some_written c.loop-kept.text.items c.deref.result.now (g.W.Write.contents c.loop-kept.writer) (g.W.Write.contents c.write_output.new.writer)
      c.write_output.result (c.deref.ensures.value ∙ c.in-Err.ensures.err.1) c.write_output.ensures.ok c.write_output.ensures.err),
)

pub returns-in_err-write_piece-clause-err : goal.returns-in_err-write_piece-clause-err
unfolding no_answer
returns-in_err-write_piece-clause-err g c =
    let p = err_from_is_err_and c.from_residual.result c.from_residual.ensures.1 in
    let one =
    left_one c.args.lines.now c.args.answers.now c.loop-kept.kept-index no_answer c.line_at-line.result.now c.args.events.now c.loop-kept.names
    c.print_answer.new.names (g.W.Write.contents c.args.writer.now) (g.W.Write.contents c.loop-kept.writer) c.loop-kept.text.items c.print_answer.new.text.items
    c.print_answer.result c.loop-kept-test.true c.line_at-line.ensures c.loop-kept.invariant c.in_default.not-Err c.print_answer.ensures.ok in
    rw (p.1, p.2) (
      inr c.in_err-write_piece.ensures.err.0,
      left_cut c.args.lines.now c.args.answers.now (drop (c.loop-kept.kept-index + 1) c.args.answers.now) c.args.events.now c.print_answer.new.names
          (g.W.Write.contents c.args.writer.now) (g.W.Write.contents c.loop-kept.writer)
          (g.W.Write.contents c.write_piece.new.writer) c.print_answer.new.text.items
          one (c.in_err-write_piece.ensures.err.1, c.in_err-write_piece.ensures.err.2),
    )

pub loop-kept-preserved : goal.loop-kept-preserved
unfolding no_answer
loop-kept-preserved g c =
    left_piece c.args.lines.now c.args.answers.now (drop (c.loop-kept.kept-index + 1) c.args.answers.now) c.args.events.now c.print_answer.new.names
    (g.W.Write.contents c.args.writer.now) (g.W.Write.contents c.loop-kept.writer) (g.W.Write.contents c.write_piece.new.writer)
    c.print_answer.new.text.items c.write_piece.new.text.items
    (left_one c.args.lines.now c.args.answers.now c.loop-kept.kept-index no_answer c.line_at-line.result.now c.args.events.now c.loop-kept.names
    c.print_answer.new.names (g.W.Write.contents c.args.writer.now) (g.W.Write.contents c.loop-kept.writer) c.loop-kept.text.items c.print_answer.new.text.items
    c.print_answer.result c.loop-kept-test.true c.line_at-line.ensures c.loop-kept.invariant c.in_default.not-Err c.print_answer.ensures.ok)
    c.in_ok-write_piece.ensures.ok

pub returns-clause-ok : goal.returns-clause-ok
returns-clause-ok g c =
    texts_end c.args.lines.now c.args.answers.now (drop c.loop-kept.kept-index c.args.answers.now) c.args.events.now c.loop-kept.names
    (g.W.Write.contents c.args.writer.now) (g.W.Write.contents c.loop-kept.writer) (g.W.Write.contents c.write_output-2.new.writer)
    c.loop-kept.text.items c.deref-2.result.now c.write_output-2.result (drop_all c.loop-kept.kept-index c.args.answers.now c.loop-kept-test.false)
    c.loop-kept.invariant c.deref-2.ensures.value c.write_output-2.ensures.ok

pub returns-clause-err : goal.returns-clause-err
returns-clause-err g c =
    texts_are_cut c.args.lines.now c.args.answers.now (drop c.loop-kept.kept-index c.args.answers.now) c.args.events.now c.loop-kept.names
    (g.W.Write.contents c.args.writer.now) (g.W.Write.contents c.loop-kept.writer) (g.W.Write.contents c.write_output-2.new.writer)
    c.loop-kept.text.items c.deref-2.result.now c.write_output-2.result c.loop-kept.invariant c.deref-2.ensures.value c.write_output-2.ensures.err
