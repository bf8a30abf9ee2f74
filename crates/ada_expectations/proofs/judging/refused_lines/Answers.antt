use Rattle.std.proofs.Common.{get_or, sym, ◌∙◌}
use Rattle.std.proofs.lemmas.Option.{slice_get-get_or}
use Rattle.ada_expectations.proofs.Refusals.{no_lines, one_line_more}
use Rattle.ada_expectations.proofs.judging.refused_lines.Goals as goal

pub loop-i-init : goal.loop-i-init
loop-i-init c = c.new-refused.ensures.items ∙ sym (no_lines c.args.answers.now)

pub loop-i-preserved : goal.loop-i-preserved
loop-i-preserved c =
    let lines = c.args.lines.now in
    let at = c.loop-i.i in
    let line = c.index-lines-i.result in
    one_line_more lines c.args.answers.now at (get_or lines at line) c.answer_at.result c.loop-i.refused.items
    c.push_if_refused.new.refused.items (slice_get-get_or lines at line c.loop-i-test.true) c.answer_at.ensures c.loop-i.invariant
    c.in_ok-push_if_refused.ensures
