use Rattle.std.proofs.Common.{sym, ◌∙◌}
use Rattle.ada_statements.proofs.BoundNames.{place_found, place_passed, place_over}
use Rattle.ada_statements.proofs.names.place_of.Goals as goal

pub returns-then-eq : goal.returns-then-eq
returns-then-eq c =
    sym (place_found c.args.name.now c.args.names.now c.loop-i.i c.index-names-i.result c.loop-i-test.true c.index-names-i.is
    (sym c.eq.ensures ∙ c.if-eq.true)) ∙ c.loop-i.invariant

pub loop-i-preserved : goal.loop-i-preserved
loop-i-preserved c =
    place_passed c.args.name.now c.args.names.now c.loop-i.i c.index-names-i.result c.loop-i-test.true c.index-names-i.is
    (sym c.eq.ensures ∙ c.if-eq.false) ∙ c.loop-i.invariant

pub returns : goal.returns
returns c = sym (place_over c.args.name.now c.args.names.now c.loop-i.i c.loop-i-test.false) ∙ c.loop-i.invariant
