use Rattle.std.proofs.Common.{◌≡◌, suc, ◌+◌, true, false, not, drop, sym, ap, ◌∙◌, arith}
use Rattle.std.specs.List.{list_any}
use Rattle.ada_explore.specs.Scripts as scripts
use Rattle.ada_explore.proofs.Places.{any_on, any_past}
use Rattle.ada_explore.proofs.rest.Rest.all_silent.Goals as goal

pub returns-then-may_say : goal.returns-then-may_say
returns-then-may_say c =
    let test = scripts.may_say c.args.script.now c.args.kernel.now c.args.self.now in
    sym (ap not (c.loop-place.invariant
    ∙ any_on test c.deref-place-items.result.now c.loop-place.place-index 0 true c.loop-place-test.true (sym c.may_say.ensures ∙ c.if-may_say.true)))

pub loop-place-preserved : goal.loop-place-preserved
loop-place-preserved c =
    let test = scripts.may_say c.args.script.now c.args.kernel.now c.args.self.now in
    let items = c.deref-place-items.result.now in
    let next : suc c.loop-place.place-index ≡ c.loop-place.place-index + 1 = omega arith in
    c.loop-place.invariant
    ∙ any_on test items c.loop-place.place-index 0 false c.loop-place-test.true (sym c.may_say.ensures ∙ c.if-may_say.false)
    ∙ ap (λ k. list_any test (drop k items)) next

pub returns : goal.returns
returns c =
    let test = scripts.may_say c.args.script.now c.args.kernel.now c.args.self.now in
    sym (ap not (c.loop-place.invariant ∙ any_past test c.deref-place-items.result.now c.loop-place.place-index c.loop-place-test.false))
