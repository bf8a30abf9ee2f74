use Rattle.std.proofs.Common.{◌≡◌, ℕ, suc, ◌+◌, Bool, true, false, find, drop, option_map, sym, ap, ◌∙◌, arith}
use Rattle.ada_events.specs.declared.names.TaskNo.{TaskNo as Number}
use Rattle.ada_explore.specs.Scripts as scripts
use Rattle.ada_explore.proofs.Places.{find_on, find_past}
use Rattle.ada_explore.proofs.rest.Rest.next_of.Goals as goal

pub returns-then-asks_at : goal.returns-then-asks_at
returns-then-asks_at c =
    let test : ℕ → Bool = λ place.
    scripts.is_same (scripts.asker_at c.args.script.now c.args.self.now.names place) (option_map (λ (t : Number). t.0) c.args.by) in
    sym (c.loop-place.invariant
    ∙ find_on test c.deref-place-items.result.now c.loop-place.place-index 0 true c.loop-place-test.true (sym c.asks_at.ensures ∙ c.if-asks_at.true))

pub loop-place-preserved : goal.loop-place-preserved
loop-place-preserved c =
    let test : ℕ → Bool = λ place.
    scripts.is_same (scripts.asker_at c.args.script.now c.args.self.now.names place) (option_map (λ (t : Number). t.0) c.args.by) in
    let items = c.deref-place-items.result.now in
    let next : suc c.loop-place.place-index ≡ c.loop-place.place-index + 1 = omega arith in
    c.loop-place.invariant
    ∙ find_on test items c.loop-place.place-index 0 false c.loop-place-test.true (sym c.asks_at.ensures ∙ c.if-asks_at.false)
    ∙ ap (λ k. find test (drop k items)) next

pub returns : goal.returns
returns c =
    let test : ℕ → Bool = λ place.
    scripts.is_same (scripts.asker_at c.args.script.now c.args.self.now.names place) (option_map (λ (t : Number). t.0) c.args.by) in
    sym (c.loop-place.invariant ∙ find_past test c.deref-place-items.result.now c.loop-place.place-index c.loop-place-test.false)
