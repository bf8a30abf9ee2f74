use Rattle.std.proofs.Common.{rules, sym, ap, ◌∙◌, subst, ◌≡◌, ◌<◌, Some, List, length, get_or}
use Rattle.std.proofs.lemmas.List.Sorted.{answers_always}
use Rattle.std.proofs.lemmas.Cmp.{ranked}
use Rattle.std.proofs.lemmas.Bool.{eqb-true}
use Rattle.ada_standing.specs.declared.renaming.Place.{Place}
use Rattle.ada_standing.specs.Names.{placed}
use Rattle.ada_standing.proofs.Placing.{placed_at}
use Rattle.ada_standing.proofs.renaming.Renaming.is_placed.Goals as goal

-- the place that was found has the old position, and is the one that is found by it
pub returns-in-Ok : goal.returns-in-Ok
returns-in-Ok c = λ same.
    let places : List Place = c.self.inside.places.items in
    let here : Place = c.index.result.now in
    let by_key = c.in-Ok.ensures.position (λ (p : Place). p.old) (answers_always _ _ _ (λ f a r g called. search rules)) in
    let within : c.in-Ok.at < length places = subst (λ (l : List Place). c.in-Ok.at < length l) c.deref.ensures.value c.in-Ok.ensures.bound in
    let read : get_or c.deref.result.now c.in-Ok.at here ≡ here =
    ap (λ (l : List Place). get_or l c.in-Ok.at here) c.deref.ensures.value ∙ sym c.index.ensures in
    let old : here.old ≡ c.args.old = ap (λ (p : Place). p.old) (sym read) ∙ ranked _ c.args.old _ (sym (by_key here)) in
    let at_here : placed places here.old ≡ Some here.new =
    subst (λ (p : Place). placed places p.old ≡ Some p.new) (sym c.index.ensures) (placed_at places 0 c.in-Ok.at here c.self.invariant.1 within) in
    rw (← c.self.view_is, ← old, ← eqb-true here.new c.args.new same) at_here
