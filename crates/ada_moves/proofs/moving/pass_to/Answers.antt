use Rattle.std.proofs.Common.{ℤ, w64, subst, refl}
use Rattle.std.proofs.lemmas.Int.{to_z-of_z}
use Rattle.ada_events.specs.declared.request.Request.TheVariants.{Tick}
use Rattle.ada_events.specs.Steps.{IsAccepted, IsRefused}
use Rattle.ada_behaviours.specs.Moves.{behaving}
use Rattle.ada_moves.proofs.Stepping.{accepts, refuses}
use Rattle.ada_moves.proofs.moving.pass_to.Goals as goal

pub returns-in_ok-settle-in-Ok : goal.returns-in_ok-settle-in-Ok
returns-in_ok-settle-in-Ok g c =
    let accepted = subst (λ (n : ℤ). IsAccepted c.args.kernel.now (Tick n) c.in-Ok.field-0 c.step.new.self)
    (to_z-of_z w64 c.args.now c.ranges.now) c.in-Ok.ensures.ok in
    accepts (behaving (g.B.Behaviour.told c.args.behaviour.now)) _ _ _ _ _ _ c.requires c.in-Ok.field-0 accepted c.in_ok-settle-in-Ok.ensures

pub returns-in_ok-of_the_rules-in-Err : goal.returns-in_ok-of_the_rules-in-Err
returns-in_ok-of_the_rules-in-Err g c =
    let refused = subst (λ (n : ℤ). IsRefused c.args.kernel.now (Tick n) c.in-Err.cause c.step.new.self)
    (to_z-of_z w64 c.args.now c.ranges.now) c.in-Err.ensures.err in
    refuses (behaving (g.B.Behaviour.told c.args.behaviour.now)) _ _ _ _ _ _ c.requires c.in-Err.cause refused
    c.in_ok-of_the_rules-in-Err.ensures.0 c.in_ok-of_the_rules-in-Err.ensures.1 refl
