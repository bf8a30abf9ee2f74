use Rattle.std.proofs.Common.{sym, subst, reverse}
use Rattle.ada_schedules.specs.Schedules.{Comes}
use Rattle.ada_search.proofs.Steps.{ok_then, stepped}
use Rattle.ada_search.proofs.check.Check.cover_choice.Goals as goal

pub returns : goal.returns
returns g c =
    let came = subst (Comes (g.S.Schedules.told c.args.self.now.space.now) (reverse c.args.path.now)) (sym c.in_ok-said.ensures) c.requires in
    ok_then c.cover.result _ _
    (λ covered known yes. stepped _ _ c.args.states.now c.cover.new.states c.args.path.now c.in_ok-schedule.schedule c.args.choice _ _
    c.in_ok-schedule.ensures came c.in_ok-take.ensures (known yes)) c.cover.ensures
