use Rattle.std.proofs.Common.{arith, sym}
use Rattle.ada_hall.proofs.Counts.{accepted_counts}
use Rattle.ada_hall.proofs.Keeping.{accepted_fits, hall_steps}
use Rattle.ada_hall.proofs.hall.Hall.step.Goals as goal

pub add-requires-clause-fits : goal.add-requires-clause-fits
add-requires-clause-fits g c =
    accepted_fits c.self.inside.tally c.self.inside.published.journal c.step.new.self.journal c.args.request c.in_ok-told.told.at
    c.self.invariant.1.counted c.in_ok-told.ensures.ok c.step.ensures.lawful

pub invariant_of-self-2 : goal.invariant_of-self-2
invariant_of-self-2 g c = (
  c.self.invariant.0,
  hall_steps g.J.Session.script c.self.inside.answers.places c.self.inside.tally c.add.new.self c.self.inside.published c.step.new.self c.self.inside.names
      c.self.inside.answers.kept c.args.request c.in_ok-told.told.at c.self.invariant.1 c.in_ok-told.ensures.ok c.add.ensures.total,
)

pub returns-clause-share : goal.returns-clause-share
returns-clause-share g c =
    rw (sym c.self.view_is) (
    omega (arith, c.add.ensures.amount, accepted_counts c.self.inside.published.journal c.args.request c.step.new.self.journal c.in_ok-told.ensures.ok.after))
