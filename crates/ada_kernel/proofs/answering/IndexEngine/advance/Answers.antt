use Rattle.std.proofs.Common.{◌≡◌, ◌<◌, Some, refl, sym, ap, ◌∙◌, subst}
use Rattle.ada_events.specs.Forced.{forced}
use Rattle.ada_agenda.specs.Keeping.{IsAgendaOf}
use Rattle.ada_kernel.specs.internal.Indexes.{IsIndexOf}
use Rattle.ada_kernel.proofs.Keys.{none_is_forced}
use Rattle.ada_kernel.proofs.FirstSteps.{may_take, step_taken, stands_taken, journal_left, stands_left, weight_left}
use Rattle.ada_kernel.proofs.answering.IndexEngine.advance.Goals as goal

pub loop-row-init : goal.loop-row-init
loop-row-init c = (c.requires.stands, refl)

pub take_first-requires-clause-first : goal.take_first-requires-clause-first
take_first-requires-clause-first c =
    may_take c.loop-row.self c.first.new.self c.loop-row.journal c.in-Some.row c.in-Some.key c.loop-row.invariant.0 c.first.ensures.same
    c.in-Some.ensures.first
    (subst (λ j. (step : _) → forced j.events ≡ Some step → 0 < j.spare) (sym c.loop-row.invariant.1) c.requires.room)

pub returns-then-take_first-clause-step : goal.returns-then-take_first-clause-step
returns-then-take_first-clause-step c _ =
    step_taken _ c.take_first.new.self c.args.journal.now c.loop-row.journal c.take_first.new.journal c.in-Some.row c.in-Some.key _
    c.loop-row.invariant.1 c.take_first.ensures c.if-take_first.true

pub returns-then-take_first-clause-stands : goal.returns-then-take_first-clause-stands
returns-then-take_first-clause-stands c =
    stands_taken _ c.take_first.new.self c.args.journal.now c.loop-row.journal c.take_first.new.journal c.in-Some.row c.in-Some.key _
    c.loop-row.invariant.1 c.take_first.ensures c.if-take_first.true

pub loop-row-smaller : goal.loop-row-smaller
loop-row-smaller c =
    weight_left _ c.take_first.new.self c.args.journal.now c.loop-row.journal c.take_first.new.journal c.in-Some.row c.in-Some.key _
    c.loop-row.invariant.1 c.take_first.ensures c.remove.new.self c.loop-row.self.agenda c.first.ensures.same c.if-take_first.false
    c.in-Some.ensures.first.here c.remove.ensures.fewer

pub loop-row-preserved : goal.loop-row-preserved
loop-row-preserved c = (
  stands_left _ c.take_first.new.self c.args.journal.now c.loop-row.journal c.take_first.new.journal c.in-Some.row c.in-Some.key _
      c.loop-row.invariant.1 c.take_first.ensures c.remove.new.self
      (subst (λ a. IsIndexOf (record c.loop-row.self { agenda = a }) c.loop-row.journal.events) (sym c.first.ensures.same) c.loop-row.invariant.0)
      c.if-take_first.false c.remove.ensures.others,
  journal_left _ c.take_first.new.self c.args.journal.now c.loop-row.journal c.take_first.new.journal c.in-Some.row c.in-Some.key _
      c.loop-row.invariant.1 c.take_first.ensures c.if-take_first.false,
)

pub returns-clause-rest : goal.returns-clause-rest
returns-clause-rest c _ = (
  ap (λ j. forced j.events) (sym c.loop-row.invariant.1)
      ∙ sym (none_is_forced c.first.new.self c.loop-row.journal.events
      (subst (λ rows. IsAgendaOf rows c.loop-row.journal.events) (sym c.first.ensures.same) c.loop-row.invariant.0.agenda) c.in_default.ensures.none),
  ap (λ j. j.events) c.loop-row.invariant.1,
)

pub returns-clause-stands : goal.returns-clause-stands
returns-clause-stands c =
    subst (λ a. IsIndexOf (record c.loop-row.self { agenda = a }) c.loop-row.journal.events) (sym c.first.ensures.same) c.loop-row.invariant.0
