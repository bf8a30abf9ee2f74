use Rattle.std.proofs.Common.{List, rules, subst, w64}
use Rattle.std.proofs.lemmas.Int.{to_z-of_z}
use Rattle.ada_events.specs.declared.event.Event.{Event}
use Rattle.ada_events.specs.declared.request.Request.TheVariants.{Tick}
use Rattle.ada_lasting.specs.Following.{Follows, IsStepped}
use Rattle.ada_lasting.specs.Refusing.{IsRefused}
use Rattle.ada_lasting.specs.Meaning.{meant}
use Rattle.ada_lasting.proofs.Timely.{stepped_later, refused_later, tick_refused, stepped_then, refused_then}
use Rattle.ada_lasting.proofs.kernel.LongKernel.step_at.Goals as goal

pub returns-then-not-wants_tick-clause-ok : goal.returns-then-not-wants_tick-clause-ok
returns-then-not-wants_tick-clause-ok c =
    stepped_later c.args.self.now c.step.new.self c.args.now _ (meant c.args.request) (meant c.later.result)
    c.is_before.result c.wants_tick.result c.step.result
    (record { compares = search rules; onwards = search rules; wants = search rules })
    (search rules) c.later.ensures (search rules) c.step.ensures.given_up c.step.ensures.ok

pub returns-then-not-wants_tick-clause-err : goal.returns-then-not-wants_tick-clause-err
returns-then-not-wants_tick-clause-err c =
    refused_later c.args.self.now c.step.new.self c.args.now _ (meant c.args.request) (meant c.later.result)
    c.is_before.result c.wants_tick.result c.step.result
    (record { compares = search rules; onwards = search rules; wants = search rules })
    (search rules) c.later.ensures (search rules) c.step.ensures.given_up c.step.ensures.err

pub returns-in-Ok-clause-ok : goal.returns-in-Ok-clause-ok
unfolding meant
returns-in-Ok-clause-ok c =
    stepped_then c.args.self.now c.step-2.new.self c.step-in-Ok.new.self c.args.now (meant c.args.request)
    c.is_before.result c.wants_tick.result c.in-Ok.field-0 c.step-in-Ok.result
    (record { compares = search rules; onwards = search rules; wants = search rules })
    (search rules) c.step-2.ensures.given_up
    (subst (λ n. (journal : List Event) → Follows journal c.args.self.now → IsStepped journal (Tick n) c.in-Ok.field-0 c.step-2.new.self)
    (to_z-of_z w64 c.args.now c.ranges.now) c.in-Ok.ensures.ok)
    c.step-in-Ok.ensures.given_up c.step-in-Ok.ensures.ok

pub returns-in-Ok-clause-err : goal.returns-in-Ok-clause-err
unfolding meant
returns-in-Ok-clause-err c =
    refused_then c.args.self.now c.step-2.new.self c.step-in-Ok.new.self c.args.now (meant c.args.request)
    c.is_before.result c.wants_tick.result c.in-Ok.field-0 c.step-in-Ok.result
    (record { compares = search rules; onwards = search rules; wants = search rules })
    (search rules) c.step-2.ensures.given_up
    (subst (λ n. (journal : List Event) → Follows journal c.args.self.now → IsStepped journal (Tick n) c.in-Ok.field-0 c.step-2.new.self)
    (to_z-of_z w64 c.args.now c.ranges.now) c.in-Ok.ensures.ok)
    c.step-in-Ok.ensures.given_up c.step-in-Ok.ensures.err

pub returns-in-Err-clause-err : goal.returns-in-Err-clause-err
unfolding meant
returns-in-Err-clause-err c =
    tick_refused c.args.self.now c.step-2.new.self c.args.now (meant c.args.request) c.is_before.result c.wants_tick.result c.in-Err.cause
    (record { compares = search rules; onwards = search rules; wants = search rules })
    (search rules) c.step-2.ensures.given_up
    (subst (λ n. (journal : List Event) → Follows journal c.args.self.now → IsRefused journal (Tick n) c.in-Err.cause c.args.self.now c.step-2.new.self)
    (to_z-of_z w64 c.args.now c.ranges.now) c.in-Err.ensures.err)
