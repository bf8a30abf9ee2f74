use Rattle.std.proofs.Common.{rules, ap}
use Rattle.ada_lasting.specs.Meaning.{meant}
use Rattle.ada_embed.specs.Requests.{read_as}
use Rattle.ada_embed.proofs.Asking.{accepted_without, refused_without_clock}
use Rattle.ada_embed.proofs.lasting.answers.answer.Goals as goal

pub returns-in-Ok-step : goal.returns-in-Ok-step
returns-in-Ok-step c =
    accepted_without c.args.kernel.now c.step.new.self (read_as meant c.args.request) (meant c.in-Ok.request) c.args.at.now
    c.in-Ok-step.position (ap (read_as meant) c.in-Ok.is) c.step.ensures.given_up c.in-Ok-step.ensures.ok

pub returns-in-Err-step : goal.returns-in-Err-step
returns-in-Err-step c =
    refused_without_clock c.args.kernel.now c.step.new.self (read_as meant c.args.request) (meant c.in-Ok.request) c.in-Err-step.cause _
    c.args.at.now (ap (read_as meant) c.in-Ok.is) (search rules) c.step.ensures.given_up c.in-Err-step.ensures.err
