use Rattle.std.proofs.Common.{rules, ap}
use Rattle.ada_lasting.specs.Meaning.{meant}
use Rattle.ada_embed.specs.Requests.{read_as}
use Rattle.ada_embed.proofs.Asking.{accepted, refused}
use Rattle.ada_embed.proofs.lasting.answers.answer_at.Goals as goal

pub returns-in-Ok-ask : goal.returns-in-Ok-ask
returns-in-Ok-ask c =
    accepted c.args.kernel.now c.ask.new.kernel (read_as meant c.args.request) (meant c.in-Ok.request) _ c.args.now c.args.at.now
    c.in-Ok-ask.position (ap (read_as meant) c.in-Ok.is) (search rules) c.in-Ok-ask.ensures.ok

pub returns-in-Err-ask : goal.returns-in-Err-ask
returns-in-Err-ask c =
    refused c.args.kernel.now c.ask.new.kernel (read_as meant c.args.request) (meant c.in-Ok.request) c.in-Err-ask.cause _ c.args.now _
    c.args.at.now (ap (read_as meant) c.in-Ok.is) (search rules) (search rules) c.in-Err-ask.ensures.err
