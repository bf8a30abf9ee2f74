use Rattle.std.proofs.Common.{rules, ◌∙◌}
use Rattle.ada_lasting.specs.Meaning.{meant}
use Rattle.ada_embed.specs.Requests.{read_as, wait_in}
use Rattle.ada_embed.proofs.Asking.{answered_alike_without, accept_alone}
use Rattle.ada_embed.proofs.lasting.answers.wait.Goals as goal

pub returns-then-is_empty : goal.returns-then-is_empty
returns-then-is_empty c =
    answered_alike_without c.args.kernel.now c.answer.new.kernel (read_as meant c.accept_in.result)
    (wait_in c.args.by c.args.choices.now c.args.tail c.args.delays.now c.args.pick).lasting c.answer.result _ c.args.at.now c.answer.new.at
    (c.accept_in.ensures ∙ accept_alone c.args.by c.args.pick c.args.tail _ c.args.choices.now c.args.delays.now (search rules) (search rules)
    (search rules))
    (search rules) c.answer.ensures
