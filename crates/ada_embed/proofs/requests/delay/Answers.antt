use Rattle.std.proofs.Common.{rules, to_z, of_z, w64}
use Rattle.ada_lasting.specs.Meaning.{meant}
use Rattle.ada_embed.specs.Requests as asked
use Rattle.ada_embed.specs.Requests.{read_as}
use Rattle.ada_embed.proofs.Asking.{answered_by, answered_by_without}
use Rattle.ada_embed.proofs.requests.delay.Goals as goal

pub returns-in-Lasting : goal.returns-in-Lasting
returns-in-Lasting c =
    answered_by c.args.h.now.home c.in-Lasting.kernel c.delay-code.new.kernel (asked.delay_in c.args.by c.args.duration)
    (asked.delay_in c.args.by (to_z w64 (of_z w64 c.args.duration))).lasting
    _ c.args.now c.delay-code.result _ c.args.at.now c.delay-code.new.at (search rules) (search rules) (search rules) (search rules)
    c.delay-code.ensures

pub returns-in-Lasting-2 : goal.returns-in-Lasting-2
returns-in-Lasting-2 c =
    answered_by_without c.args.h.now.home c.in-Lasting.kernel c.answer-code-in-Lasting-2.new.kernel (asked.delay_in c.args.by c.args.duration)
    (read_as meant c.delay_in-in-Lasting-2.result) c.args.now c.answer-code-in-Lasting-2.result _ c.args.at.now c.answer-code-in-Lasting-2.new.at
    (search rules) (search rules) (search rules) (search rules) c.answer-code-in-Lasting-2.ensures
