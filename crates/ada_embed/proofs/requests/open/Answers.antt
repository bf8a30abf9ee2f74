use Rattle.std.proofs.Common.{rules, refl}
use Rattle.ada_lasting.specs.Meaning.{meant}
use Rattle.ada_embed.specs.Requests as asked
use Rattle.ada_embed.specs.Requests.{read_as}
use Rattle.ada_embed.proofs.Asking.{answered_by, answered_by_without}
use Rattle.ada_embed.proofs.requests.open.Goals as goal

pub returns-in-Lasting : goal.returns-in-Lasting
returns-in-Lasting c =
    answered_by c.args.h.now.home c.in-Lasting.kernel c.open-code.new.kernel (asked.open_in c.args.by) _ _ c.args.now c.open-code.result _
    c.args.at.now c.open-code.new.at (search rules) refl (search rules) (search rules) c.open-code.ensures

pub returns-in-Lasting-2 : goal.returns-in-Lasting-2
returns-in-Lasting-2 c =
    answered_by_without c.args.h.now.home c.in-Lasting.kernel c.answer-code-in-Lasting-2.new.kernel (asked.open_in c.args.by)
    (read_as meant c.open_in-in-Lasting-2.result) c.args.now c.answer-code-in-Lasting-2.result _ c.args.at.now c.answer-code-in-Lasting-2.new.at
    (search rules) c.open_in-in-Lasting-2.ensures (search rules) (search rules) c.answer-code-in-Lasting-2.ensures
