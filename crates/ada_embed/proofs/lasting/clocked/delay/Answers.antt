use Rattle.std.proofs.Common.{rules}
use Rattle.ada_lasting.specs.Meaning.{meant}
use Rattle.ada_embed.specs.Requests as asked
use Rattle.ada_embed.specs.Requests.{read_as}
use Rattle.ada_embed.proofs.Asking.{answered_alike}
use Rattle.ada_embed.proofs.lasting.clocked.delay.Goals as goal

pub returns : goal.returns
returns c =
    answered_alike c.args.kernel.now c.answer_at.new.kernel (read_as meant c.delay_in.result) (asked.delay_in c.args.by c.args.duration).lasting _ c.args.now
    c.answer_at.result _ c.args.at.now c.answer_at.new.at (search rules) (search rules) (search rules) c.answer_at.ensures
