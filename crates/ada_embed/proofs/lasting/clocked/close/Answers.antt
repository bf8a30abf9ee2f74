use Rattle.std.proofs.Common.{rules}
use Rattle.ada_lasting.specs.Meaning.{meant}
use Rattle.ada_embed.specs.Requests as asked
use Rattle.ada_embed.specs.Requests.{read_as}
use Rattle.ada_embed.proofs.Asking.{answered_alike}
use Rattle.ada_embed.proofs.lasting.clocked.close.Goals as goal

pub returns : goal.returns
returns c =
    answered_alike c.args.kernel.now c.answer_at.new.kernel (read_as meant c.close_in.result) (asked.close_in c.args.by).lasting _ c.args.now
    c.answer_at.result _ c.args.at.now c.answer_at.new.at c.close_in.ensures (search rules) (search rules) c.answer_at.ensures
