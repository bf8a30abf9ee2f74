use Rattle.std.proofs.Common.{rules}
use Rattle.ada_embed.specs.Lasting.{IsCompacted}
use Rattle.ada_embed.proofs.Asking.{changed_by}
use Rattle.ada_embed.proofs.adatask_compact.Goals as goal

pub returns-in-Lasting : goal.returns-in-Lasting
returns-in-Lasting c =
    changed_by c.args.h.now.home c.in-Lasting.kernel c.compact-code.new.kernel IsCompacted c.compact-code.result _ (search rules) (search rules)
    c.compact-code.ensures
