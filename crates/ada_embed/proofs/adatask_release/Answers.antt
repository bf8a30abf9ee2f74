use Rattle.std.proofs.Common.{rules}
use Rattle.ada_embed.specs.Lasting.{IsReleased}
use Rattle.ada_embed.proofs.Asking.{changed_by}
use Rattle.ada_embed.proofs.adatask_release.Goals as goal

pub returns-in-Lasting : goal.returns-in-Lasting
returns-in-Lasting c =
    changed_by c.args.h.now.home c.in-Lasting.kernel c.release-code.new.kernel (IsReleased c.args.task) c.release-code.result _ (search rules) (search rules)
    c.release-code.ensures
