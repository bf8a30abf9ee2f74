use Rattle.ada_triggers.proofs.Holding.{member_put}
use Rattle.ada_triggers.proofs.masters.put_member.Goals as goal

pub returns-in-Block : goal.returns-in-Block
returns-in-Block c = rw c.in-Block.is (member_put c.args.agenda.now c.put.new.agenda c.in-Block.position c.put.ensures)
