use Rattle.ada_records.proofs.following.Made.{made_stand, made_slots}
use Rattle.ada_records.proofs.masters.follow_creation.Goals as goal

pub returns-clause-ok : goal.returns-clause-ok
returns-clause-ok c = λ event before makes lawful stand slots. (
  made_stand event before c.args.tables.now c.add_task.new.self c.args.master c.args.families.now lawful makes stand slots c.in_ok-add_task.ensures.ok,
  made_slots event before c.args.tables.now c.add_task.new.self c.args.master c.args.families.now lawful makes stand slots c.in_ok-add_task.ensures.ok,
)
