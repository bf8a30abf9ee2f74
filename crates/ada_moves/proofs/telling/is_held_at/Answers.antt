use Rattle.std.proofs.Common.{◌∙◌}
use Rattle.ada_moves.proofs.Held.{kept_place, unknown_nowhere}
use Rattle.ada_moves.proofs.telling.is_held_at.Goals as goal

pub returns-in-Some : goal.returns-in-Some
returns-in-Some c =
    c.is_place.ensures
    ∙ kept_place c.args.kernel.now c.args.task _ c.args.position c.journal-journal.ensures.lawful c.in-Some.ensures.1.suspension.at

pub returns-in-None : goal.returns-in-None
returns-in-None c = unknown_nowhere c.args.kernel.now c.args.task c.args.position c.journal-journal.ensures.lawful c.in-None.ensures
