use Rattle.std.proofs.Common.{sym, ◌∙◌}
use Rattle.std.proofs.lemmas.Bool.{not-true}
use Rattle.ada_search.proofs.Standstill.{stuck_here}
use Rattle.ada_search.proofs.stuck.is_stuck.Goals as goal

pub returns-in-Stuck : goal.returns-in-Stuck
returns-in-Stuck c = λ yes.
    let known = c.journal-journal.ensures in
    stuck_here c.args.kernel.now known.lawful known.settled
    (not-true _ (sym c.has_room.ensures ∙ c.if-not-has_room.false)) (sym c.verdict_in.ensures ∙ c.in-Stuck.is)
