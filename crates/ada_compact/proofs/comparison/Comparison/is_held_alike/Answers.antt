use Rattle.std.proofs.Common.{rules, sym}
use Rattle.ada_compact.proofs.Suspended.{same_held}
use Rattle.ada_compact.proofs.comparison.Comparison.is_held_alike.Goals as goal

-- both tasks are suspended at the events that were compared
pub returns-in-Some-Some : goal.returns-in-Some-Some
returns-in-Some-Some c = λ same.
    same_held _ _ _ c.args.old.0 c.args.new.0 _ _ _ _ c.record.ensures.lawful (c.record.ensures.right.suspension.at.held (search rules))
    (c.record-2.ensures.right.suspension.at.held (search rules)) (c.is_placed.ensures c.if-not-is_placed.false)
    (sym c.in-Some-Some.ensures.event) (sym c.in-Some-Some.ensures'.event) (c.is_same_hold.ensures same)
