use Rattle.std.proofs.Common.{◌-◌, ◌∙◌, ap, arith, length, reverse, drop}
use Rattle.std.proofs.lemmas.List.{take_all, length-drop}
use Rattle.ada_waiting.proofs.Groups.{first_part, last_part}
use Rattle.ada_waiting.proofs.runnable.was_let_go.Goals as goal

pub returns : goal.returns
returns c =
    let events = c.args.events.now in
    let count = c.count_before-count.result in
    let many = c.count_before-count.ensures.many in
    let rest = take_all (length events - count) (drop count events) (omega (arith, length-drop count events)) in
    rw (← first_part events count many, ← ap reverse rest ∙ last_part events count many) c.is_let_go.ensures
