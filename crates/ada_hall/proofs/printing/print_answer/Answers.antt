use Rattle.std.proofs.Common.{refl}
use Rattle.ada_hall.proofs.Printed.{prints_group, still_fine}
use Rattle.ada_hall.proofs.printing.print_answer.Goals as goal

pub returns-in-Group-clause-ok : goal.returns-in-Group-clause-ok
returns-in-Group-clause-ok c =
    still_fine c.print_events.result _ _
    (λ printed. prints_group c.args.line.now c.args.events.now c.args.kept.now c.args.names.now c.bind.new.self c.args.text.now.items
    c.print_events.new.text.items
    c.in-Group.first c.in-Group.last (record { 0 = c.args.kept.now.tasks }) c.in-Group.is c.bind.ensures refl printed) c.print_events.ensures.ok
