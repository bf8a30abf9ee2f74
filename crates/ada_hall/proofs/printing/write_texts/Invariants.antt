use Rattle.std.proofs.Common.{drop}
use Rattle.ada_hall.proofs.Printed.{IsLeft}
use Rattle.ada_hall.proofs.printing.write_texts.Given as goal

abbrev pub invariant-loop-kept : goal.invariant-loop-kept
invariant-loop-kept g l =
    IsLeft l.lines l.answers (drop l.kept-index l.answers) l.events l.names (g.W.Write.contents l.initial.writer) (g.W.Write.contents l.writer) l.text.items
