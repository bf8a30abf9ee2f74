use Rattle.std.proofs.Common.{◌∙◌, ap, sym, subst, List}
use mathlib.Core.List.{IsPrefix}
use Rattle.ada_events.specs.declared.board.Board.{Board}
use Rattle.ada_events.specs.Boards.{AreTrue}
use Rattle.ada_board.proofs.Public.{follows}
use Rattle.ada_board.proofs.writer.publish_queued.Goals as goal

pub publish_as-requires : goal.publish_as-requires
publish_as-requires g c = λ next is views rule at.
    let before = c.args.publisher.desk.shown.value.edition.value in
    let boards = ap (λ k. k.boards) is in
    let kept : AreTrue next.edition.value.boards = let P : List Board → Type 0 = λ l. AreTrue l in subst P (sym boards) c.requires.1 in
    let grows : IsPrefix before.boards next.edition.value.boards = let P : List Board
    → Type 0 = λ l. IsPrefix before.boards l in subst P (sym boards) c.requires.2 in
    follows g.J.Naming.book c.args.publisher.desk.place.id _ before next.edition.value (ap (λ k. k.book) is ∙ c.requires.0) kept grows views rule at
