use Rattle.std.proofs.Common.{List, [], ◌∷◌, ◌++◌, subst, sym, ap, ◌∙◌}
use Rattle.ada_events.specs.declared.board.Board.{Board}
use Rattle.ada_events.specs.Boards.{AreTrueOf}
use Rattle.ada_laws.proofs.boards.Publishing.{published_next, published_still}
use Rattle.ada_bench.proofs.album.Album.add.Goals as goal

pub invariant_of-self-in_err-push : goal.invariant_of-self-in_err-push
invariant_of-self-in_err-push c = (
  rw (c.in_err-push.ensures.items) (
      published_still c.self.inside.kernel c.step.new.self c.args.request c.in_ok-step.field-0 c.self.inside.boards.items c.self.invariant.0
      c.in_ok-step.ensures.ok c.step.ensures.lawful),
  c.step.ensures.settled,
)

pub invariant_of-self-2 : goal.invariant_of-self-2
invariant_of-self-2 c = (
  (let P : List Board → Type 0 = λ l. AreTrueOf c.step.new.self l in
      subst P (sym (c.in_ok-push.ensures.items ∙ ap (λ b. c.self.inside.boards.items ++ b ∷ []) c.board.ensures))
      (published_next c.self.inside.kernel c.step.new.self c.args.request c.in_ok-step.field-0 c.self.inside.boards.items c.self.invariant.0 c.self.invariant.1
      c.in_ok-step.ensures.ok)),
  c.step.ensures.settled,
)
