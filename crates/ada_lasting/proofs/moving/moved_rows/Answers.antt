use Rattle.std.proofs.Common.{Some, None, sym, ◌∙◌, arith}
use Rattle.std.proofs.lemmas.List.{append-nil}
use Rattle.ada_standing.specs.Names.{placed}
use Rattle.ada_lasting.proofs.MovedNames.{moved-more, moved-all}
use Rattle.ada_lasting.proofs.moving.moved_rows.Goals.{in-Some+in_ok-push, in_default}
use Rattle.ada_lasting.proofs.moving.moved_rows.Goals as goal

pub loop-row-preserved : goal.loop-row-preserved
loop-row-preserved c =
    let to = placed c.args.renaming.now.places in
    elim c.match-position.branch [
      | in-Some+in_ok-push w ↦
          rw w.out-is
          (moved-more to c.args.rows.now c.loop-row.row-index c.loop-row.out.items w.push.new.self.items (Some w.in-Some.present) c.loop-row-test.true
          (sym w.in-Some.is ∙ c.position.ensures) w.in_ok-push.ensures.items c.loop-row.invariant)
      | in_default w ↦
          rw w.out-is
          (moved-more to c.args.rows.now c.loop-row.row-index c.loop-row.out.items c.loop-row.out.items None c.loop-row-test.true
          (sym w.in_default.is ∙ c.position.ensures) (sym (append-nil c.loop-row.out.items)) c.loop-row.invariant)
    ]

pub returns : goal.returns
returns c = moved-all (placed c.args.renaming.now.places) c.args.rows.now c.loop-row.row-index c.loop-row.out.items (omega arith) c.loop-row.invariant
