use Rattle.std.proofs.Common.{sym, ◌∙◌, inr, ◌-◌, length, length-append, [], ◌∷◌, arith}
use Rattle.std.proofs.lemmas.Bool.{eqb-true}
use Rattle.std.proofs.lemmas.Result.{err_from_is_err_and}
use Rattle.ada_script.specs.internal.Reading.{family_at}
use Rattle.ada_script.proofs.Repeat.{repeat_step, repeat_fails, repeat_full, repeat_over, room_left}
use Rattle.ada_script.proofs.lists.read_families.Goals as goal

pub returns-then-is_full : goal.returns-then-is_full
returns-then-is_full c =
    inr (sym c.loop-families.invariant.reads ∙ repeat_full family_at 16 c.loop-families.families c.loop-families.words
    (sym c.is_over.ensures ∙ c.loop-families-test.true) (eqb-true _ _ (sym c.is_full.ensures.value ∙ c.if-is_full.true)))

pub returns-in_err-family : goal.returns-in_err-family
returns-in_err-family c =
    let p = err_from_is_err_and c.from_residual.result c.from_residual.ensures.1 in
    let room = room_left _ 16 c.loop-families.invariant.fits (sym c.is_full.ensures.value ∙ c.if-is_full.false) in
    rw (p.1, p.2) (inr (sym c.loop-families.invariant.reads
    ∙ repeat_fails family_at 16 c.loop-families.families c.loop-families.words c.in_err-family.field-0.0 (sym c.is_over.ensures ∙ c.loop-families-test.true)
    room c.in_err-family.ensures))

pub loop-families-preserved : goal.loop-families-preserved
loop-families-preserved c =
    let room = room_left _ 16 c.loop-families.invariant.fits (sym c.is_full.ensures.value ∙ c.if-is_full.false) in
    rw c.in_ok-push.ensures.ok record {
      fits = omega (arith, length-append c.loop-families.families (c.in_ok-family.family ∷ []));
      reads = sym (repeat_step family_at 16 c.loop-families.families c.loop-families.words c.in_ok-family.family c.read_family.new.words
          (sym c.is_over.ensures ∙ c.loop-families-test.true) room c.in_ok-family.ensures) ∙ c.loop-families.invariant.reads;
    }

pub returns : goal.returns
returns c =
    sym c.loop-families.invariant.reads ∙ repeat_over family_at (16 - length c.loop-families.families) c.loop-families.families c.loop-families.words
    (sym c.is_over.ensures ∙ c.loop-families-test.false)
