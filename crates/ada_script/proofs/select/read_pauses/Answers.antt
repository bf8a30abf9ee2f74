use Rattle.std.proofs.Common.{sym, ◌∙◌, ◌-◌, length, length-append, [], ◌∷◌, arith}
use Rattle.std.proofs.lemmas.Bool.{eqb-true}
use Rattle.std.proofs.lemmas.Result.{err_from_is_err_and}
use Rattle.ada_script.specs.internal.Reading.{next_pause_at}
use Rattle.ada_script.proofs.Repeat.{repeat_step, repeat_fails, repeat_full, repeat_over, room_left}
use Rattle.ada_script.proofs.select.read_pauses.Goals as goal

pub returns-then-is_full : goal.returns-then-is_full
returns-then-is_full c =
    sym c.loop-pauses.invariant.reads ∙ repeat_full (λ before rest. next_pause_at rest) 8 c.loop-pauses.pauses c.loop-pauses.words
    (sym c.is_over.ensures ∙ c.loop-pauses-test.true) (eqb-true _ _ (sym c.is_full.ensures.value ∙ c.if-is_full.true))

pub returns-in_err-pause : goal.returns-in_err-pause
returns-in_err-pause c =
    let p = err_from_is_err_and c.from_residual-in_err-pause.result c.from_residual-in_err-pause.ensures.1 in
    let room = room_left _ 8 c.loop-pauses.invariant.fits (sym c.is_full.ensures.value ∙ c.if-is_full.false) in
    rw (p.1, p.2) (sym c.loop-pauses.invariant.reads
    ∙ repeat_fails (λ before rest. next_pause_at rest) 8 c.loop-pauses.pauses c.loop-pauses.words c.in_err-pause.field-0.0
    (sym c.is_over.ensures ∙ c.loop-pauses-test.true) room c.in_err-pause.ensures)

pub loop-pauses-preserved : goal.loop-pauses-preserved
loop-pauses-preserved c =
    let room = room_left _ 8 c.loop-pauses.invariant.fits (sym c.is_full.ensures.value ∙ c.if-is_full.false) in
    rw c.push-in-loop-pauses.ensures record {
      fits = omega (arith, length-append c.loop-pauses.pauses (c.in_ok-pause.pause ∷ []));
      reads = sym (repeat_step (λ before rest. next_pause_at rest) 8 c.loop-pauses.pauses c.loop-pauses.words c.in_ok-pause.pause c.read_next_pause.new.words
          (sym c.is_over.ensures ∙ c.loop-pauses-test.true) room c.in_ok-pause.ensures) ∙ c.loop-pauses.invariant.reads;
    }

pub returns : goal.returns
returns c =
    sym c.loop-pauses.invariant.reads ∙ repeat_over (λ before rest. next_pause_at rest) (8 - length c.loop-pauses.pauses) c.loop-pauses.pauses
    c.loop-pauses.words (sym c.is_over.ensures ∙ c.loop-pauses-test.false)
