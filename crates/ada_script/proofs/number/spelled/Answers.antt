use Rattle.std.proofs.Common.{sym, ap, subst, ◌∙◌}
use Rattle.std.proofs.lemmas.List.{take_all}
use Rattle.std.specs.Str.Parse.{AllDigits, digits_value}
use Rattle.std.proofs.lemmas.Bool.{true≢false}
use Rattle.ada_script.proofs.Numbers.{decimal_is_led, digit_more, digits_are_spelled, no_digit}
use Rattle.ada_script.proofs.number.spelled.Goals as goal

pub returns-then-not-is_led-clause-spelling : goal.returns-then-not-is_led-clause-spelling
returns-then-not-is_led-clause-spelling c n lt spells =
    true≢false (sym (c.is_led.ensures.1 (decimal_is_led n c.args.word.now lt spells)) ∙ c.if-not-is_led.true)

pub returns-in-None-clause-spelling : goal.returns-in-None-clause-spelling
returns-in-None-clause-spelling c =
    no_digit c.args.word.now c.loop-byte.byte-index c.loop-byte.number c.loop-byte-test.true c.loop-byte.invariant.value c.in-None.ensures.value

pub loop-byte-preserved : goal.loop-byte-preserved
loop-byte-preserved c =
    let made = c.in-Some.ensures.value in
    let more = digit_more c.args.word.now c.loop-byte.byte-index c.loop-byte.number c.loop-byte-test.true made.0 c.loop-byte.invariant.digits
    c.loop-byte.invariant.value in
    record { fits = c.in-Some.ensures.fits; digits = more.0; value = made.1 ∙ more.1 }

pub returns-clause-fits : goal.returns-clause-fits
returns-clause-fits c = c.loop-byte.invariant.fits

pub returns-clause-spelling : goal.returns-clause-spelling
returns-clause-spelling c =
    let word = c.args.word.now in
    let all = take_all c.loop-byte.byte-index word c.loop-byte-test.false in
    digits_are_spelled word c.loop-byte.number (c.is_led.ensures.0 c.if-not-is_led.false) (subst (AllDigits 10) all c.loop-byte.invariant.digits)
    (c.loop-byte.invariant.value ∙ ap (digits_value 10) all) c.loop-byte.invariant.fits
