use Rattle.std.proofs.Common.{◌≡◌, inl, inr, suc, Some, None, Ok, sym, ap, ◌∙◌, ◌-◌, length, length-append, [], ◌∷◌, ◌++◌, arith}
use Rattle.std.proofs.lemmas.Bool.{eqb-true}
use Rattle.std.proofs.lemmas.Result.{err_from_is_err_and}
use Rattle.ada_script.specs.internal.Reading.{choices_at, choice_at, with_tail, tail_from}
use Rattle.ada_script.proofs.Repeat.{room_left}
use Rattle.ada_script.proofs.Choices.{choices_fail, choices_end, choices_full, choice_fails, choice_ends, choice_goes_on}
use Rattle.ada_script.proofs.select.read_choices.Goals as goal
use Rattle.ada_script.proofs.select.read_choices.Goals.{then-not-is_accept-via-then-not-is_accept, then-not-is_accept-via-else-not-is_accept+then-is_full}

pub returns-in_err-guard : goal.returns-in_err-guard
returns-in_err-guard c =
    let p = err_from_is_err_and c.from_residual.result c.from_residual.ensures.1 in
    rw (p.1, p.2) (inr (sym c.alternatives.invariant.reads
    ∙ choices_fail c.args.names.now c.args.by.now (16 - length c.alternatives.choices) c.alternatives.choices c.alternatives.words c.in_err-guard.field-0.0
    c.in_err-guard.ensures))

pub returns-in_err-tail : goal.returns-in_err-tail
returns-in_err-tail c =
    let p = err_from_is_err_and c.from_residual-in_err-tail.result c.from_residual-in_err-tail.ensures.1 in
    let step : choices_at c.args.names.now c.args.by.now (16 - length c.alternatives.choices) c.alternatives.choices c.alternatives.words
    ≡ with_tail c.alternatives.choices (tail_from c.in_ok-guard.branch c.in_ok-guard.guard c.read_branch.new.words) =
    elim c.then-not-is_accept.branch [
      | then-not-is_accept-via-then-not-is_accept w ↦ choices_end c.args.names.now c.args.by.now (16 - length c.alternatives.choices) c.alternatives.choices
          c.alternatives.words c.in_ok-guard.guard c.in_ok-guard.branch c.read_branch.new.words c.in_ok-guard.ensures
          (sym c.is_accept.ensures ∙ w.if-not-is_accept.true)
      | then-not-is_accept-via-else-not-is_accept+then-is_full w ↦ choices_full c.args.names.now c.args.by.now (16 - length c.alternatives.choices)
          c.alternatives.choices c.alternatives.words c.in_ok-guard.guard c.in_ok-guard.branch c.read_branch.new.words c.in_ok-guard.ensures
          (omega (arith, eqb-true _ _ (sym w.is_full.ensures.value ∙ w.if-is_full.true)))
    ] in
    rw (p.1, p.2) (elim c.in_err-tail.ensures [
      | inl memory ↦ inl memory
      | inr fails ↦ inr (sym c.alternatives.invariant.reads ∙ step ∙ ap (with_tail c.alternatives.choices) fails)
    ])

pub returns-then-not-is_accept : goal.returns-then-not-is_accept
returns-then-not-is_accept c =
    let step : choices_at c.args.names.now c.args.by.now (16 - length c.alternatives.choices) c.alternatives.choices c.alternatives.words
    ≡ with_tail c.alternatives.choices (tail_from c.in_ok-guard.branch c.in_ok-guard.guard c.read_branch.new.words) =
    elim c.then-not-is_accept.branch [
      | then-not-is_accept-via-then-not-is_accept w ↦ choices_end c.args.names.now c.args.by.now (16 - length c.alternatives.choices) c.alternatives.choices
          c.alternatives.words c.in_ok-guard.guard c.in_ok-guard.branch c.read_branch.new.words c.in_ok-guard.ensures
          (sym c.is_accept.ensures ∙ w.if-not-is_accept.true)
      | then-not-is_accept-via-else-not-is_accept+then-is_full w ↦ choices_full c.args.names.now c.args.by.now (16 - length c.alternatives.choices)
          c.alternatives.choices c.alternatives.words c.in_ok-guard.guard c.in_ok-guard.branch c.read_branch.new.words c.in_ok-guard.ensures
          (omega (arith, eqb-true _ _ (sym w.is_full.ensures.value ∙ w.if-is_full.true)))
    ] in
    sym c.alternatives.invariant.reads ∙ step ∙ ap (with_tail c.alternatives.choices) c.in_ok-tail.ensures

pub returns-in_err-choice : goal.returns-in_err-choice
returns-in_err-choice c =
    let p = err_from_is_err_and c.from_residual-in_err-choice.result c.from_residual-in_err-choice.ensures.1 in
    let room = room_left _ 16 c.alternatives.invariant.fits (sym c.is_full.ensures.value ∙ c.if-is_full.false) in
    let one : 16 - length c.alternatives.choices ≡ suc (15 - length c.alternatives.choices) = omega arith in
    let accept = sym c.is_accept.ensures ∙ c.if-not-is_accept.false in
    rw (p.1, p.2) (elim c.in_err-choice.ensures [
      | inl memory ↦ inl memory
      | inr fails ↦ inr (sym c.alternatives.invariant.reads
          ∙ rw one (choice_fails c.args.names.now c.args.by.now (15 - length c.alternatives.choices) c.alternatives.choices
          c.alternatives.words c.in_ok-guard.guard c.in_ok-guard.branch c.read_branch.new.words c.in_ok-guard.ensures accept c.in_err-choice.field-0.0 fails))
    ])

pub returns-in-Some : goal.returns-in-Some
returns-in-Some c =
    let room = room_left _ 16 c.alternatives.invariant.fits (sym c.is_full.ensures.value ∙ c.if-is_full.false) in
    let one : 16 - length c.alternatives.choices ≡ suc (15 - length c.alternatives.choices) = omega arith in
    let accept = sym c.is_accept.ensures ∙ c.if-not-is_accept.false in
    let found : choice_at c.args.names.now c.args.by.now c.in_ok-guard.guard c.read_branch.new.words
    ≡ Ok ((c.in_ok-choice.choice, Some c.in-Some.tail), c.read_choice.new.words) = rw (← c.in-Some.is) c.in_ok-choice.ensures in
    rw c.in_ok-push.ensures.ok (sym c.alternatives.invariant.reads
    ∙ rw one (choice_ends c.args.names.now c.args.by.now (15 - length c.alternatives.choices) c.alternatives.choices c.alternatives.words c.in_ok-guard.guard
    c.in_ok-guard.branch c.read_branch.new.words c.in_ok-guard.ensures accept c.in_ok-choice.choice c.in-Some.tail c.read_choice.new.words found))

pub alternatives-preserved : goal.alternatives-preserved
alternatives-preserved c =
    let room = room_left _ 16 c.alternatives.invariant.fits (sym c.is_full.ensures.value ∙ c.if-is_full.false) in
    let one : 16 - length c.alternatives.choices ≡ suc (16 - length (c.alternatives.choices ++ c.in_ok-choice.choice ∷ [])) = omega
    (arith, length-append c.alternatives.choices (c.in_ok-choice.choice ∷ [])) in
    let accept = sym c.is_accept.ensures ∙ c.if-not-is_accept.false in
    let none : c.in_ok-choice.end ≡ None = c.in_default.is in
    let found : choice_at c.args.names.now c.args.by.now c.in_ok-guard.guard c.read_branch.new.words
    ≡ Ok ((c.in_ok-choice.choice, None), c.read_choice.new.words) = rw (← none) c.in_ok-choice.ensures in
    rw c.in_ok-push.ensures.ok record {
      fits = omega (arith, length-append c.alternatives.choices (c.in_ok-choice.choice ∷ []));
      reads = sym (choice_goes_on c.args.names.now c.args.by.now (16 - length (c.alternatives.choices ++ c.in_ok-choice.choice ∷ [])) c.alternatives.choices
          c.alternatives.words c.in_ok-guard.guard c.in_ok-guard.branch c.read_branch.new.words c.in_ok-guard.ensures accept c.in_ok-choice.choice
          c.read_choice.new.words found) ∙ rw (← one) c.alternatives.invariant.reads;
    }
