-- Reading the alternatives of a selective wait one after the other, as a loop does.
use Rattle.std.proofs.Common.{◌≡◌, ℕ, zero, suc, Bool, true, false, List, [], ◌∷◌, ◌++◌, Some, None, Ok, Err, refl, arith}
use Rattle.ada_events.specs.declared.request.Tail.{Tail}
use Rattle.ada_script.specs.declared.fault.Fault.{Fault}
use Rattle.ada_script.specs.declared.select.Branch.{Branch}
use Rattle.ada_statements.specs.declared.statement.Alternative.{Alternative}
use Rattle.ada_statements.specs.Scope.{Scope}
use Rattle.ada_script.specs.internal.Reading.{branch_at, choice_at, choices_at, tail_from, with_tail, is_accept}

module _ (names : Scope) (by : List ℕ) where
  pub choices_fail : (room : ℕ) (before : List Alternative) (words : List (List ℕ)) (e : Fault) → branch_at words ≡ Err e
      → choices_at names by room before words ≡ Err e
  unfolding choices_at
  choices_fail zero before words e reads = rw reads refl
  choices_fail (suc room) before words e reads = rw reads refl

  pub choices_end : (room : ℕ) (before : List Alternative) (words : List (List ℕ)) (guard : Bool) (branch : Branch) (rest : List (List ℕ))
      → branch_at words ≡ Ok ((guard, branch), rest) → is_accept branch ≡ false
      → choices_at names by room before words ≡ with_tail before (tail_from branch guard rest)
  unfolding choices_at
  choices_end zero before words guard branch rest reads other = rw reads refl
  choices_end (suc room) before words guard branch rest reads other = rw (reads, other) refl

  pub choices_full : (room : ℕ) (before : List Alternative) (words : List (List ℕ)) (guard : Bool) (branch : Branch) (rest : List (List ℕ))
      → branch_at words ≡ Ok ((guard, branch), rest) → room ≡ 0
      → choices_at names by room before words ≡ with_tail before (tail_from branch guard rest)
  unfolding choices_at
  choices_full zero before words guard branch rest reads none = rw reads refl
  choices_full (suc room) before words guard branch rest reads none = absurd (omega arith)

  module _ (room : ℕ) (before : List Alternative) (words : List (List ℕ)) (guard : Bool) (branch : Branch) (rest : List (List ℕ))
      (reads : branch_at words ≡ Ok ((guard, branch), rest)) (accept : is_accept branch ≡ true) where
    pub choice_fails : (e : Fault) → choice_at names by guard rest ≡ Err e → choices_at names by (suc room) before words ≡ Err e
    unfolding choices_at
    choice_fails e fails = rw (reads, accept, fails) refl

    pub choice_ends : (choice : Alternative) (tail : Tail) (behind : List (List ℕ)) → choice_at names by guard rest ≡ Ok ((choice, Some tail), behind)
        → choices_at names by (suc room) before words ≡ Ok ((before ++ choice ∷ [], tail), behind)
    unfolding choices_at
    choice_ends choice tail behind found = rw (reads, accept, found) refl

    pub choice_goes_on : (choice : Alternative) (behind : List (List ℕ)) → choice_at names by guard rest ≡ Ok ((choice, None), behind)
        → choices_at names by (suc room) before words ≡ choices_at names by room (before ++ choice ∷ []) behind
    unfolding choices_at
    choice_goes_on choice behind found = rw (reads, accept, found) refl
