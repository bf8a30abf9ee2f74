-- Reading something again and again, as a loop does.
use Rattle.std.proofs.Common.{◌≡◌, ℕ, suc, ◌-◌, ◌<◌, ◌≤◌, true, false, List, [], ◌∷◌, ◌++◌, length, Ok, Err, refl, arith, length-append, eqb, inl, inr}
use Rattle.std.proofs.lemmas.Bool.{true≢false, false≢true, cases_lt, eqb-false}
use Rattle.ada_script.specs.declared.fault.Fault.{Fault}
use Rattle.ada_script.specs.declared.fault.Fault.TheVariants.{BadStatement}
use Rattle.ada_script.specs.Cursor.{is_over}
use Rattle.ada_script.specs.internal.Reading.{Read, repeat_at}

module _ {X : Type 0} (step : List X → List (List ℕ) → Read X) where
  pub repeat_step : (limit : ℕ) (before : List X) (words : List (List ℕ)) (x : X) (rest : List (List ℕ)) → is_over words ≡ false → length before < limit
      → step before words ≡ Ok (x, rest)
      → repeat_at step (limit - length before) before words ≡ repeat_at step (limit - length (before ++ x ∷ [])) (before ++ x ∷ []) rest
  unfolding repeat_at
  repeat_step limit before [] x rest some room reads = absurd (true≢false some)
  repeat_step limit before (word ∷ words) x rest some room reads =
      let one : limit - length before ≡ suc (limit - length (before ++ x ∷ [])) = omega (arith, length-append before (x ∷ [])) in
      rw (one, reads) refl

  pub repeat_fails : (limit : ℕ) (before : List X) (words : List (List ℕ)) (e : Fault) → is_over words ≡ false → length before < limit
      → step before words ≡ Err e
      → repeat_at step (limit - length before) before words ≡ Err e
  unfolding repeat_at
  repeat_fails limit before [] e some room reads = absurd (true≢false some)
  repeat_fails limit before (word ∷ words) e some room reads =
      let one : limit - length before ≡ suc (limit - length before - 1) = omega arith in
      rw (one, reads) refl

  pub repeat_full : (limit : ℕ) (before : List X) (words : List (List ℕ)) → is_over words ≡ false → length before ≡ limit
      → repeat_at step (limit - length before) before words ≡ Err BadStatement
  unfolding repeat_at
  repeat_full limit before [] some full = absurd (true≢false some)
  repeat_full limit before (word ∷ words) some full =
      let none : limit - length before ≡ 0 = omega arith in
      rw none refl

  pub repeat_over : (room : ℕ) (before : List X) (words : List (List ℕ)) → is_over words ≡ true → repeat_at step room before words ≡ Ok (before, words)
  unfolding repeat_at
  repeat_over room before [] none = refl
  repeat_over room before (word ∷ words) none = absurd (false≢true none)

-- a list that isn't full has room
pub room_left : (n limit : ℕ) → n ≤ limit → eqb n limit ≡ false → n < limit
room_left n limit le differs = elim (cases_lt n limit) [ inl lt ↦ lt | inr ge ↦ absurd (eqb-false n limit differs (omega arith)) ]
