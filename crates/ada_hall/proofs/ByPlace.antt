-- The answers at their places, beside the list in the order in which they were given.
use Rattle.std.proofs.Common.{◌≡◌, ◌≢◌, ⊎_elim, ℕ, ◌<◌, ◌==◌, Bool, true, false, cond, Option, Some, None, List, [], ◌∷◌, ◌++◌, length}
use Rattle.std.proofs.Common.{get_or, set, refl, sym, ap, ◌∙◌, arith}
use Rattle.std.specs.Prelude.{find, option_map}
use Rattle.std.specs.Option.{option_or}
use Rattle.std.proofs.lemmas.Bool.{cases_eq, eqb-true}
use Rattle.std.proofs.lemmas.List.{get_or-set_same, get_or-set_other}
use Rattle.std.proofs.lemmas.List.Folds.{find-append}
use Rattle.ada_replay.specs.declared.answer.Answer.{Answer}
use Rattle.ada_hall.specs.declared.answer.KeptAnswer.{KeptAnswer}
use Rattle.ada_hall.specs.Answers.{answer_at}
use Rattle.ada_hall.specs.internal.Answers.{AreByPlace}

is_at : ℕ → KeptAnswer → Bool
is_at place kept = kept.place == place

answer_of : KeptAnswer → Answer
answer_of kept = kept.answer

either_answer : (first second : Option KeptAnswer)
    → option_map answer_of (option_or first second) ≡ option_or (option_map answer_of first) (option_map answer_of second)
either_answer None second = refl
either_answer (Some kept) second = refl

-- the answers with one more
one_more : (answers : List KeptAnswer) (kept : KeptAnswer) (place : ℕ)
    → answer_at (answers ++ kept ∷ []) place ≡ option_or (answer_at answers place) (answer_at (kept ∷ []) place)
unfolding is_at answer_of
one_more answers kept place = ap (option_map answer_of) (find-append (is_at place) answers (kept ∷ []))
    ∙ either_answer (find (is_at place) answers) (find (is_at place) (kept ∷ []))

alone_there : (kept : KeptAnswer) (place : ℕ) → place ≡ kept.place → answer_at (kept ∷ []) place ≡ Some kept.answer
alone_there kept place is = by (kept.place == place) refl where
  by : (b : Bool) → (kept.place == place) ≡ b → option_map (λ (k : KeptAnswer). k.answer) (cond b (Some kept) None) ≡ Some kept.answer
  by true same = refl
  by false other = absurd (let e = is in grind (arith, other))

alone_elsewhere : (kept : KeptAnswer) (place : ℕ) → place ≢ kept.place → answer_at (kept ∷ []) place ≡ None
alone_elsewhere kept place isnt = by (kept.place == place) refl where
  by : (b : Bool) → (kept.place == place) ≡ b → option_map (λ (k : KeptAnswer). k.answer) (cond b (Some kept) None) ≡ None
  by true same = absurd (isnt (sym (eqb-true kept.place place same)))
  by false other = refl

or_none : (answer : Option Answer) → option_or answer None ≡ answer
or_none None = refl
or_none (Some answer) = refl

-- an answer is written to its place, and comes last
pub one_kept : (by_place : List (Option Answer)) (answers : List KeptAnswer) (kept : KeptAnswer) → AreByPlace by_place answers → kept.place < length by_place
    → answer_at answers kept.place ≡ None → AreByPlace (set by_place kept.place (Some kept.answer)) (answers ++ kept ∷ [])
one_kept by_place answers kept are below none place = ⊎_elim
    (λ here. ap (λ p. get_or (set by_place kept.place (Some kept.answer)) p None) here
    ∙ get_or-set_same by_place kept.place (Some kept.answer) None below
    ∙ sym (one_more answers kept place ∙ ap (λ a. option_or a (answer_at (kept ∷ []) place)) (ap (answer_at answers) here ∙ none)
    ∙ alone_there kept place here))
    (λ elsewhere. get_or-set_other by_place kept.place place (Some kept.answer) None elsewhere
    ∙ are place
    ∙ sym (one_more answers kept place ∙ ap (option_or (answer_at answers place)) (alone_elsewhere kept place elsewhere)
    ∙ or_none (answer_at answers place)))
    (cases_eq place kept.place)
