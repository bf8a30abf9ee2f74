-- Answers at places of their own: there are never more than places.
use Rattle.std.proofs.Common.{◌≡◌, ◌≢◌, ℕ, zero, suc, ◌<◌, ◌≤◌, ◌==◌, Bool, true, false, cond, Option, Some, None, List, [], ◌∷◌, ◌++◌, length}
use Rattle.std.proofs.Common.{map, get_or, refl, sym, ◌∙◌, arith}
use Rattle.std.specs.Prelude.{find, option_map, IsSome}
use Rattle.std.specs.List.{All, AllPairs, Contains}
use Rattle.std.proofs.lemmas.Option.{none-some}
use Rattle.std.proofs.lemmas.Bool.{eqb-true}
use Rattle.std.proofs.lemmas.Bool.Decides.{Decides-eqb}
use Rattle.std.proofs.lemmas.List.{get_or-map, length-map, length-append}
use Rattle.std.proofs.lemmas.List.Elements.{All-push}
use Rattle.std.proofs.lemmas.List.Quantifiers.{all_pairs_push}
use Rattle.std.proofs.lemmas.Map.Steps.{length-le_from_distinct_below}
use Rattle.std.proofs.lemmas.Map.Made.{IsDistinct-from_AllPairs}
use Rattle.std.proofs.lemmas.Map.Views.{Contains-from_any}
use Rattle.ada_replay.specs.declared.answer.Answer.{Answer}
use Rattle.ada_replay.specs.declared.answer.Answer.TheVariants.{Group}
use Rattle.ada_hall.specs.declared.answer.KeptAnswer.{KeptAnswer}
use Rattle.ada_hall.specs.Answers.{answer_at, AreAll, AnswerNoPlaceTwice}

place_of : KeptAnswer → ℕ
place_of kept = kept.place

no_answer : (found : Option KeptAnswer) → option_map (λ (k : KeptAnswer). k.answer) found ≡ None → found ≡ None
no_answer None none = refl
no_answer (Some kept) none = absurd (none-some kept.answer (sym none))

first_fails : (b : Bool) (first : KeptAnswer) (rest : Option KeptAnswer) → cond b (Some first) rest ≡ None → (b ≡ false) × (rest ≡ None)
first_fails true first rest none = absurd (none-some first (sym none))
first_fails false first rest none = (refl, none)

-- where nothing is found, each fails the test
fails_each : (p : KeptAnswer → Bool) (answers : List KeptAnswer) → find p answers ≡ None → (k : ℕ) (d : KeptAnswer) → k < length answers
    → p (get_or answers k d) ≡ false
fails_each p [] none k d below = absurd (omega arith)
fails_each p (first ∷ rest) none zero d below = (first_fails (p first) first (find p rest) none).0
fails_each p (first ∷ rest) none (suc k) d below = fails_each p rest (first_fails (p first) first (find p rest) none).1 k d (omega arith)

pub apart_from : (answers : List KeptAnswer) (place : ℕ) → answer_at answers place ≡ None → (k : ℕ) (d : KeptAnswer) → k < length answers
    → (get_or answers k d).place ≢ place
apart_from answers place none k d below = λ same.
    let fails : ((get_or answers k d).place == place) ≡ false =
    fails_each (λ (a : KeptAnswer). a.place == place) answers (no_answer (find (λ (a : KeptAnswer). a.place == place) answers) none) k d below in
    absurd (let e = same in grind (arith, fails))

pub stay_apart : (answers : List KeptAnswer) (kept : KeptAnswer) → AnswerNoPlaceTwice answers → answer_at answers kept.place ≡ None
    → AnswerNoPlaceTwice (answers ++ kept ∷ [])
stay_apart answers kept apart none =
    all_pairs_push (λ (a : KeptAnswer) (b : KeptAnswer). a.place ≢ b.place) answers kept apart (apart_from answers kept.place none)

pub stay_within : (answers : List KeptAnswer) (kept : KeptAnswer) (places : ℕ) → All (λ (k : KeptAnswer). k.place < places) answers → kept.place < places
    → All (λ (k : KeptAnswer). k.place < places) (answers ++ kept ∷ [])
stay_within answers kept places within below = All-push (λ (k : KeptAnswer). k.place < places) answers kept within below

-- there are no more answers than places
few : (answers : List KeptAnswer) (places : ℕ) → AnswerNoPlaceTwice answers → All (λ (k : KeptAnswer). k.place < places) answers → length answers ≤ places
unfolding place_of
few answers places apart within =
    let numbers = map place_of answers in
    let dummy : KeptAnswer = record { place = 0; events = 0; tasks = 0; answer = Group 0 0 } in
    let distinct : AllPairs (λ (x : ℕ) (y : ℕ). x ≢ y) numbers = λ i j d less below.
    let inside : j < length answers = omega (arith, length-map answers place_of) in
    let differ : (get_or answers i dummy).place ≢ (get_or answers j dummy).place = apart i j dummy less inside in
    λ same. differ (sym (get_or-map place_of answers i dummy d (omega arith)) ∙ same ∙ get_or-map place_of answers j dummy d inside) in
    let bounded : (q : ℕ) → Contains numbers q → q < places = λ q found.
    let inside : found.0 < length answers = omega (arith, found.1, length-map answers place_of) in
    let is : q ≡ (get_or answers found.0 dummy).place = sym found.2 ∙ get_or-map place_of answers found.0 dummy q inside in
    let below : (get_or answers found.0 dummy).place < places = within found.0 dummy inside in
    omega arith in
    let short : length numbers ≤ places =
    length-le_from_distinct_below numbers places (IsDistinct-from_AllPairs Decides-eqb numbers distinct)
    (λ q found. bounded q (Contains-from_any eqb-true q numbers found)) in
    omega (arith, length-map answers place_of)

-- so there is room for the answer to a place that has none
pub room_for_one : (answers : List KeptAnswer) (kept : KeptAnswer) (places : ℕ) → AnswerNoPlaceTwice answers
    → All (λ (k : KeptAnswer). k.place < places) answers
    → kept.place < places
    → answer_at answers kept.place ≡ None → length answers < places
room_for_one answers kept places apart within below none =
    let more : length (answers ++ kept ∷ []) ≤ places =
    few (answers ++ kept ∷ []) places (stay_apart answers kept apart none) (stay_within answers kept places within below) in
    omega (arith, length-append answers (kept ∷ []))

found : (answer : Option Answer) → (answer ≡ None → ⊥) → IsSome answer
found None never = absurd (never refl)
found (Some answer) never = refl

-- where there are as many answers as places, each place has one
pub no_place_left : (answers : List KeptAnswer) (places : ℕ) → AnswerNoPlaceTwice answers → All (λ (k : KeptAnswer). k.place < places) answers
    → length answers ≡ places
    → AreAll places answers
no_place_left answers places apart within full place below =
    found (answer_at answers place) (λ none.
    let kept : KeptAnswer = record { place = place; events = 0; tasks = 0; answer = Group 0 0 } in
    let room : length answers < places = room_for_one answers kept places apart within below none in
    omega arith)
