-- The answers that are kept, in the order in which they were given.
use Rattle.std.specs.Prelude.{◌≡◌, ◌≢◌, ◌<◌, ℕ, ◌==◌, Option, List, [], ◌∷◌, find, option_map, IsSome}
use Rattle.std.specs.List.{AllPairs}
use Rattle.ada_replay.specs.declared.answer.Answer.{Answer}
use Rattle.ada_replay.specs.declared.answer.Answer.TheVariants.{Group}
use Rattle.ada_hall.specs.declared.answer.KeptAnswer.{KeptAnswer}

-- how many places there are, and the answers to some of them
pub record AnswersKept : Type 0 where
  pub places : ℕ
  pub kept : List KeptAnswer

-- the answer at a place, if there is one
abbrev pub answer_at : List KeptAnswer → ℕ → Option Answer
answer_at answers place = option_map (λ (k : KeptAnswer). k.answer) (find (λ (k : KeptAnswer). k.place == place) answers)

-- each of so many places has an answer
abbrev pub AreAll : ℕ → List KeptAnswer → Type 0
AreAll places answers = (place : ℕ) → place < places → IsSome (answer_at answers place)

-- no place is answered twice
abbrev pub AnswerNoPlaceTwice : List KeptAnswer → Type 0
AnswerNoPlaceTwice answers = AllPairs (λ (a : KeptAnswer) (b : KeptAnswer). a.place ≢ b.place) answers

-- how many events a journal has behind an answer that it had so many before
abbrev pub end_of : Answer → ℕ → ℕ
end_of (Group _ last) _ = last
end_of _ events = events

-- each answer was given where the one before it ended, the first at so many events, and the last ended at so many
abbrev pub AreJoined : List KeptAnswer → ℕ → ℕ → Type 0
AreJoined [] from to = from ≡ to
AreJoined (kept ∷ others) from to = (kept.events ≡ from) × AreJoined others (end_of kept.answer kept.events) to
