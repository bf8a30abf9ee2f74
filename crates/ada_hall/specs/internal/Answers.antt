-- The answer at each place, found without a search.
use Rattle.std.specs.Prelude.{◌≡◌, ℕ, Option, None, List, get_or}
use Rattle.ada_replay.specs.declared.answer.Answer.{Answer}
use Rattle.ada_hall.specs.declared.answer.KeptAnswer.{KeptAnswer}
use Rattle.ada_hall.specs.Answers.{answer_at}

-- a list has at each place the answer that is kept for it
abbrev pub AreByPlace : List (Option Answer) → List KeptAnswer → Type 0
AreByPlace by_place answers = (place : ℕ) → get_or by_place place None ≡ answer_at answers place
