-- What a thread reports.
use Rattle.std.specs.Prelude.{ℕ, Bool, true, false, ◌&&◌, Option, Some, List, is_none}
use Rattle.ada_replay.specs.declared.answer.Answer.{Answer}
use Rattle.ada_replay.specs.declared.answer.Answer.TheVariants.{Refused}
use Rattle.ada_hall.specs.declared.answer.KeptAnswer.{KeptAnswer}
use Rattle.ada_hall.specs.Answers.{answer_at}

abbrev pub is_refused : Option Answer → Bool
is_refused (Some (Refused _)) = true
is_refused _ = false

-- a place that had no answer is answered with a refusal
abbrev pub is_newly_refused : List KeptAnswer → List KeptAnswer → ℕ → Bool
is_newly_refused old new place = is_none (answer_at old place) && is_refused (answer_at new place)
