-- What a hall holds.
use Rattle.std.specs.Prelude.{◌≡◌, ℕ, ◌-◌, ◌^◌, min, false, Option, Some, None, if◌then◌else◌, List, [], ◌∷◌, ◌++◌, length, slice_get, is_some, MatchOption}
use Rattle.std.specs.Option.{option_and_then}
use Rattle.ada_events.specs.declared.event.Event.{Event}
use Rattle.ada_events.specs.Tasks.{task_count}
use Rattle.ada_script.specs.declared.script.Line.{Line}
use Rattle.ada_script.specs.Script.{scope_of}
use Rattle.ada_statements.specs.Scope.{Scope}
use Rattle.ada_statements.specs.Binding.{is_show}
use Rattle.ada_replay.specs.Play.{PlayState}
use Rattle.ada_replay.specs.Replay.{beginning}
use Rattle.ada_replay.specs.declared.answer.Answer.{Answer}
use Rattle.ada_replay.specs.declared.answer.Answer.TheVariants.{Group}
use Rattle.ada_hall.specs.declared.answer.KeptAnswer.{KeptAnswer}
use Rattle.ada_hall.specs.declared.turns.Turns.{Turns}
use Rattle.ada_hall.specs.Answers.{answer_at}
use Rattle.ada_hall.specs.PublishedKernels.{Showing, ShowsAnswer}
use Rattle.ada_hall.specs.Speakers.{speaker_count}
use Rattle.ada_hall.specs.Turns.{first_turns}
use Rattle.ada_hall.specs.History.{GoesOn, IsAnswerTo, AreGiven}

-- the kernel with what is published of it, what names are bound to, the answers that were given, and who may go on
pub record Held : Type 0 where
  pub showing : Showing
  pub names : Scope
  pub answers : List KeptAnswer
  pub turns : Turns

abbrev pub hall_of : Showing → Scope → List KeptAnswer → Turns → Held
hall_of showing names answers turns = record { showing = showing; names = names; answers = answers; turns = turns }

-- a new hall
abbrev pub opening : List Line → Held
opening script =
    hall_of (record { journal = []; published = []; behind = false }) (scope_of script) []
    (first_turns (min (speaker_count script) (2 ^ 32 - 1)))

-- the journal, and what names are bound to
abbrev pub state_of : Held → PlayState
state_of hall = record { journal = hall.showing.journal; names = hall.names }

-- the answers were given one after another, from the script's beginning on, and the journal may have gone on since
pub record IsHistory (script : List Line) (answers : List KeptAnswer) (now : PlayState) : Type 0 where
  pub text : List ℕ
  pub last : PlayState
  pub given : AreGiven script answers (beginning script) text last
  pub goes_on : GoesOn last now

-- the line at a place that has no answer yet
abbrev pub open_line : List Line → List KeptAnswer → ℕ → Option Line
open_line script answers place = if is_some (answer_at answers place) then None else slice_get script place

-- the line of a request that has no answer yet, and that of an attribute
abbrev pub open_request : List Line → List KeptAnswer → ℕ → Option Line
open_request script answers place = option_and_then (λ (line : Line). if is_show line.statement then None else Some line) (open_line script answers place)

abbrev pub open_show : List Line → List KeptAnswer → ℕ → Option Line
open_show script answers place = option_and_then (λ (line : Line). if is_show line.statement then Some line else None) (open_line script answers place)

-- the answer to a place, over a journal of so many events and tasks
abbrev pub kept_at : ℕ → List Event → Answer → KeptAnswer
kept_at place journal answer = record { place = place; events = length journal; tasks = task_count journal; answer = answer }

-- how many requests an answer says were accepted
abbrev pub gained : Answer → ℕ
gained (Group _ _) = 1
gained _ = 0

-- what the request of a line was answered is kept, and shown
pub record IsSaid (line : Line) (place : ℕ) (old new : Held) : Type 0 where
  pub answer : Answer
  pub text : List ℕ
  pub answers : IsAnswerTo line (state_of old) answer text (state_of new)
  pub kept : new.answers ≡ old.answers ++ kept_at place old.showing.journal answer ∷ []
  pub published : ShowsAnswer answer old.showing new.showing
  pub turns : new.turns ≡ old.turns

-- the request at a place is answered; nothing changes where there is none, or it has an answer
abbrev pub AnswersPlace : List Line → ℕ → Held → Held → Type 0
AnswersPlace script place old new = MatchOption (open_request script old.answers place) (new ≡ old) (λ line. IsSaid line place old new)

-- the answer is kept where a line shows an attribute and has no answer, and else nothing changes
abbrev pub noted : List Line → ℕ → Answer → Held → Held
noted script place answer hall =
    if is_some (open_show script hall.answers place)
    then hall_of hall.showing hall.names (hall.answers ++ kept_at place hall.showing.journal answer ∷ []) hall.turns
    else hall
