-- The history of a hall: the answers that it gave, one after another, each over the journal and the bindings
-- that the answers before it left. Other requests, which answer no line, may come between.
use Rattle.std.specs.Prelude.{◌≡◌, ℕ, ◌+◌, Some, List, [], ◌∷◌, ◌++◌, length, slice_get, MatchOption}
use Rattle.ada_events.specs.declared.event.Event.{Event}
use Rattle.ada_events.specs.declared.request.Request.{Request}
use Rattle.ada_events.specs.declared.refusal.Refusal.{Refusal}
use Rattle.ada_events.specs.Lawful.{IsLawful, IsSettled}
use Rattle.ada_events.specs.Refusals.{refusal}
use Rattle.ada_events.specs.Tasks.{task_count}
use Rattle.ada_script.specs.declared.script.Line.{Line}
use Rattle.ada_statements.specs.Binding.{request_of}
use Rattle.ada_printing.specs.Texts.{refusal_text, shown_text}
use Rattle.ada_replay.specs.Play.{PlayState, group_text, LeadsOn}
use Rattle.ada_replay.specs.declared.answer.Answer.{Answer}
use Rattle.ada_replay.specs.declared.answer.Answer.TheVariants.{Group, Refused, Shown}
use Rattle.ada_hall.specs.declared.answer.KeptAnswer.{KeptAnswer}

-- an accepted request: its answer names exactly the events that it led to
pub record IsGroupOf (line : Line) (request : Request) (first last : ℕ) (old : PlayState) (text : List ℕ) (new : PlayState) : Type 0 where
  pub leads : LeadsOn line.statement request old new
  pub printed : text ≡ group_text new.names (length old.journal) new.journal
  pub first_is : first ≡ length old.journal + 1
  pub last_is : last ≡ length new.journal

-- a refused one: its answer is the cause, and nothing is changed
pub record IsRefusalOf (line : Line) (request : Request) (cause : Refusal) (old : PlayState) (text : List ℕ) (new : PlayState) : Type 0 where
  pub refused : refusal old.journal request ≡ Some cause
  pub unchanged : new ≡ old
  pub printed : text ≡ refusal_text line.line cause

-- an answer to a request
abbrev pub AnswersRequest : Line → PlayState → Answer → List ℕ → PlayState → Request → Type 0
AnswersRequest line old (Group first last) text new request = IsGroupOf line request first last old text new
AnswersRequest line old (Refused cause) text new request = IsRefusalOf line request cause old text new
AnswersRequest _ _ (Shown _) _ _ _ = ⊥

-- an answer to a line that shows an attribute, which changes nothing
abbrev pub AnswersShow : Line → PlayState → Answer → List ℕ → PlayState → Type 0
AnswersShow _ _ (Group _ _) _ _ = ⊥
AnswersShow line old (Refused cause) text new = (new ≡ old) × (text ≡ refusal_text line.line cause)
AnswersShow line old (Shown value) text new = (new ≡ old) × (text ≡ shown_text line.line value)

-- the answer is that of a line over a journal and bindings, with what it prints and leads to
abbrev pub IsAnswerTo : Line → PlayState → Answer → List ℕ → PlayState → Type 0
IsAnswerTo line old answer text new =
    MatchOption (request_of old.names line.statement) (AnswersShow line old answer text new) (AnswersRequest line old answer text new)

-- the journal went on, and the bindings stayed
pub record GoesOn (old new : PlayState) : Type 0 where
  pub names : new.names ≡ old.names
  pub journal : (steps : List Event) × (new.journal ≡ steps ++ old.journal)

-- the answer that is kept is that of its own place's line over a lawful and settled journal, of which the
-- number of events and that of tasks are kept beside it
pub record IsGiven (script : List Line) (kept : KeptAnswer) (old : PlayState) (text : List ℕ) (new : PlayState) : Type 0 where
  pub line : Line
  pub stands : slice_get script kept.place ≡ Some line
  pub lawful : IsLawful old.journal
  pub settled : IsSettled old.journal
  pub events : kept.events ≡ length old.journal
  pub tasks : kept.tasks ≡ task_count old.journal
  pub answers : IsAnswerTo line old kept.answer text new

-- answers that were given one after another, what they print, and from where to where they lead
pub data AreGiven (script : List Line) : List KeptAnswer → PlayState → List ℕ → PlayState → Type 0 where
  no_more : {state : PlayState} → AreGiven script [] state [] state
  one_more : {kept : KeptAnswer} {others : List KeptAnswer} {old before after new : PlayState} {said rest : List ℕ}
      → GoesOn old before → IsGiven script kept before said after → AreGiven script others after rest new
      → AreGiven script (kept ∷ others) old (said ++ rest) new
