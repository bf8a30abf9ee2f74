-- A play that is shown: the answers to its lines, what they print, and the moment of each of them, over the journal and
-- the bindings that the lines before it left.
use Rattle.std.specs.Prelude.{ℕ, List, [], ◌∷◌, ◌++◌, length}
use Rattle.ada_events.specs.declared.event.Event.{Event}
use Rattle.ada_script.specs.declared.script.Line.{Line}
use Rattle.ada_replay.specs.declared.answer.Answer.{Answer}
use Rattle.ada_replay.specs.Answers.{answer_to}
use Rattle.ada_replay.specs.Play.{PlayState, SaysLine}
use Rattle.ada_page.specs.declared.moments.Moment.{Moment}
use Rattle.ada_page.specs.Standing.{AreQueuedSince, IsStanding}

-- what stands after a line, before which there were so many events, and what stood in queues since then
pub record IsMoment (known : ℕ) (journal : List Event) (moment : Moment) : Type 0 where
  pub standing : IsStanding journal moment.standing
  pub queued : AreQueuedSince known journal moment.queued.items

-- the answers to some lines, what these print, one after another, the moment of each, and from where to where they lead
pub data Shows : List Line → PlayState → List Answer → List ℕ → List Moment → PlayState → Type 0 where
  no_more : {state : PlayState} → Shows [] state [] [] [] state
  one_more : {line : Line} {others : List Line} {answers : List Answer} {moments : List Moment} {old between new : PlayState} {rest : List ℕ}
      → (said : List ℕ) → (moment : Moment) → SaysLine line old said between → IsMoment (length old.journal) between.journal moment
      → Shows others between answers rest moments new
      → Shows (line ∷ others) old (answer_to old line.statement (length between.journal) ∷ answers) (said ++ rest) (moment ∷ moments) new
