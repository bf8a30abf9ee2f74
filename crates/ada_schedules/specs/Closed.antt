-- A set of states that no schedule leaves, but for names.
use Rattle.std.specs.Prelude.{◌≡◌, true, Option, Some, None, List}
use Rattle.ada_events.specs.declared.event.Event.{Event}
use Rattle.ada_events.specs.declared.request.Request.{Request}
use Rattle.ada_events.specs.declared.refusal.Refusal.{Refusal}
use Rattle.ada_events.specs.Lawful.{IsLawful, IsSettled, After}
use Rattle.ada_laws.specs.Unlimited.{IsLawfulUnlimited, refusal_but_limits}
use Rattle.ada_standing.specs.Renaming.{Renaming, chained}
use Rattle.ada_standing.specs.StandsIn.{StandsIn}
use Rattle.ada_standing.specs.Asking.{renamed_request, names_kept}
use Rattle.ada_standing.specs.Leading.{LedAlike}
use Rattle.ada_schedules.specs.Schedules.{Program, State, Reaches}

-- what a choice asks for in a state
abbrev pub asked_in : {Rest Choice : Type 0} (program : Program Rest Choice) → State Rest → Choice → Option Request
asked_in program state choice = program.asks state.journal state.rest choice

-- where a request of a choice leads, by the journal that it leads to
abbrev pub went_on : {Rest Choice : Type 0} (program : Program Rest Choice) → State Rest → Choice → List Event → State Rest
went_on program state choice journal = record { journal = journal; rest = program.after state.journal state.rest choice journal }

-- where a refused request of a choice leads
abbrev pub was_refused : {Rest Choice : Type 0} (program : Program Rest Choice) → State Rest → Choice → Refusal → State Rest
was_refused program state choice cause = record { journal = state.journal; rest = program.refused state.rest choice cause }

-- what is left to do after a choice that asks for nothing
abbrev pub left_alone : {Rest Choice : Type 0} (program : Program Rest Choice) → State Rest → Choice → Option Rest
left_alone program state choice = program.alone state.journal state.rest choice

-- where that leads
abbrev pub went_alone : {Rest Choice : Type 0} (program : Program Rest Choice) → State Rest → Rest → State Rest
went_alone program state rest = record { journal = state.journal; rest = rest }

-- here `Same` says when what is left to do is the same but for names

-- the second state stands in for the first one, to which a schedule of the program came
pub record StandsFor {Rest Choice : Type 0} (program : Program Rest Choice) (Same : Renaming → Rest → Rest → Type 0) (first second : State Rest)
    (names : Renaming) : Type 0 where
  pub reached : Reaches program first
  pub lawful : IsLawfulUnlimited first.journal
  pub lawful_too : IsLawful second.journal
  pub stands : StandsIn first.journal second.journal names
  pub same : Same names first.rest second.rest

-- a choice that asks for nothing does so in another state, and leaves the same to do
pub record GoesAlone {Rest Choice : Type 0} (program : Program Rest Choice) (Same : Renaming → Rest → Rest → Type 0) (names : Renaming) (rest : Rest)
    (state : State Rest) (choice : Choice) : Type 0 where
  pub left : Rest
  pub asks : asked_in program state choice ≡ None
  pub leaves : left_alone program state choice ≡ Some left
  pub same : Same names rest left

-- the program names tasks and blocks by their names alone: if a second state stands in for a first one, each choice asks
-- for the same there, under its names, and names only what has a name; and what is left to do afterwards is the same
-- again
pub record SpeaksInNames {Rest Choice : Type 0} (program : Program Rest Choice) (Same : Renaming → Rest → Rest → Type 0) : Type 0 where
  pub asks : (first second : State Rest) (names : Renaming) (choice : Choice) (request : Request)
      → StandsFor program Same first second names → asked_in program first choice ≡ Some request
      → asked_in program second choice ≡ Some (renamed_request names request)
  pub kept : (first second : State Rest) (names : Renaming) (choice : Choice) (request : Request)
      → StandsFor program Same first second names → asked_in program first choice ≡ Some request
      → names_kept names first.journal request ≡ true
  pub after : (first second : State Rest) (names : Renaming) (choice : Choice) (request : Request) (journal other : List Event)
      → StandsFor program Same first second names → asked_in program first choice ≡ Some request
      → After first.journal request journal → After second.journal (renamed_request names request) other
      → IsLawfulUnlimited journal → IsLawfulUnlimited other → (led : LedAlike first.journal second.journal names journal other)
      → Same led.after (went_on program first choice journal).rest (went_on program second choice other).rest
  pub refused : (names : Renaming) (rest other : Rest) (choice : Choice) (cause : Refusal) → Same names rest other
      → Same names (program.refused rest choice cause) (program.refused other choice cause)
  pub alone : (first second : State Rest) (names : Renaming) (choice : Choice) (rest : Rest)
      → StandsFor program Same first second names → asked_in program first choice ≡ None → left_alone program first choice ≡ Some rest
      → GoesAlone program Same names rest second choice
  pub chained : (names more : Renaming) (first second third : Rest) → Same names first second → Same more second third
      → Same (chained names more) first third

-- a state of the set stands in for this one
pub record Covers {Rest Choice : Type 0} (program : Program Rest Choice) (Same : Renaming → Rest → Rest → Type 0) (Within : State Rest → Type 0)
    (state : State Rest) : Type 0 where
  pub by : State Rest
  pub within : Within by
  pub names : Renaming
  pub stands : StandsIn state.journal by.journal names
  pub same : Same names state.rest by.rest

-- an accepted request leads to a journal, and to what the set covers
pub record GoesOn {Rest Choice : Type 0} (program : Program Rest Choice) (Same : Renaming → Rest → Rest → Type 0) (Within : State Rest → Type 0)
    (state : State Rest) (choice : Choice) (request : Request) : Type 0 where
  pub journal : List Event
  pub after : After state.journal request journal
  pub covered : Covers program Same Within (went_on program state choice journal)

-- a set of lawful, settled states. Whatever a choice of one of them asks for leads to what one of them covers, also if it
-- is refused, and so does a choice that asks for nothing
pub record IsClosed {Rest Choice : Type 0} (program : Program Rest Choice) (Same : Renaming → Rest → Rest → Type 0)
    (Within : State Rest → Type 0) : Type 0 where
  pub lawful : (state : State Rest) → Within state → IsLawful state.journal
  pub settled : (state : State Rest) → Within state → IsSettled state.journal
  pub accepted : (state : State Rest) (choice : Choice) (request : Request) → Within state
      → asked_in program state choice ≡ Some request → refusal_but_limits state.journal request ≡ None
      → GoesOn program Same Within state choice request
  pub refused : (state : State Rest) (choice : Choice) (request : Request) (cause : Refusal) → Within state
      → asked_in program state choice ≡ Some request → refusal_but_limits state.journal request ≡ Some cause
      → Covers program Same Within (was_refused program state choice cause)
  pub alone : (state : State Rest) (choice : Choice) (rest : Rest) → Within state
      → asked_in program state choice ≡ None → left_alone program state choice ≡ Some rest
      → Covers program Same Within (went_alone program state rest)
