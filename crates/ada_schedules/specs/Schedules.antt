-- All schedules of a program over a kernel's journal: one step after another, each one that some choice makes.
use Rattle.std.specs.Prelude.{◌≡◌, Option, Some, None, List, [], ◌∷◌}
use Rattle.ada_events.specs.declared.event.Event.{Event}
use Rattle.ada_events.specs.declared.request.Request.{Request}
use Rattle.ada_events.specs.declared.refusal.Refusal.{Refusal}
use Rattle.ada_events.specs.Lawful.{After}
use Rattle.ada_laws.specs.Unlimited.{refusal_but_limits}

-- a program: what its tasks have still to do, all of them together; which request a choice asks for, or none where that
-- choice isn't there or asks for none; what is left to do after a choice, by the journal that its request led to, or by
-- the cause for which it was refused; and what is left after a choice that asks for nothing, or none where it isn't there
pub record Program (Rest Choice : Type 0) : Type 0 where
  pub start : Rest
  pub asks : List Event → Rest → Choice → Option Request
  pub after : List Event → Rest → Choice → List Event → Rest
  pub refused : Rest → Choice → Refusal → Rest
  pub alone : List Event → Rest → Choice → Option Rest

-- where a schedule has come to
pub record State (Rest : Type 0) : Type 0 where
  pub journal : List Event
  pub rest : Rest

-- one step of a schedule: the request of a choice is accepted, and leads to the next journal; or it is refused, for a
-- cause that is no limit of tasks, slots or events, and changes what is left to do alone; or a choice asks for nothing,
-- and does that, too
pub data Acts {Rest Choice : Type 0} (program : Program Rest Choice) (choice : Choice) (from : State Rest) : State Rest → Type 0 where
  accepted : (request : Request) (journal : List Event) → program.asks from.journal from.rest choice ≡ Some request
      → refusal_but_limits from.journal request ≡ None → After from.journal request journal
      → Acts program choice from (record { journal = journal; rest = program.after from.journal from.rest choice journal })
  refused : (request : Request) (cause : Refusal) → program.asks from.journal from.rest choice ≡ Some request
      → refusal_but_limits from.journal request ≡ Some cause
      → Acts program choice from (record { journal = from.journal; rest = program.refused from.rest choice cause })
  alone : (rest : Rest) → program.asks from.journal from.rest choice ≡ None
      → program.alone from.journal from.rest choice ≡ Some rest → Acts program choice from (record { journal = from.journal; rest = rest })

-- where the schedules of a program begin
abbrev pub beginning : {Rest Choice : Type 0} (program : Program Rest Choice) → State Rest
beginning program = record { journal = []; rest = program.start }

-- the schedule of these choices, the newest first, comes to a state
pub data Comes {Rest Choice : Type 0} (program : Program Rest Choice) : List Choice → State Rest → Type 0 where
  begun : Comes program [] (beginning program)
  one_more : {choices : List Choice} {from to : State Rest} (choice : Choice) → Comes program choices from
      → Acts program choice from to → Comes program (choice ∷ choices) to

-- some schedule of the program comes to this state
abbrev pub Reaches : {Rest Choice : Type 0} (program : Program Rest Choice) → State Rest → Type 0
Reaches {Choice = Choice} program state = (choices : List Choice) × Comes program choices state
