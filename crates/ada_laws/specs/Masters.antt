-- Masters and their parents (9.4). Laws of every lawful journal.
use Rattle.std.specs.Prelude.{◌≡◌, ℕ, ◌<◌, ◌||◌, Option, Some, List}
use Rattle.std.specs.Option.{option_map}
use Rattle.ada_events.specs.declared.event.Event.{Event}
use Rattle.ada_events.specs.declared.names.TaskNo.{TaskNo}
use Rattle.ada_events.specs.declared.names.Master.{Master}
use Rattle.ada_events.specs.declared.names.Master.TheVariants.{Body, Block}
use Rattle.ada_events.specs.Search.{is_some_and, event_at}
use Rattle.ada_events.specs.Says.{Creation, Opening, opening_in, opening_at}
use Rattle.ada_events.specs.Tasks.{task_count, creation_of}
use Rattle.ada_events.specs.Masters.{same_master, reaches, depends_on}
use Rattle.ada_events.specs.Lawful.{IsLawful}

-- the parent of a master: of a task's body the master that the task was made under, of a block what it was
-- opened in; the main program's body has none
abbrev pub parent_of : List Event → Master → Option Master
parent_of journal (Body t) = option_map (λ (c : Creation). c.master) (creation_of journal t.0)
parent_of journal (Block p) = option_map (λ (o : Opening). o.under) (opening_at journal p)

-- a block was opened at the position
pub record IsOpeningAt (journal : List Event) (position : ℕ) : Type 0 where
  pub event : Event
  pub opening : Opening
  pub stands : event_at journal position ≡ Some event
  pub says : opening_in event ≡ Some opening

-- the master is the body of a task that exists, or a block that was opened
abbrev pub IsKnown : List Event → Master → Type 0
IsKnown journal (Body t) = t.0 < task_count journal
IsKnown journal (Block p) = IsOpeningAt journal p

-- a master reaches itself, and what its parent reaches
abbrev pub MastersReachByParents : Type 0
MastersReachByParents =
    (journal : List Event) (from to : Master) → IsLawful journal → IsKnown journal from
    → reaches journal from to ≡ (same_master from to || is_some_and (parent_of journal from) (λ (parent : Master). reaches journal parent to))

-- a task depends on the parent of its body, and on what this reaches
abbrev pub TasksDependByParents : Type 0
TasksDependByParents =
    (journal : List Event) (task : TaskNo) (master : Master) → IsLawful journal
    → depends_on journal task.0 master ≡ is_some_and (parent_of journal (Body task)) (λ (parent : Master). reaches journal parent master)
