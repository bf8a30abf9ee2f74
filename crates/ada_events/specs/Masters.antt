-- Masters and dependents (9.4). A master is the body of a task or a block; the parent of a task's body
-- is the master that the task was made under, and that of a block is what it was opened in.
use Rattle.std.specs.Prelude.{ℕ, suc, Bool, false, ◌==◌, ◌&&◌, ◌||◌, if◌then◌else◌, List, [], ◌∷◌, length}
use Rattle.std.specs.Option.{option_map_or}
use Rattle.ada_events.specs.declared.event.Event.{Event}
use Rattle.ada_events.specs.declared.names.Master.{Master}
use Rattle.ada_events.specs.declared.names.Master.TheVariants.{Body, Block}
use Rattle.ada_events.specs.Search.{is_some_and}
use Rattle.ada_events.specs.Says.{Creation, Opening, creation_in, opening_in}
use Rattle.ada_events.specs.Tasks.{task_count}

abbrev pub same_master : Master → Master → Bool
same_master (Body t) (Body u) = t.0 == u.0
same_master (Block p) (Block q) = p == q
same_master _ _ = false

-- the parent of a master where the event after a journal made it; else the master itself, which is then
-- looked for further down
unfoldable pub parent_in : List Event → Event → Master → Master
parent_in before event (Body t) =
    option_map_or (λ (c : Creation). if t.0 == task_count before then c.master else Body t) (creation_in event) (Body t)
parent_in before event (Block p) =
    option_map_or (λ (o : Opening). if p == suc (length before) then o.under else Block p) (opening_in event) (Block p)

-- whether the second master is the first, or is reached from it by parents. One walk down the journal finds
-- them all: a parent is older than what it is the parent of.
unfoldable pub reaches : List Event → Master → Master → Bool
reaches [] from to = same_master from to
reaches (event ∷ before) from to = same_master from to || reaches before (parent_in before event from) to

-- whether a task depends on a master (9.4): the one that it was made under, or one reached from it
unfoldable pub depends_on : List Event → ℕ → Master → Bool
depends_on [] task master = false
depends_on (event ∷ before) task master =
    is_some_and (creation_in event) (λ (c : Creation). task == task_count before && reaches before c.master master)
    || depends_on before task master
