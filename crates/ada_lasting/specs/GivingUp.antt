-- Who is given up: which tasks lose their names.
use Rattle.std.specs.Prelude.{◌≡◌, ℕ, true, false, Some, None, List}
use Rattle.std.specs.List.{list_any}
use Rattle.ada_events.specs.declared.event.Event.{Event}
use Rattle.ada_events.specs.declared.names.Master.{Master}
use Rattle.ada_events.specs.declared.names.Master.TheVariants.{Body, Block}
use Rattle.ada_events.specs.Says.{Creation}
use Rattle.ada_events.specs.Tasks.{creation_of}
use Rattle.ada_events.specs.Phases.{is_terminated}
use Rattle.ada_events.specs.Nests.{nest}
use Rattle.ada_events.specs.Holders.{is_block}
use Rattle.ada_standing.specs.StandsIn.{is_live}
use Rattle.ada_lasting.specs.Naming.{Naming, found}

-- the master is gone: the task is terminated whose body it is, or no task that lives is within the block
abbrev pub IsGone : List Event → Master → Type 0
IsGone journal (Body task) = is_terminated journal task.0 ≡ true
IsGone journal (Block position) = (u : ℕ) → is_live journal u ≡ true → list_any (is_block position) (nest journal u) ≡ false

-- the task may be given up: it is terminated, and the master on which it depends by its creation (9.4) is gone
pub record MayBeGivenUp (journal : List Event) (task : ℕ) : Type 0 where
  pub terminated : is_terminated journal task ≡ true
  pub creation : Creation
  pub created : creation_of journal task ≡ Some creation
  pub gone : IsGone journal creation.master

-- whoever has a name before and none after may be given up
abbrev pub GivesUpOnly : List Event → Naming → Naming → Type 0
GivesUpOnly journal before after = (task v : ℕ) → found before.tasks task ≡ Some v → found after.tasks task ≡ None → MayBeGivenUp journal task
