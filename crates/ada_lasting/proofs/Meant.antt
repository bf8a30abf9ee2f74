-- What is nameable is kept, by the names of a journal that the kernel follows.
use Rattle.std.proofs.Common.{◌≡◌, ℕ, true, not, ◌||◌, Option, Some, None, List, [], ◌∷◌, refl, ap}
use Rattle.std.specs.Prelude.{nat_lt}
use Rattle.std.specs.Option.{option_map_or, is_some}
use Rattle.std.specs.List.{list_all}
use Rattle.ada_events.specs.declared.event.Event.{Event}
use Rattle.ada_events.specs.declared.request.Request.{Request}
use Rattle.ada_events.specs.declared.names.TaskNo.{TaskNo}
use Rattle.ada_events.specs.Tasks.{task_count}
use Rattle.ada_events.specs.Asks.{asker, named_tasks}
use Rattle.ada_standing.specs.Asking.{is_kept, names_kept}
use Rattle.ada_lasting.specs.Naming.{Naming, found, renaming_of}
use Rattle.ada_lasting.specs.internal.Nameable.{is_nameable, are_nameable, names_nameable}

module _ (journal : List Event) (names : Naming) (made : task_count journal ≡ names.made) where
  kept_one : (task : ℕ) → is_kept (renaming_of names) journal task ≡ is_nameable names task
  kept_one task = ap (λ n. not (nat_lt task n) || is_some (found names.tasks task)) made

  kept_all : (tasks : List TaskNo) → list_all (λ (t : TaskNo). is_kept (renaming_of names) journal t.0) tasks ≡ are_nameable names tasks
  unfolding are_nameable
  kept_all [] = refl
  kept_all (task ∷ rest) = rw (kept_one task.0, kept_all rest) refl

  kept_asker : (o : Option ℕ) → option_map_or (is_kept (renaming_of names) journal) o true ≡ option_map_or (is_nameable names) o true
  kept_asker None = refl
  kept_asker (Some task) = kept_one task

  pub kept_nameable : (request : Request) → names_kept (renaming_of names) journal request ≡ names_nameable names request
  unfolding names_kept names_nameable
  kept_nameable request = rw (kept_asker (asker request), kept_all (named_tasks request)) refl
