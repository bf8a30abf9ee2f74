-- A kernel that lives on follows a journal without an end.
use Rattle.std.specs.Prelude.{◌≡◌, ◌⊎◌, ℕ, true, false, ◌+◌, ◌-◌, Some, None, List, [], ◌++◌, length, map, take, drop}
use Rattle.ada_events.specs.declared.event.Event.{Event}
use Rattle.ada_events.specs.declared.request.Request.{Request}
use Rattle.ada_events.specs.Tasks.{task_count, has_task}
use Rattle.ada_events.specs.Phases.{is_running, is_terminated}
use Rattle.ada_events.specs.Lawful.{IsSettled, After}
use Rattle.ada_laws.specs.Unlimited.{IsLawfulUnlimited, refusal_but_limits}
use Rattle.ada_standing.specs.Renaming.{renamed_event}
use Rattle.ada_standing.specs.StandsIn.{StandsIn}
use Rattle.ada_waiting.specs.Runnable.{before_last}
use Rattle.ada_lasting.specs.declared.masters.Dependent.{Dependent}
use Rattle.ada_lasting.specs.Naming.{Naming, found, length_of, renaming_of}
use Rattle.ada_lasting.specs.Remembering.{KnowsMasters}

-- what a contract sees of a kernel that lives on: its present journal, what has lasting names in it, the events that the
-- last request appended to it, the newest first, and the masters that it remembers of tasks
pub record Long : Type 0 where
  pub present : List Event
  pub names : Naming
  pub group : List Event
  pub masters : List Dependent

-- the same of a kernel whose present journal had so many events before the last request
abbrev pub seen : List Event → Naming → ℕ → List Dependent → Long
seen present names before masters = record {
  present = present;
  names = names;
  group = take (length present - before) present;
  masters = masters;
}

-- what a journal was before the events that are shown
abbrev pub before_shown : List Event → Long → List Event
before_shown journal kernel = drop (length kernel.group) journal

-- the events that are shown are those of the present journal's last request; before them, a task that has a name ran, and
-- was terminated, exactly if what has its name in the present journal did and was; and whoever wasn't terminated then has
-- a name
pub record AgreedBefore (journal : List Event) (kernel : Long) : Type 0 where
  pub last : before_last kernel.present ≡ before_shown kernel.present kernel
  pub running : (u v : ℕ) → found kernel.names.tasks u ≡ Some v
      → is_running (before_shown kernel.present kernel) v ≡ is_running (before_shown journal kernel) u
  pub terminated : (u v : ℕ) → found kernel.names.tasks u ≡ Some v
      → is_terminated (before_shown kernel.present kernel) v ≡ is_terminated (before_shown journal kernel) u
  pub named : (u : ℕ) → has_task journal u ≡ true → is_terminated (before_shown journal kernel) u ≡ false
      → (v : ℕ) × (found kernel.names.tasks u ≡ Some v)
  pub others : (v : ℕ) → has_task kernel.present v ≡ true → is_terminated (before_shown kernel.present kernel) v ≡ false
      → (u : ℕ) × (found kernel.names.tasks u ≡ Some v)

-- the kernel follows a journal without an end: this is lawful, where tasks, slots and events have no limit, and settled,
-- the present journal stands in for it, the events that are shown stand for its newest, in their order, and if there are
-- any, both journals agreed before them, the next event and the next task will have their places in it as names, and the
-- masters of tasks are remembered
pub record Follows (journal : List Event) (kernel : Long) : Type 0 where
  pub lawful : IsLawfulUnlimited journal
  pub settled : IsSettled journal
  pub stands : StandsIn journal kernel.present (renaming_of kernel.names)
  pub shown : map Some kernel.group ≡ map (renamed_event (renaming_of kernel.names)) (take (length kernel.group) journal)
  pub before : (kernel.group ≡ []) ⊎ AgreedBefore journal kernel
  pub length : length journal ≡ length_of kernel.names
  pub made : task_count journal ≡ kernel.names.made
  pub masters : KnowsMasters journal kernel.names kernel.masters

-- there is a journal without an end that the kernel follows
abbrev pub LivesOn : Long → Type 0
LivesOn kernel = (journal : List Event) × Follows journal kernel

-- the request was accepted: it isn't refused, where tasks, slots and events have no limit; its event stands at this
-- position of what it leads to, which the kernel follows then; and each of the events by which the present journal grew
-- stands for one of those that were appended, in their order
pub record IsStepped (journal : List Event) (request : Request) (at : ℕ) (kernel : Long) : Type 0 where
  pub unrefused : refusal_but_limits journal request ≡ None
  pub grown : List Event
  pub after : After journal request grown
  pub follows : Follows grown kernel
  pub position : at ≡ length journal + 1
  pub steps : List Event
  pub appended : grown ≡ steps ++ journal
  pub told : map Some kernel.group ≡ map (renamed_event (renaming_of kernel.names)) steps
