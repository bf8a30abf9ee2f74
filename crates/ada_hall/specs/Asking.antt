-- What a reader of the board is asked for a line that shows an attribute.
use Rattle.std.specs.Prelude.{◌≡◌, Ok, Some, List}
use Rattle.ada_events.specs.declared.event.Event.{Event}
use Rattle.ada_events.specs.Slots.{slot_of}
use Rattle.ada_statements.specs.Scope.{Scope}
use Rattle.ada_statements.specs.Binding.{task_of, entry_of}
use Rattle.ada_statements.specs.declared.statement.Statement.{Statement}
use Rattle.ada_statements.specs.declared.statement.Statement.TheVariants.{ShowCallable, ShowTerminated, ShowCount}
use Rattle.ada_printing.specs.declared.value.Value.{Value}
use Rattle.ada_replay.specs.Play.{shown}
use Rattle.ada_hall.specs.declared.asking.Asking.{Asking}
use Rattle.ada_hall.specs.declared.asking.Asking.TheVariants.{Callable, Terminated, Count}

-- the attribute of the task, or of the entry at the slot, that a statement names
abbrev pub Names : Scope → List Event → Statement → Asking → Type 0
Names names _ (ShowCallable _ task) asking = asking ≡ Callable (task_of names task)
Names names _ (ShowTerminated _ task) asking = asking ≡ Terminated (task_of names task)
Names names journal (ShowCount by entry) (Count slot) = slot_of journal (task_of names by).0 (entry_of names by entry) ≡ Some slot
Names _ _ _ _ = ⊥

-- the statement may show its attribute, and this is it
pub record Asks (names : Scope) (journal : List Event) (statement : Statement) (asking : Asking) : Type 0 where
  pub value : Value
  pub shows : shown names journal statement ≡ Ok value
  pub names_it : Names names journal statement asking
