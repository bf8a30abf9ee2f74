-- What a reader of the board answers for a line that shows an attribute.
use Rattle.std.specs.Prelude.{Option}
use Rattle.std.specs.Option.{option_map}
use Rattle.ada_events.specs.declared.board.Board.{Board}
use Rattle.ada_printing.specs.declared.value.Value.{Value}
use Rattle.ada_printing.specs.declared.value.Value.TheVariants.{Truth, Number}
use Rattle.ada_board.specs.Answers.{callable_on, terminated_on, count_on}
use Rattle.ada_hall.specs.declared.asking.Asking.{Asking}
use Rattle.ada_hall.specs.declared.asking.Asking.TheVariants.{Callable, Terminated, Count}

-- the value that a board shows of an attribute, where it has the task or the entry
abbrev pub value_on : Board → Asking → Option Value
value_on board (Callable task) = option_map Truth (callable_on board task.0)
value_on board (Terminated task) = option_map Truth (terminated_on board task.0)
value_on board (Count slot) = option_map Number (count_on board slot)
