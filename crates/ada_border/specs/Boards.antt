-- Boards in plain numbers.
use Rattle.ada_events.specs.declared.board.Board.{Board}
use Rattle.ada_border.specs.declared.boards.PlainBoard.{PlainBoard}

abbrev pub plain_board : Board → PlainBoard
plain_board board = record {
  events = board.events;
  tasks = board.tasks;
  slots = board.slots;
  callable = board.callable;
  terminated = board.terminated;
  counts = board.counts;
}
