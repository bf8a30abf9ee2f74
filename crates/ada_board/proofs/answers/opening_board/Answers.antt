use Rattle.std.proofs.Common.{refl}
use Rattle.ada_events.specs.Tasks.{task_count}
use Rattle.ada_events.specs.Phases.{has_ended, is_completed, is_terminated, is_abnormal}
use Rattle.ada_events.specs.Limits.{slot_count}
use Rattle.ada_events.specs.Attributes.{is_callable}
use Rattle.ada_events.specs.Boards.{board_of, listed, shows_callable, shows_terminated, shows_count}
use Rattle.ada_board.proofs.answers.opening_board.Goals as goal

pub returns : goal.returns
unfolding board_of listed shows_callable shows_terminated shows_count task_count slot_count is_callable has_ended is_completed is_terminated is_abnormal
returns c = refl
