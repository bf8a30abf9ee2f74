use Rattle.std.proofs.Common.{◌≡◌, [], take}
use Rattle.ada_bench.proofs.published.publish_all.Given as goal

abbrev pub invariant-loop-board : goal.invariant-loop-board
invariant-loop-board g l = l.writer ≡ record { published = take l.board-index l.boards; offered = [] }
