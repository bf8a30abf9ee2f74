use Rattle.std.proofs.Common.{◌≡◌, take}
use Rattle.ada_embed.proofs.lasting.requests.tasks_in.Given as goal

abbrev pub invariant-loop-number : goal.invariant-loop-number
invariant-loop-number l = l.tasks ≡ take l.number-index l.numbers
