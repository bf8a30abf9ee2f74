use Rattle.std.proofs.Common.{take}
use Rattle.ada_replay.specs.Ends.{state}
use Rattle.ada_replay.specs.Accounts.{Accounts}
use Rattle.ada_replay.proofs.account.answers_to.Given as goal

abbrev pub invariant-loop-line : goal.invariant-loop-line
invariant-loop-line g l =
    Accounts (take l.line-index l.lines) (state l.initial.kernel l.initial.names) l.answers.items l.text.items (state l.kernel l.names)
