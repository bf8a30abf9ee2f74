-- What a task is within while it is suspended at a close or at a wait. Laws.
use Rattle.std.specs.Prelude.{◌≡◌, ℕ, ◌<◌, true, false, Some, List, length}
use Rattle.std.specs.List.{list_any}
use Rattle.ada_events.specs.declared.event.Event.{Event}
use Rattle.ada_events.specs.declared.limits.TheConstants.{MOST_MEMBERS}
use Rattle.ada_events.specs.declared.names.Member.TheVariants.{Block}
use Rattle.ada_events.specs.Says.{Closing, Wait, closing_in, wait_in}
use Rattle.ada_events.specs.Nests.{nest, innermost}
use Rattle.ada_events.specs.Refusals.{is_rendezvous}
use Rattle.ada_events.specs.Termination.{is_open_terminate}
use Rattle.ada_events.specs.Lawful.{IsLawful}
use Rattle.ada_laws.specs.Suspension.{IsSuspendedAt}

-- the block that a task closed is the innermost that it is within while it is suspended at that close
abbrev pub ClosedBlocksAreInnermost : Type 0
ClosedBlocksAreInnermost =
    (journal : List Event) (task close : ℕ) (closing : Closing) → IsLawful journal
    → (held : IsSuspendedAt journal task close) → closing_in held.event ≡ Some closing
    → innermost (nest journal task) ≡ Some (Block closing.block)

-- the nest of a task has room for one more member while it is suspended at a wait
abbrev pub WaitsHaveRoom : Type 0
WaitsHaveRoom =
    (journal : List Event) (task position : ℕ) (wait : Wait) → IsLawful journal
    → (held : IsSuspendedAt journal task position) → wait_in held.event ≡ Some wait
    → length (nest journal task) < MOST_MEMBERS

-- a task is in no rendezvous while it is suspended at a wait with an open terminate alternative
abbrev pub OpenTerminatesAreInNoRendezvous : Type 0
OpenTerminatesAreInNoRendezvous =
    (journal : List Event) (task position : ℕ) (wait : Wait) → IsLawful journal
    → (held : IsSuspendedAt journal task position) → wait_in held.event ≡ Some wait
    → is_open_terminate wait.tail ≡ true → list_any is_rendezvous (nest journal task) ≡ false
