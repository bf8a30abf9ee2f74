-- Which row of the forced steps gives events of each kind.
use Rattle.std.specs.Prelude.{ℕ}
use Rattle.ada_events.specs.declared.event.Event.{Event}
use Rattle.ada_events.specs.declared.event.Event.TheVariants.{Halted, Failed, Met, Cancelled, Passed, Woken, Activated, Gone, Quit, Left}

-- the number of the row that gives events of this kind; 0 of those that are asked for
abbrev pub number : Event → ℕ
number (Halted task) = 1
number (Failed call) = 2
number (Met call wait) = 3
number (Cancelled call) = 4
number (Passed wait way) = 5
number (Woken pause) = 6
number (Activated start ok) = 7
number (Gone task) = 8
number (Quit master) = 9
number (Left close) = 10
number _ = 0
