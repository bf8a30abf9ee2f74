-- What threads keep of one another under the lock.
use Rattle.std.specs.Prelude.{ℕ, ◌+◌, ◌-◌, ◌%◌, ◌^◌, ◌||◌, min, nat_le, ◌==◌, if◌then◌else◌, Option, Some, None, false}
use Rattle.ada_hall.specs.declared.turns.Turns.{Turns}

-- the first place's turn, and so many threads that aren't done
abbrev pub first_turns : ℕ → Turns
first_turns working = record { turn = 0; stopped = false; stuck = false; changes = 0; waiting = 0; working = working }

-- how many threads have looked since the last change, where another one looks that had seen this change
abbrev pub with_one_more : ℕ → ℕ → Option ℕ → ℕ
with_one_more waiting changes None = min (waiting + 1) (2 ^ 32 - 1)
with_one_more waiting changes (Some seen) = if seen == changes then waiting else min (waiting + 1) (2 ^ 32 - 1)

-- something changed for which a thread may wait, so all who wait look again
abbrev pub changed : Turns → Turns
changed turns = record turns { changes = (turns.changes + 1) % 2 ^ 64; waiting = 0 }

-- the line at a place was played: it is the next one's turn
abbrev pub passed : ℕ → Turns → Turns
passed place turns = record (changed turns) { turn = (place + 1) % 2 ^ 32 }

-- a thread is done
abbrev pub left : Turns → Turns
left turns = record (changed turns) { working = turns.working - 1 }

-- one more thread waits, unless it had seen this change; where all who aren't done wait, nobody waits any more
abbrev pub waited : Option ℕ → Turns → Turns
waited seen turns =
    let waiting = with_one_more turns.waiting turns.changes seen in
    record turns { waiting = waiting; stuck = turns.stuck || nat_le turns.working waiting }
