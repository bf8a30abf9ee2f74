-- Which picks the selective waits of a script may have (9.7.1).
use Rattle.std.specs.Prelude.{ℕ, ◌==◌, ◌&&◌, ◌||◌, not, nat_lt, Bool, true, false, Option, Some, None, List, length, slice_get}
use Rattle.std.specs.Option.{option_map_or, unwrap_or}
use Rattle.ada_events.specs.declared.request.Request.{Request}
use Rattle.ada_events.specs.declared.request.Request.TheVariants.{Wait}
use Rattle.ada_events.specs.declared.request.Tail.{Tail}
use Rattle.ada_events.specs.declared.request.Tail.TheVariants.{Delays}
use Rattle.ada_statements.specs.declared.statement.Statement.{Statement}
use Rattle.ada_statements.specs.declared.statement.Statement.TheVariants.{Select}
use Rattle.ada_script.specs.declared.script.Line.{Line}
use Rattle.ada_explore.specs.declared.turns.Picks.{Picks}
use Rattle.ada_explore.specs.declared.turns.Picks.TheVariants.{AsWritten, All}

-- how many delay alternatives there are
abbrev pub delays_in : Tail → ℕ
delays_in (Delays pauses) = length pauses
delays_in _ = 0

-- another pick than the one that is written could matter: of k accept alternatives, or k delay alternatives, that could be
-- taken, number `pick % k` is, and there are as many of them, or fewer
abbrev pub could_matter : Statement → ℕ → Bool
could_matter (Select by written choices tail) pick = not (pick == written) && (nat_lt pick (length choices) || nat_lt pick (delays_in tail))
could_matter _ pick = false

-- the line at a place may have another pick; with none it is as it is written
abbrev pub may_have : Picks → List Line → ℕ → Option ℕ → Bool
may_have picks script place None = true
may_have AsWritten script place (Some pick) = false
may_have All script place (Some pick) = option_map_or (λ (line : Line). could_matter line.statement pick) (slice_get script place) false

-- a request with another pick, if it is a wait
abbrev pub with_pick : Option ℕ → Request → Request
with_pick pick (Wait by choices tail written) = Wait by choices tail (unwrap_or pick written)
with_pick pick request = request
