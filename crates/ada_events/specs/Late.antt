-- Parts of a request that would be due behind the last moment.
use Rattle.std.specs.Prelude.{ℤ, Bool, false, ◌&&◌}
use Rattle.std.specs.List.{list_any}
use Rattle.ada_events.specs.declared.names.Pause.{Pause}
use Rattle.ada_events.specs.declared.names.Patience.{Patience}
use Rattle.ada_events.specs.declared.names.Patience.TheVariants.{Timed}
use Rattle.ada_events.specs.declared.request.Tail.{Tail}
use Rattle.ada_events.specs.declared.request.Tail.TheVariants.{Delays}
use Rattle.ada_events.specs.Limits.{ends_too_late}

abbrev pub is_late_call : ℤ → Patience → Bool
is_late_call now (Timed duration) = ends_too_late now duration
is_late_call now _ = false

abbrev pub is_late_tail : ℤ → Tail → Bool
is_late_tail now (Delays pauses) = list_any (λ (d : Pause). d.guard && ends_too_late now d.duration) pauses
is_late_tail now _ = false
