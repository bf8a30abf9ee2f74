-- A clock of the host's: what a request asks at a moment of it, in milliseconds from the beginning.
use Rattle.std.specs.Prelude.{◌≡◌, ◌⊎◌, ℕ, ℤ, pos, ◌-ℤ◌, Bool, true, false, ◌&&◌, ◌||◌, int_le, int_lt, Option, Some, None, List, map}
use Rattle.std.specs.List.{list_any}
use Rattle.std.specs.Int.{saturate_to_bits}
use Rattle.ada_events.specs.declared.event.Event.{Event}
use Rattle.ada_events.specs.declared.names.Patience.{Patience}
use Rattle.ada_events.specs.declared.names.Patience.TheVariants.{Timed}
use Rattle.ada_events.specs.declared.names.Pause.{Pause}
use Rattle.ada_events.specs.declared.refusal.Refusal.TheVariants.{MomentBack}
use Rattle.ada_events.specs.declared.request.Request.{Request}
use Rattle.ada_events.specs.declared.request.Request.TheVariants.{Call, Wait, Delay, Tick}
use Rattle.ada_events.specs.declared.request.Tail.{Tail}
use Rattle.ada_events.specs.declared.request.Tail.TheVariants.{Delays}
use Rattle.ada_events.specs.Asks.{due_after}
use Rattle.ada_events.specs.Lawful.{After}
use Rattle.ada_events.specs.Tasks.{moment}
use Rattle.ada_laws.specs.Unlimited.{refusal_but_limits}
use Rattle.ada_waiting.specs.Standstill.{first_due}
use Rattle.ada_lasting.specs.declared.failure.NotDone.{NotDone}
use Rattle.ada_lasting.specs.declared.failure.NotDone.TheVariants.{Refused}
use Rattle.ada_lasting.specs.Following.{Long, Follows, IsStepped}
use Rattle.ada_lasting.specs.GivingUp.{GivesUpOnly}
use Rattle.ada_lasting.specs.Refusing.{IsRefused}

-- a duration that counts from so much later: longer by that, as far as 64 bits go; a negative one counts as 0 (9.6)
abbrev pub longer : ℤ → ℤ → ℤ
longer gap duration = saturate_to_bits 63 (due_after gap duration)

abbrev pub longer_pause : ℤ → Pause → Pause
longer_pause gap pause = record { guard = pause.guard; duration = longer gap pause.duration }

abbrev pub longer_tail : ℤ → Tail → Tail
longer_tail gap (Delays pauses) = Delays (map (longer_pause gap) pauses)
longer_tail gap tail = tail

abbrev pub longer_patience : ℤ → Patience → Patience
longer_patience gap (Timed duration) = Timed (longer gap duration)
longer_patience gap patience = patience

-- the request, its durations counted from so much later than the moment of the journal
unfoldable pub asked_later : ℤ → Request → Request
asked_later gap (Call by callee entry patience) = Call by callee entry (longer_patience gap patience)
asked_later gap (Wait by choices tail pick) = Wait by choices (longer_tail gap tail) pick
asked_later gap (Delay by duration) = Delay by (longer gap duration)
asked_later gap request = request

abbrev pub has_come : ℤ → Option ℤ → Bool
has_come now (Some due) = int_le due now
has_come now None = false

-- a delay alternative is open and over at once (9.7.1)
abbrev pub is_past : Pause → Bool
is_past pause = pause.guard && int_le pause.duration (pos 0)

-- a duration of the request is over at once (9.6, 9.7.1, 9.7.3)
unfoldable pub is_over_at_once : Request → Bool
is_over_at_once (Call by callee entry (Timed duration)) = int_le duration (pos 0)
is_over_at_once (Wait by choices (Delays pauses) pick) = list_any is_past pauses
is_over_at_once (Delay by duration) = int_le duration (pos 0)
is_over_at_once request = false

-- a tick to this moment comes before the request: a task waits for this moment or for an earlier one, or the moment is a
-- later one, at which a duration of the request is over at once
abbrev pub wants_tick : List Event → ℤ → Request → Bool
wants_tick journal now request = has_come now (first_due journal) || (int_lt (moment journal) now && is_over_at_once request)

-- a tick to this moment was accepted, and led to this journal, which the kernel followed in between
pub record IsTicked (journal : List Event) (now : ℤ) (before : Long) (ticked : List Event) (between : Long) : Type 0 where
  pub unrefused : refusal_but_limits journal (Tick now) ≡ None
  pub after : After journal (Tick now) ticked
  pub follows : Follows ticked between
  pub given_up : GivesUpOnly journal before.names between.names

-- the time since the moment of the journal, as far as 64 bits go
abbrev pub since : List Event → ℤ → ℤ
since journal now = saturate_to_bits 63 (now -ℤ moment journal)

-- the request was accepted at a moment of the host's clock, which didn't go back: after a tick to it, if that is wanted;
-- else its durations count from that moment, and there is no tick
abbrev pub IsSteppedAt : List Event → ℤ → Request → Long → ℕ → Long → Type 0
IsSteppedAt journal now request before at kernel =
    (int_lt now (moment journal) ≡ false)
    × (((wants_tick journal now request ≡ false) × GivesUpOnly journal before.names kernel.names
    × IsStepped journal (asked_later (since journal now) request) at kernel)
    ⊎ ((wants_tick journal now request ≡ true) × ((ticked : List Event) × (between : Long) × IsTicked journal now before ticked between
    × GivesUpOnly ticked between.names kernel.names × IsStepped ticked request at kernel)))

-- the tick to that moment was refused, or after it the request
abbrev pub IsRefusedThen : List Event → ℤ → Request → NotDone → Long → Long → Type 0
IsRefusedThen journal now request cause before kernel =
    (GivesUpOnly journal before.names kernel.names × IsRefused journal (Tick now) cause before kernel)
    ⊎ ((ticked : List Event) × (between : Long) × IsTicked journal now before ticked between
    × GivesUpOnly ticked between.names kernel.names × IsRefused ticked request cause between kernel)

-- the request was refused at that moment: since the clock went back; or for its cause, or that of the tick, if one is wanted
abbrev pub IsRefusedAt : List Event → ℤ → Request → NotDone → Long → Long → Type 0
IsRefusedAt journal now request cause before kernel =
    ((int_lt now (moment journal) ≡ true) × (cause ≡ Refused MomentBack) × (kernel ≡ before))
    ⊎ ((int_lt now (moment journal) ≡ false)
    × (((wants_tick journal now request ≡ false) × GivesUpOnly journal before.names kernel.names
    × IsRefused journal (asked_later (since journal now) request) cause before kernel)
    ⊎ ((wants_tick journal now request ≡ true) × IsRefusedThen journal now request cause before kernel)))
