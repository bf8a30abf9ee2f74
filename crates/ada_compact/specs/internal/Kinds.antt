-- The kinds of events that names lead to, and the order of their positions.
use Rattle.std.specs.Prelude.{◌≡◌, ℕ, suc, Bool, true, ◌&&◌, nat_le, if◌then◌else◌, List, [], ◌∷◌, is_some}
use Rattle.std.specs.List.{All}
use Rattle.std.specs.Option.{option_map_or}
use Rattle.ada_events.specs.declared.event.Event.{Event}
use Rattle.ada_events.specs.Search.{is_some_and, event_at}
use Rattle.ada_events.specs.Says.{Wait as SaidWait, call_in, wait_in, delay_in, start_in, closing_in, opening_in, wait_at}
use Rattle.ada_events.specs.Calls.{is_pending}
use Rattle.ada_events.specs.Lawful.{IsLawful}
use Rattle.ada_standing.specs.declared.renaming.Place.{Place}
use Rattle.ada_standing.specs.Names.{Names, rises_from}
use Rattle.ada_standing.specs.Holds.{is_timed_wait}
use Rattle.ada_compact.specs.declared.comparison.kinds.Kind.{Kind}
use Rattle.ada_compact.specs.declared.comparison.kinds.Kind.TheVariants.{Call, Wait, Delay, Start, Close, Block}

abbrev pub has_kind : Kind → Event → Bool
has_kind Call event = is_some (call_in event)
has_kind Wait event = is_some (wait_in event)
has_kind Delay event = is_some (delay_in event)
has_kind Start event = is_some (start_in event)
has_kind Close event = is_some (closing_in event)
has_kind Block event = is_some (opening_in event)

-- an event of that kind stands at the position
unfoldable pub is_kind_at : List Event → Kind → ℕ → Bool
is_kind_at journal kind position = is_some_and (event_at journal position) (has_kind kind)

-- the event is of that kind, and the order among those counts: among waits, of those with an open delay alternative
abbrev pub is_ordered : Kind → Event → Bool
is_ordered Wait event = is_timed_wait event
is_ordered kind event = has_kind kind event

-- such an event stands at the position
unfoldable pub is_ordered_at : List Event → Kind → ℕ → Bool
is_ordered_at journal kind position = is_some_and (event_at journal position) (is_ordered kind)

-- a wait at the position holds its task up
unfoldable pub is_no_past_wait : List Event → ℕ → Bool
is_no_past_wait journal position = option_map_or (λ (w : SaidWait). is_pending journal position w.by) (wait_at journal position) true

-- the two events at a place are of the same kind, and of one; the first holds its task up if it is a wait
pub record IsAlikePlace (old new : List Event) (place : Place) : Type 0 where
  pub kinds : (kind : Kind) → is_kind_at new kind place.new ≡ is_kind_at old kind place.old
  pub one : Kind
  pub has : is_kind_at old one place.old ≡ true
  pub waits : is_no_past_wait old place.old ≡ true
  pub lawful : IsLawful old

abbrev pub AreAlikePlaces : List Event → List Event → List Place → Type 0
AreAlikePlaces old new = All (IsAlikePlace old new)

-- among the places whose old position passes, the new positions rise, from this one on
unfoldable pub rises_among : (ℕ → Bool) → ℕ → List Place → Bool
rises_among test low [] = true
rises_among test low (place ∷ rest) =
    if test place.old then nat_le low place.new && rises_among test (suc place.new) rest else rises_among test low rest

-- the places are alike, and the new positions rise among those of each kind the order of which counts
pub record ArePlacesRight (old new : List Event) (names : Names) : Type 0 where
  pub olds : rises_from 0 names.places ≡ true
  pub alike : AreAlikePlaces old new names.places
  pub rise : (kind : Kind) → rises_among (is_ordered_at old kind) 0 names.places ≡ true
