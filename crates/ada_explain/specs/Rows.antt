-- By which row of the forced steps an event is forced.
use Rattle.std.specs.Prelude.{◌≡◌, ℕ, ◌-◌, Option, Some, List, [], ◌∷◌, slice_get}
use Rattle.std.specs.Option.{option_or}
use Rattle.ada_events.specs.declared.event.Event.{Event}
use Rattle.ada_events.specs.Forced.{forced, halted, failed, met, cancelled, passed, woken, activated, gone, quit_body, quit_block, left}

-- what each of the ten rows gives, in their order
abbrev pub rows : List Event → List (Option Event)
rows journal =
    halted journal ∷ failed journal ∷ met journal ∷ cancelled journal ∷ passed journal ∷ woken journal ∷ activated journal ∷ gone journal
    ∷ option_or (quit_body journal) (quit_block journal) ∷ left journal ∷ []

-- whatever journal forces the event, the row of this number, from 1, gives it there
abbrev pub IsRowOf : Event → ℕ → Type 0
IsRowOf event row = (journal : List Event) → forced journal ≡ Some event → slice_get (rows journal) (row - 1) ≡ Some (Some event)

-- no journal forces the event
abbrev pub IsNeverForced : Event → Type 0
IsNeverForced event = (journal : List Event) → forced journal ≡ Some event → ⊥
