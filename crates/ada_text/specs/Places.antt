-- Places in a text: lines and columns count from 1.
use Rattle.std.specs.Prelude.{◌≡◌, ℕ, ◌+◌, ◌≤◌, List, fold, length, take, if◌then◌else◌, ◌==◌, ◌&&◌, leb, ltb}
use Rattle.ada_text.specs.declared.place.Place.{Place}

-- the place after a byte: a new line after a line feed, and none after the second and later bytes of a character in UTF-8
abbrev pub place_after : Place → ℕ → Place
place_after place byte =
    if byte == 10 then record { line = place.line + 1; column = 1 }
    else (if leb 128 byte && ltb byte 192 then place else record { line = place.line; column = place.column + 1 })

-- where the byte with this index stands
abbrev pub place_at : List ℕ → ℕ → Place
place_at text index = fold place_after (record { line = 1; column = 1 }) (take index text)

-- a place of a byte of the text, or of its end
abbrev pub IsPlaceIn : List ℕ → Place → Type 0
IsPlaceIn text place = (index : ℕ) × ((index ≤ length text) × (place ≡ place_at text index))
