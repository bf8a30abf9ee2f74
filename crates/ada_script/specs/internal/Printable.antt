-- The bytes that a line may hold.
use Rattle.std.specs.Prelude.{ℕ, Bool, leb, ◌&&◌}

abbrev pub printable : ℕ → Bool
printable byte = leb 32 byte && leb byte 126
