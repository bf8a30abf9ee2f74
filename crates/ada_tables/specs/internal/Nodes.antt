-- The keys that tasks keep of the nodes of their calls.
use Rattle.std.specs.Prelude.{ℕ, Option, None, List, slice_index_or}

-- the key of a caller's node
abbrev pub key_of : List (Option ℕ) → ℕ → Option ℕ
key_of keys caller = slice_index_or keys caller None
