-- One more family in a loop that adds up entries.
use Rattle.std.proofs.Common.{◌≡◌, ℕ, ◌+◌, ◌<◌, List, [], ◌∷◌, length, take, get_or, ap, ◌∙◌, arith}
use Rattle.std.specs.List.{sum_by}
use Rattle.std.proofs.lemmas.List.{take_more}
use Rattle.std.proofs.lemmas.List.Sums.{sum_by-append}
use Rattle.ada_events.specs.declared.names.Family.{Family}
use Rattle.ada_events.specs.Entries.{entry_count, entries_in}

pub entries_in_more : (families : List Family) (i : ℕ) (d : Family) → i < length families
    → entries_in (take (i + 1) families) ≡ entries_in (take i families) + entry_count (get_or families i d)
unfolding entries_in
entries_in_more families i d below =
    ap (sum_by entry_count) (take_more families i d below) ∙ sum_by-append entry_count (take i families) (get_or families i d ∷ []) ∙ omega arith
