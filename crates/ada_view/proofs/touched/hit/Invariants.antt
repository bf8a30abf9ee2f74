use Rattle.std.proofs.Common.{◌≡◌, length}
use Rattle.ada_records.specs.Records.{is_hit}
use Rattle.ada_view.specs.internal.Hitting.{TellsOfLive}
use Rattle.ada_view.proofs.Listing.{ListsFirst}
use Rattle.ada_view.proofs.touched.hit.Given as goal

abbrev pub invariant-loop-number : goal.invariant-loop-number
invariant-loop-number l =
    (length l.flags ≡ l.number) × TellsOfLive l.view l.flags (is_hit l.view l.tasks) × ListsFirst l.view l.hit (is_hit l.view l.tasks) l.number
