use Rattle.std.proofs.Common.{◌≡◌, length}
use Rattle.ada_embed.proofs.Listed.{AreFirst, AreKept}
use Rattle.ada_embed.proofs.events.adatask_events_from.Given as goal

abbrev pub invariant-loop-place : goal.invariant-loop-place
invariant-loop-place l =
    (length l.out ≡ length l.initial.out) × (l.h.home ≡ l.initial.h.home)
    × AreFirst l.initial.h.home l.from l.place l.out × AreKept l.place l.initial.out l.out
