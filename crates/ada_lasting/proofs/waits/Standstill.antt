-- Nobody runs in both journals or in neither, and the same can let both go on.
use Rattle.std.proofs.Common.{◌≡◌, ℕ, false, not, List, refl, sym, ap}
use Rattle.std.proofs.lemmas.Bool.{not-false}
use Rattle.ada_events.specs.declared.event.Event.{Event}
use Rattle.ada_events.specs.Phases.{is_started, is_terminated, has_ended, is_suspended, is_running}
use Rattle.ada_laws.specs.Unlimited.{IsLawfulUnlimited}
use Rattle.ada_laws.proofs.searching.Searching.{three_parts}
use Rattle.ada_standing.specs.Renaming.{Renaming}
use Rattle.ada_standing.specs.StandsIn.{StandsIn}
use Rattle.ada_standing.proofs.alike.Pairs.{active_parts}
use Rattle.ada_standing.proofs.alike.Phases.{running_alike}
use Rattle.ada_standing.proofs.alike.Mastering.{all_alike}
use Rattle.ada_waiting.specs.Standstill.{nobody_runs, verdict_of}
use Rattle.ada_lasting.proofs.waits.Dues.{first_due_alike}

-- a task that runs isn't terminated
running_unterminated : (journal : List Event) (u : ℕ) → not (is_running journal u) ≡ false → is_terminated journal u ≡ false
unfolding is_running
running_unterminated journal u runs =
    (active_parts journal u
    (three_parts (is_started journal u) (has_ended journal u) (is_suspended journal u) (not-false (is_running journal u) runs)).1).1

pub nobody_runs_alike : (old new : List Event) (names : Renaming) → StandsIn old new names → nobody_runs new ≡ nobody_runs old
unfolding nobody_runs
nobody_runs_alike old new names stands =
    sym (all_alike old new names (λ u. not (is_running old u)) (λ v. not (is_running new v)) stands
    (λ u v named live. ap not (running_alike old new names u v stands named))
    (running_unterminated old) (running_unterminated new))

pub verdict_alike : (old new : List Event) (names : Renaming) → StandsIn old new names → IsLawfulUnlimited old → IsLawfulUnlimited new
    → verdict_of new ≡ verdict_of old
unfolding verdict_of
verdict_alike old new names stands lawful also =
    rw (
      (stands.same 0 0 stands.tasks.main).terminated,
      nobody_runs_alike old new names stands,
      first_due_alike old new names stands lawful also,
    ) refl
