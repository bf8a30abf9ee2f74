-- One task less in a loop down a list of tasks.
use Rattle.std.proofs.Common.{◌≡◌, ℕ, suc, ◌-◌, ◌<◌, ◌≤◌, false, ◌||◌, List, ◌∷◌, length, drop, get_or, ap, ◌∙◌, arith, drop-cons}
use Rattle.std.proofs.Math.Seq.{drop-length}
use Rattle.ada_events.specs.declared.names.TaskNo.{TaskNo}
use Rattle.ada_events.specs.Phases.{lists_task}
use Rattle.ada_events.specs.Refusals.{has_double_task}

pub has_double_less : (tasks : List TaskNo) (n : ℕ) (d : TaskNo) → 0 < n → n ≤ length tasks
    → has_double_task (drop (n - 1) tasks) ≡ (lists_task (get_or tasks (n - 1) d).0 (drop n tasks) || has_double_task (drop n tasks))
unfolding has_double_task
has_double_less tasks n d low high =
    ap has_double_task (drop-cons tasks (n - 1) d (omega arith) ∙ ap (λ k. get_or tasks (n - 1) d ∷ drop k tasks) (let e : suc (n - 1) ≡ n = omega arith in e))

pub has_double_past : (tasks : List TaskNo) → has_double_task (drop (length tasks) tasks) ≡ false
unfolding has_double_task
has_double_past tasks = ap has_double_task (drop-length tasks)
