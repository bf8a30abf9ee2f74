-- What a search is asked of a lawful journal.
use Rattle.std.proofs.Common.{◌≡◌, ◌≤◌, false, None, List, reverse}
use Rattle.ada_events.specs.declared.event.Event.{Event}
use Rattle.ada_events.specs.declared.request.Request.{Request}
use Rattle.ada_events.specs.Tasks.{task_count}
use Rattle.ada_events.specs.Refusals.{refusal}
use Rattle.ada_events.specs.Limits.{is_too_late}
use Rattle.ada_events.specs.Lawful.{IsLawful}
use Rattle.ada_laws.proofs.asking.LimitLaws.{tasks_are_few}
use Rattle.ada_laws.proofs.asking.Accepting.{is_accepted}

pub few_tasks : (events journal : List Event) → reverse events ≡ journal → IsLawful journal → task_count (reverse events) ≤ 256
few_tasks events journal same lawful = rw same (tasks_are_few journal lawful)

pub in_time : (events journal : List Event) (request : Request) → reverse events ≡ journal → refusal journal request ≡ None
    → is_too_late (reverse events) request ≡ false
in_time events journal request same unrefused = rw same ((is_accepted journal request unrefused).in_time)
