-- What a kernel that lives on tells of a task that has ended, and of one that was given up.
use Rattle.std.proofs.Common.{◌≡◌, ℕ, Bool, true, false, Option, Some, None, List, refl, sym, ap, ◌∙◌}
use Rattle.std.specs.Prelude.{if◌then◌else◌, not, ◌&&◌, ◌||◌}
use Rattle.std.specs.Bool.{then_some}
use Rattle.std.specs.Option.{is_some, option_map, option_or, option_and_then, unwrap_or}
use Rattle.std.proofs.lemmas.Bool.{ltb-true, or_right, true≢false}
use Rattle.std.proofs.lemmas.Option.{none-some}
use Rattle.ada_events.specs.declared.event.Event.{Event}
use Rattle.ada_events.specs.declared.event.Event.TheVariants.{Called, Waiting, Paused, Started, Closed}
use Rattle.ada_events.specs.Phases.{has_ended, is_completed, is_running, is_started, is_terminated}
use Rattle.ada_events.specs.Search.{event_at}
use Rattle.ada_events.specs.Tasks.{has_task, task_count}
use Rattle.ada_waiting.specs.declared.reasons.Reason.{Reason}
use Rattle.ada_waiting.specs.declared.reasons.Reason.TheVariants as reason
use Rattle.ada_waiting.specs.Reasons.{held_reason, reason_at, reason_by, reason_of, suspended_at}
use Rattle.ada_standing.proofs.alike.Pairs.{live_from}
use Rattle.ada_lasting.specs.declared.reasons.LastingReason.{LastingReason}
use Rattle.ada_lasting.specs.declared.reasons.LastingReason.TheVariants as lasting
use Rattle.ada_lasting.specs.Following.{Long, Follows}
use Rattle.ada_lasting.specs.Meaning.{meant_reason}
use Rattle.ada_lasting.specs.Naming.{found}
use Rattle.ada_threads.specs.Going.{is_held_up}
use Rattle.ada_threads.specs.internal.Settling.{is_completed_reason}

is_completing : Option Reason → Bool
is_completing (Some reason.Completed) = true
is_completing _ = false

-- no suspension is that of a completed task
not_by : (met : Bool) (position : ℕ) (e : Event) → is_completing (reason_by met position e) ≡ false
unfolding reason_by is_completing
not_by true position (Called by callee entry patience due) = refl
not_by false position (Called by callee entry patience due) = refl
not_by met position (Waiting by pick choices tail) = refl
not_by met position (Paused by due) = refl
not_by met position (Started by tasks) = refl
not_by met position (Closed by block) = refl
not_by met position _ = refl

not_at : (journal : List Event) (position : ℕ) (e : Option Event) → is_completing (option_and_then (reason_at journal position) e) ≡ false
unfolding is_completing
not_at journal position None = refl
not_at journal position (Some e) = not_by _ position e

not_held : (journal : List Event) (at : Option ℕ)
    → is_completing (option_and_then (λ p. option_and_then (reason_at journal p) (event_at journal p)) at) ≡ false
unfolding is_completing
not_held journal None = refl
not_held journal (Some p) = not_at journal p (event_at journal p)

or_not : (held : Option Reason) (started : Bool) → is_completing held ≡ false
    → is_completing (option_or held (if started then None else Some reason.NotStarted)) ≡ false
unfolding is_completing
or_not (Some r) started none = none
or_not None true none = refl
or_not None false none = refl

reason_told : (r : Option LastingReason) → is_completing (option_map meant_reason r) ≡ is_completed_reason r
unfolding meant_reason is_completing is_completed_reason
reason_told None = refl
reason_told (Some lasting.NotStarted) = refl
reason_told (Some (lasting.Activating start)) = refl
reason_told (Some (lasting.Queued call)) = refl
reason_told (Some (lasting.InRendezvous call)) = refl
reason_told (Some (lasting.Waiting wait)) = refl
reason_told (Some (lasting.Delayed pause)) = refl
reason_told (Some (lasting.Leaving close)) = refl
reason_told (Some lasting.Completed) = refl

completing_of : (completed : Bool) (held : Option Reason) (started : Bool) → is_completing held ≡ false
    → is_completing (if completed then Some reason.Completed else option_or held (if started then None else Some reason.NotStarted)) ≡ completed
unfolding is_completing
completing_of true held started none = refl
completing_of false held started none = or_not held started none

-- whether a task that isn't terminated is completed, by its reason
completed_told : (journal : List Event) (task : ℕ) → has_task journal task ≡ true → is_terminated journal task ≡ false
    → is_completing (reason_of journal task) ≡ is_completed journal task
unfolding reason_of held_reason
completed_told journal task has alive =
    rw (has, alive)
    (completing_of (is_completed journal task) (held_reason journal task) (is_started journal task) (not_held journal (suspended_at journal task)))

ended_of : (completed terminated told : Bool) → (terminated ≡ false → told ≡ completed) → (completed || terminated) ≡ (terminated || told)
ended_of true true told same = refl
ended_of false true told same = refl
ended_of true false told same = sym (same refl)
ended_of false false told same = sym (same refl)

-- whether it has ended, by what is told of it
ended_told : (journal : List Event) (task : ℕ) (r : Option LastingReason) → has_task journal task ≡ true
    → option_map meant_reason r ≡ reason_of journal task
    → has_ended journal task ≡ (is_terminated journal task || is_completed_reason r)
unfolding has_ended
ended_told journal task r has told =
    ended_of (is_completed journal task) (is_terminated journal task) (is_completed_reason r) (λ alive.
    sym (reason_told r) ∙ (ap is_completing told ∙ completed_told journal task has alive))

-- a task that has a name was made
named_made : (journal : List Event) (kernel : Long) (task v : ℕ) → Follows journal kernel → found kernel.names.tasks task ≡ Some v
    → has_task journal task ≡ true
named_made journal kernel task v follows named = (follows.stands.same task v named).existed

if_not : (b : Bool) → (b ≡ false → b ≡ true) → b ≡ true
if_not true other = refl
if_not false other = other refl

free_of : (has runs completed terminated : Bool) → (has ≡ true → terminated ≡ true)
    → (has && (not runs && not (completed || terminated))) ≡ false
free_of false runs completed terminated ended = refl
free_of true true completed terminated ended = refl
free_of true false true terminated ended = refl
free_of true false false terminated ended = ap not (ended refl)

-- a task that was made and has no name has ended, so it isn't held up
nameless_free : (journal : List Event) (kernel : Long) (task : ℕ) → Follows journal kernel → found kernel.names.tasks task ≡ None
    → is_held_up journal task ≡ false
unfolding has_ended
nameless_free journal kernel task follows nameless =
    free_of (has_task journal task) (is_running journal task) (is_completed journal task) (is_terminated journal task) (λ has.
    if_not (is_terminated journal task) (λ alive.
    let (v, named) = follows.stands.tasks.live task (live_from journal task (ltb-true task (task_count journal) has) alive) in
    absurd (none-some v (sym nameless ∙ named))))

terminated_by : (journal : List Event) (kernel : Long) (task v : ℕ) (told : Option Bool) → found kernel.names.tasks task ≡ Some v
    → told ≡ then_some (is_some (found kernel.names.tasks task)) (is_terminated journal task) → unwrap_or told false ≡ is_terminated journal task
terminated_by journal kernel task v told named is = ap (λ o. unwrap_or o false) (is ∙ ap (λ f. then_some (is_some f) (is_terminated journal task)) named)

reason_by_name : (journal : List Event) (kernel : Long) (task v : ℕ) (r : Option LastingReason) → found kernel.names.tasks task ≡ Some v
    → option_map meant_reason r ≡ option_and_then (λ (v : ℕ). reason_of journal task) (found kernel.names.tasks task)
    → option_map meant_reason r ≡ reason_of journal task
reason_by_name journal kernel task v r named is = is ∙ ap (option_and_then (λ (v : ℕ). reason_of journal task)) named

-- a task that has a name has ended if it is told to be terminated
pub ended_if_terminated : (journal : List Event) (kernel : Long) (task v : ℕ) (told : Option Bool) → found kernel.names.tasks task ≡ Some v
    → told ≡ then_some (is_some (found kernel.names.tasks task)) (is_terminated journal task) → unwrap_or told false ≡ true
    → true ≡ has_ended journal task
unfolding has_ended
ended_if_terminated journal kernel task v told named is so =
    sym (or_right (is_completed journal task) (is_terminated journal task) (sym (terminated_by journal kernel task v told named is) ∙ so))

-- and else exactly if it has the reason of a completed one
pub ended_if_completed : (journal : List Event) (kernel : Long) (task v : ℕ) (told : Option Bool) (r : Option LastingReason) → Follows journal kernel
    → found kernel.names.tasks task ≡ Some v
    → told ≡ then_some (is_some (found kernel.names.tasks task)) (is_terminated journal task) → unwrap_or told false ≡ false
    → option_map meant_reason r ≡ option_and_then (λ (v : ℕ). reason_of journal task) (found kernel.names.tasks task)
    → is_completed_reason r ≡ has_ended journal task
ended_if_completed journal kernel task v told r follows named is alive because =
    let lives : is_terminated journal task ≡ false = sym (terminated_by journal kernel task v told named is) ∙ alive in
    sym (ended_told journal task r (named_made journal kernel task v follows named) (reason_by_name journal kernel task v r named because)
    ∙ ap (λ b. b || is_completed_reason r) lives)

held_by : (has runs ended : Bool) → has ≡ true → runs ≡ false → (has && (not runs && not ended)) ≡ not ended
held_by true false ended made stands = refl
held_by false runs ended made stands = absurd (true≢false (sym made))
held_by true true ended made stands = absurd (true≢false stands)

runs_not : (has ended : Bool) → (has && (not true && not ended)) ≡ false
runs_not true ended = refl
runs_not false ended = refl

-- a task that is told to run, or nothing is told of, isn't held up
pub free_if : (journal : List Event) (kernel : Long) (task : ℕ) (told : Option Bool) → Follows journal kernel
    → told ≡ then_some (is_some (found kernel.names.tasks task)) (is_running journal task) → unwrap_or told true ≡ true
    → false ≡ is_held_up journal task
free_if journal kernel task told follows is so = sym (by_name (found kernel.names.tasks task) refl)
  where
    by_name : (f : Option ℕ) → found kernel.names.tasks task ≡ f → is_held_up journal task ≡ false
    by_name None nameless = nameless_free journal kernel task follows nameless
    by_name (Some v) named =
        let runs : is_running journal task ≡ true =
        sym (ap (λ o. unwrap_or o true) (is ∙ ap (λ f. then_some (is_some f) (is_running journal task)) named)) ∙ so in
        ap (λ b. has_task journal task && (not b && not (has_ended journal task))) runs ∙ runs_not (has_task journal task) (has_ended journal task)

-- and one that is told not to run exactly if it hasn't ended
pub held_if : (journal : List Event) (kernel : Long) (task : ℕ) (told : Option Bool) (ended : Bool) → Follows journal kernel
    → told ≡ then_some (is_some (found kernel.names.tasks task)) (is_running journal task) → unwrap_or told true ≡ false
    → ((v : ℕ) → found kernel.names.tasks task ≡ Some v → ended ≡ has_ended journal task)
    → not ended ≡ is_held_up journal task
held_if journal kernel task told ended follows is so same = sym (by_name (found kernel.names.tasks task) refl)
  where
    by_name : (f : Option ℕ) → found kernel.names.tasks task ≡ f → is_held_up journal task ≡ not ended
    by_name None nameless =
        absurd (true≢false (sym (ap (λ o. unwrap_or o true) (is ∙ ap (λ f. then_some (is_some f) (is_running journal task)) nameless)) ∙ so))
    by_name (Some v) named =
        let stands : is_running journal task ≡ false =
        sym (ap (λ o. unwrap_or o true) (is ∙ ap (λ f. then_some (is_some f) (is_running journal task)) named)) ∙ so in
        held_by (has_task journal task) (is_running journal task) (has_ended journal task) (named_made journal kernel task v follows named) stands
        ∙ ap not (sym (same v named))
