-- How many calls stand in a queue: each is of a task of its own.
use Rattle.std.proofs.Common.{◌≡◌, ◌≢◌, ℕ, ◌<◌, ◌≤◌, List, length, map, get_or, sym, ◌∙◌, arith, refl}
use Rattle.std.specs.Option.{option_map_or, option_and_then}
use Rattle.std.specs.List.{AllPairs, Contains}
use Rattle.std.proofs.lemmas.Bool.Decides.{Decides-eqb}
use Rattle.std.proofs.lemmas.Bool.{eqb-true}
use Rattle.std.proofs.lemmas.List.{get_or-map, length-map}
use Rattle.std.proofs.lemmas.List.Elements.{Contains-get_or}
use Rattle.std.proofs.lemmas.Map.Steps.{length-le_from_distinct_below}
use Rattle.std.proofs.lemmas.Map.Made.{IsDistinct-from_AllPairs}
use Rattle.std.proofs.lemmas.Map.Views.{Contains-from_any}
use Rattle.ada_events.specs.declared.event.Event.{Event}
use Rattle.ada_events.specs.declared.names.Entry.{Entry}
use Rattle.ada_events.specs.Search.{event_at}
use Rattle.ada_events.specs.Says.{Call, call_in}
use Rattle.ada_events.specs.Tasks.{task_count}
use Rattle.ada_events.specs.Calls.{queue, count_of}
use Rattle.ada_events.specs.Lawful.{IsLawful}
use Rattle.ada_laws.specs.Calls.{IsCallAt}
use Rattle.ada_laws.specs.Slots.{QueuesAreShort, QueuesHoldOneCallOfEach}
use Rattle.ada_laws.proofs.held.Suspending.{suspended_exists}
use Rattle.ada_laws.proofs.queues.Queueing.{queue-found, queue-rises}
use Rattle.ada_laws.proofs.queues.CallLaws.{one_open_call_each, open_calls_suspend}
use Rattle.ada_laws.proofs.asking.LimitLaws.{tasks_are_few}

-- the caller of the call at a position
caller_at : List Event → ℕ → ℕ
caller_at journal position = option_map_or (λ (c : Call). c.by) (option_and_then call_in (event_at journal position)) 0

caller_at-call : (journal : List Event) (call : Call) (position : ℕ) → IsCallAt journal call position → caller_at journal position ≡ call.by
unfolding caller_at
caller_at-call journal call position stands = rw (stands.stands, stands.says) refl

caller_apart : (journal : List Event) (task : ℕ) (entry : Entry) (p q : ℕ) → IsLawful journal → Contains (queue journal task entry) p
    → Contains (queue journal task entry) q → p < q → caller_at journal p ≢ caller_at journal q
caller_apart journal task entry p q lawful has_p has_q less = λ same.
    let a = queue-found journal task entry p has_p in
    let b = queue-found journal task entry q has_q in
    let callers : a.call.by ≡ b.call.by = sym (caller_at-call journal a.call p a.opened.stands) ∙ same ∙ caller_at-call journal b.call q b.opened.stands in
    let one : p ≡ q = one_open_call_each journal lawful a.call b.call p q a.opened b.opened callers in
    omega arith

callers_apart : (journal : List Event) (task : ℕ) (entry : Entry) → IsLawful journal
    → AllPairs (λ x y. x ≢ y) (map (caller_at journal) (queue journal task entry))
callers_apart journal task entry lawful i j d less below =
    let xs = queue journal task entry in
    let within : j < length xs = omega (arith, length-map xs (caller_at journal)) in
    let apart : caller_at journal (get_or xs i 0) ≢ caller_at journal (get_or xs j 0) =
    caller_apart journal task entry (get_or xs i 0) (get_or xs j 0) lawful (Contains-get_or xs i 0 (omega arith)) (Contains-get_or xs j 0 within)
    (queue-rises journal task entry i j 0 less within) in
    λ same. apart (sym (get_or-map (caller_at journal) xs i 0 d (omega arith)) ∙ same ∙ get_or-map (caller_at journal) xs j 0 d within)

caller_exists : (journal : List Event) (task : ℕ) (entry : Entry) (q : ℕ) → IsLawful journal → Contains (map (caller_at journal) (queue journal task entry)) q
    → q < task_count journal
caller_exists journal task entry q lawful (k, below, same) =
    let xs = queue journal task entry in
    let within : k < length xs = omega (arith, length-map xs (caller_at journal)) in
    let a = queue-found journal task entry (get_or xs k 0) (Contains-get_or xs k 0 within) in
    let is : q ≡ a.call.by = sym same ∙ get_or-map (caller_at journal) xs k 0 q within ∙ caller_at-call journal a.call (get_or xs k 0) a.opened.stands in
    let exists : a.call.by < task_count journal = suspended_exists journal a.call.by (get_or xs k 0) lawful
    (open_calls_suspend journal a.call (get_or xs k 0) a.opened) in
    omega arith

pub queues_are_short : QueuesAreShort
unfolding count_of
queues_are_short journal task entry lawful =
    let xs = queue journal task entry in
    let callers = map (caller_at journal) xs in
    let few : length callers ≤ task_count journal =
    length-le_from_distinct_below callers (task_count journal) (IsDistinct-from_AllPairs Decides-eqb callers (callers_apart journal task entry lawful))
    (λ q found. caller_exists journal task entry q lawful (Contains-from_any eqb-true q callers found)) in
    let most : task_count journal ≤ 256 = tasks_are_few journal lawful in
    omega (arith, length-map xs (caller_at journal))

pub queues_hold_one_call_of_each : QueuesHoldOneCallOfEach
queues_hold_one_call_of_each journal task entry c d p q lawful has_p has_q at_p at_q same =
    let a = queue-found journal task entry p has_p in
    let b = queue-found journal task entry q has_q in
    let callers : a.call.by ≡ b.call.by =
    sym (caller_at-call journal a.call p a.opened.stands) ∙ caller_at-call journal c p at_p ∙ same
    ∙ sym (caller_at-call journal d q at_q) ∙ caller_at-call journal b.call q b.opened.stands in
    one_open_call_each journal lawful a.call b.call p q a.opened b.opened callers
