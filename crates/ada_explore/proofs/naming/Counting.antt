-- A schedule makes no more tasks than its script has lines.
use Rattle.std.proofs.Common.{◌≡◌, ℕ, suc, ◌+◌, ◌<◌, ◌≤◌, Option, Some, List, [], length}
use Rattle.std.proofs.Common.{sym, subst, arith}
use Rattle.std.specs.List.{range_with_len}
use Rattle.std.proofs.lemmas.Option.{none-some}
use Rattle.std.proofs.lemmas.List.FromFn.{length-range_with_len}
use Rattle.ada_events.specs.declared.event.Event.{Event}
use Rattle.ada_events.specs.declared.request.Request.{Request}
use Rattle.ada_events.specs.Tasks.{task_count}
use Rattle.ada_events.specs.Lawful.{After}
use Rattle.ada_script.specs.declared.script.Line.{Line}
use Rattle.ada_script.specs.Script.{scope_of}
use Rattle.ada_schedules.specs.Schedules.{State, Acts, Comes}
use Rattle.ada_schedules.proofs.Adding.{few_more, none_made}
use Rattle.ada_explore.specs.declared.turns.Turn.{Turn}
use Rattle.ada_explore.specs.declared.turns.Turn.TheVariants.{Line as Say, Time as Pass}
use Rattle.ada_explore.specs.declared.turns.Freedom.{Freedom}
use Rattle.ada_explore.specs.Scripts.{Rest, scripted, request_at, asker_at, is_same, is_searched, without, asking}
use Rattle.ada_explore.proofs.naming.Passing.{fewer_kept, less_left}
use Rattle.ada_explore.proofs.naming.Coming.{asked_parts, passed_parts, coming_found}

-- ---- lines that are left

-- what asks is taken out
pub asked_less : (freedom : Freedom) (script : List Line) (journal : List Event) (r : Rest) (place : ℕ) (pick : Option ℕ) (request : Request)
    → (scripted freedom script).asks journal r (Say place pick) ≡ Some request → length (without place r.left) < length r.left
asked_less freedom script journal r place pick request asks =
    less_left (λ q. is_same (asker_at script r.names q) (asker_at script r.names place)) r.left place
    (coming_found script journal r place (asked_parts freedom script journal r place pick request asks).may)

-- ---- schedules

begun_few : (freedom : Freedom) (script : List Line) → task_count [] + length (asking freedom script) ≤ suc (length script)
unfolding task_count
begun_few freedom script =
    let fewer = fewer_kept (λ place. is_searched freedom.time (request_at script (scope_of script) place)) (range_with_len 0 (length script)) in
    let all = length-range_with_len 0 (length script) in
    omega (arith, fewer, all)

module _ (freedom : Freedom) (script : List Line) where
  acts_few : (turn : Turn) (from to : State Rest) → task_count from.journal + length from.rest.left ≤ suc (length script)
      → Acts (scripted freedom script) turn from to → task_count to.journal + length to.rest.left ≤ suc (length script)
  acts_few (Say place pick) from to few (Acts.accepted request journal asks accepted leads) =
      let more = few_more from.journal request journal leads in
      let less = asked_less freedom script from.journal from.rest place pick request asks in
      omega (arith, few, more, less)
  acts_few (Say place pick) from to few (Acts.refused request cause asks refused) =
      let less = asked_less freedom script from.journal from.rest place pick request asks in
      omega (arith, few, less)
  acts_few Pass from to few (Acts.accepted request journal asks accepted leads) =
      let passed = passed_parts freedom script from.journal from.rest request asks in
      let same = none_made from.journal passed.until journal (subst (λ (r : Request). After from.journal r journal) (sym passed.is) leads) in
      omega (arith, few, same)
  acts_few Pass from to few (Acts.refused request cause asks refused) = few
  acts_few turn from to few (Acts.alone rest none leaves) = absurd (none-some rest leaves)

  comes_few : (turns : List Turn) (state : State Rest) → Comes (scripted freedom script) turns state
      → task_count state.journal + length state.rest.left ≤ suc (length script)
  comes_few turns state (Comes.begun) = begun_few freedom script
  comes_few turns state (Comes.one_more {choices} {from} {to} turn comes acts) =
      acts_few turn from to (comes_few choices from comes) acts

  -- a short script makes few tasks
  pub reaches_few : (turns : List Turn) (state : State Rest) → Comes (scripted freedom script) turns state → length script ≤ 4096
      → task_count state.journal ≤ 4097
  reaches_few turns state comes short = let few = comes_few turns state comes in omega (arith, few, short)
