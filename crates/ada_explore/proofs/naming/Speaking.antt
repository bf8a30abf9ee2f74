-- A script speaks in names.
use Rattle.std.proofs.Common.{◌≡◌, ℕ, suc, ◌+◌, ◌<◌, ◌≤◌, true, cond, ◌&&◌, Option, Some, None, List, length, slice_get, refl, sym, ap, subst, ◌∙◌, arith}
use Rattle.std.specs.Option.{option_map}
use Rattle.std.proofs.lemmas.Bool.{false≢true, ltb-true}
use Rattle.std.proofs.lemmas.Option.{none-some, same_Some}
use Rattle.ada_events.specs.declared.event.Event.{Event}
use Rattle.ada_events.specs.declared.request.Request.{Request}
use Rattle.ada_events.specs.declared.request.Request.TheVariants.{Tick}
use Rattle.ada_events.specs.declared.names.TaskNo.{TaskNo}
use Rattle.ada_events.specs.Tasks.{task_count}
use Rattle.ada_events.specs.Forced.{task_no}
use Rattle.ada_events.specs.Lawful.{After}
use Rattle.ada_laws.proofs.asking.LimitLaws.{tasks_are_few}
use Rattle.ada_laws.proofs.asking.Limitless.{lawful_unlimited}
use Rattle.ada_laws.proofs.searching.Searching.{option_and_then-some}
use Rattle.ada_standing.specs.Renaming.{Renaming}
use Rattle.ada_standing.specs.StandsIn.{StandsIn}
use Rattle.ada_standing.specs.Asking.{renamed_request, names_kept}
use Rattle.ada_standing.specs.Leading.{LedAlike}
use Rattle.ada_statements.specs.declared.statement.Statement.{Statement}
use Rattle.ada_statements.specs.declared.statement.Statement.TheVariants.{Tick as Until, Create}
use Rattle.ada_waiting.specs.Standstill.{first_due}
use Rattle.ada_lasting.proofs.waits.Dues.{first_due_alike}
use Rattle.ada_statements.specs.Scope.{Scope}
use Rattle.ada_statements.specs.Binding.{request_of}
use Rattle.ada_script.specs.declared.script.Line.{Line}
use Rattle.ada_schedules.specs.Schedules.{State}
use Rattle.ada_schedules.specs.Closed.{asked_in, went_on, StandsFor, SpeaksInNames}
use Rattle.ada_schedules.proofs.Stuck.{few_tasks, tick_kept, tick_renamed}
use Rattle.ada_schedules.proofs.Adding.{few_more, one_made, longer_after}
use Rattle.ada_explore.specs.declared.turns.Turn.{Turn}
use Rattle.ada_explore.specs.declared.turns.Turn.TheVariants.{Line as Say, Time as Pass}
use Rattle.ada_explore.specs.declared.turns.Freedom.{Freedom}
use Rattle.ada_explore.specs.Picks.{may_have, with_pick}
use Rattle.ada_explore.specs.Scripts.{Rest, rest, scripted, request_at, runs, all_silent, may_come, left_after}
use Rattle.ada_explore.specs.Sameness.{says_alike_at, same_task, SameRest}
use Rattle.ada_explore.proofs.naming.Numbers.{one_named, stands_on}
use Rattle.ada_explore.proofs.naming.Requests.{request_at_alike}
use Rattle.ada_explore.proofs.naming.Chaining.{same_along, same_less}
use Rattle.ada_explore.proofs.naming.Askers.{AskAlike, AreApart, request_kept}
use Rattle.ada_explore.proofs.naming.Picking.{picked_renamed, picked_kept}
use Rattle.ada_explore.proofs.naming.Coming.{Asked, asked_parts, Passed, passed_parts, coming_within, are_apart, runs_alike, silent_alike, may_come_alike}
use Rattle.ada_explore.proofs.naming.Counting.{reaches_few}
use Rattle.ada_explore.proofs.naming.Keeping.{creates, KnowsMore, same_on, same_passed}

-- ---- what more names are known once both journals took a line

-- a number that no task has has no name
no_name : (old new : List Event) (names : Renaming) (u : ℕ) → StandsIn old new names → task_count old ≤ u → names.task u ≡ None
no_name old new names u stands few = by (names.task u) refl
  where
    by : (o : Option ℕ) → names.task u ≡ o → names.task u ≡ None
    by None is = is
    by (Some v) is =
        let below : u < task_count old = ltb-true u (task_count old) (stands.same u v is).existed in
        absurd (omega (arith, below, few))

-- a line that makes a task made one
makes_more : (names : Scope) (statement : Statement) (pick : Option ℕ) (written : Request) (old new : List Event)
    → request_of names statement ≡ Some written → creates statement ≡ true → After old (with_pick pick written) new → task_count old < task_count new
makes_more names (Create by task under families) pick written old new asks makes after =
    one_made old _ _ _ new (subst (λ r. After old (with_pick pick r) new) (sym (same_Some _ written asks)) after)
makes_more names _ pick written old new asks makes after = absurd (false≢true makes)

module _ (old new : List Event) (names : Renaming) (pick : Option ℕ) (written : Request) (journal other : List Event) (few : task_count old ≤ 4097)
    (few_too : task_count new ≤ 256) (after : After old (with_pick pick written) journal) (led : LedAlike old new names journal other) where
  task_after : (t u : TaskNo) → same_task names t u ≡ true → same_task led.after t u ≡ true
  task_after t u same =
      let more = few_more old (with_pick pick written) journal after in
      let none = no_name journal other led.after 65535 led.stands (omega (arith, few, more)) in
      stands_on names.task led.after.task 65535 t.0 u.0 (λ _. none) led.kept.tasks same

  made_after : task_count old < task_count journal → same_task led.after (task_no (task_count old)) (task_no (task_count new)) ≡ true
  made_after grew =
      let here : task_count old ≡ 0 + task_count old = omega arith in
      let there : 0 + task_count new ≡ task_count new = omega arith in
      one_named led.after.task 65535 (task_count old) (task_count new) (record {
        bound = λ same. omega (arith, few, same);
        bound_too = λ same. omega (arith, few_too, same);
        named = ap led.after.task here ∙ led.tasks 0 (omega (arith, grew)) ∙ ap Some there;
      })

  pub knows_more : (scope : Scope) (statement : Statement) → request_of scope statement ≡ Some written
      → KnowsMore names led.after statement (length old + 1) (length new + 1) (task_no (task_count old)) (task_no (task_count new))
  knows_more scope statement asks =
      let longer = longer_after old (with_pick pick written) journal after in
      let here : length old + 1 ≡ suc (0 + length old) = omega arith in
      let there : suc (0 + length new) ≡ length new + 1 = omega arith in
      record {
        tasks = task_after;
        positions = λ p q same.
            stands_on names.position led.after.position 0 p q (λ none. led.old_positions 0 (omega arith) ∙ none) led.kept.positions same;
        new_task = λ makes. made_after (makes_more scope statement pick written old journal asks makes after);
        new_block = one_named led.after.position 0 (length old + 1) (length new + 1) (record {
          bound = λ same. omega (arith, same);
          bound_too = λ same. omega (arith, same);
          named = ap led.after.position here ∙ led.positions 0 (omega (arith, longer)) ∙ ap Some there;
        });
      }

-- ---- the script

module _ (freedom : Freedom) (script : List Line) (short : length script ≤ 4096) (first second : State Rest) (names : Renaming)
    (for : StandsFor (scripted freedom script) (SameRest script) first second names) where
  few : task_count first.journal ≤ 4097
  few = let (turns, comes) = for.reached in reaches_few freedom script turns first comes short

  few_too : task_count second.journal ≤ 256
  few_too = tasks_are_few second.journal for.lawful_too

  -- the same is left in the second, but for what names are bound to
  left_too : second.rest ≡ rest first.rest.left second.rest.names
  left_too = ap (λ left. rest left second.rest.names) (sym for.same.left)

  run_alike : (by also : Option ℕ) → AskAlike names by also → runs first.journal by ≡ runs second.journal also
  run_alike by also alike =
      let here = few in
      runs_alike first.journal second.journal names by also for.stands (omega (arith, here)) (few_tasks second.journal for.lawful_too) alike

  apart : AreApart names
  apart = are_apart first.journal second.journal names for.stands

  -- ---- a line

  module _ (place : ℕ) (pick : Option ℕ) (request : Request) (asks : asked_in (scripted freedom script) first (Say place pick) ≡ Some request) where
    asked : Asked freedom script first.journal first.rest place pick request
    asked = asked_parts freedom script first.journal first.rest place pick request asks

    says : says_alike_at script names first.rest.names second.rest.names place ≡ true
    says =
        coming_within script first.journal first.rest place (says_alike_at script names first.rest.names second.rest.names) for.same.alike
        asked.may

    comes_too : may_come script second.journal second.rest place ≡ true
    comes_too =
        ap (λ r. may_come script second.journal r place) left_too
        ∙ sym (may_come_alike script names first.rest.names second.rest.names first.rest.left apart for.same.alike first.journal second.journal run_alike
        place says)
        ∙ asked.may

    -- the line there asks for the same, and so it does with its pick
    written_too : request_at script second.rest.names place ≡ Some (renamed_request names asked.written)
    written_too =
        request_at_alike names first.rest.names second.rest.names for.same.declared script place says
        ∙ ap (option_map (renamed_request names)) asked.asks

    line_asks_too : asked_in (scripted freedom script) second (Say place pick) ≡ Some (renamed_request names request)
    line_asks_too =
        let there : Option Request = option_map (with_pick pick) (request_at script second.rest.names place) in
        ap (λ b. cond (b && may_have freedom.picks script place pick) there None) comes_too
        ∙ ap (λ b. cond b there None) asked.has
        ∙ ap (option_map (with_pick pick)) written_too
        ∙ ap Some (picked_renamed names pick asked.written ∙ ap (renamed_request names) asked.is)

    line_kept : names_kept names first.journal request ≡ true
    line_kept =
        let here = few in
        ap (names_kept names first.journal) (sym asked.is) ∙ picked_kept names first.journal pick asked.written
        ∙ request_kept names first.rest.names second.rest.names first.journal (omega (arith, here)) script place asked.written says asked.asks

    line_after : (journal other : List Event) → After first.journal request journal
        → (led : LedAlike first.journal second.journal names journal other)
        → SameRest script led.after (went_on (scripted freedom script) first (Say place pick) journal).rest
        (went_on (scripted freedom script) second (Say place pick) other).rest
    line_after journal other after led =
        let (line, at, is) = option_and_then-some (λ (l : Line). request_of first.rest.names l.statement) (slice_get script place) asked.written
        asked.asks in
        same_on script names led.after place (length first.journal + 1) (length second.journal + 1) (task_no (task_count first.journal))
        (task_no (task_count second.journal)) line first.rest second.rest at for.same
        (knows_more first.journal second.journal names pick asked.written journal other few few_too
        (subst (λ (r : Request). After first.journal r journal) (sym asked.is) after) led first.rest.names line.statement is)

  -- ---- time

  module _ (request : Request) (asks : asked_in (scripted freedom script) first Pass ≡ Some request) where
    passed : Passed freedom script first.journal first.rest request
    passed = passed_parts freedom script first.journal first.rest request asks

    silent_too : all_silent script second.journal second.rest ≡ true
    silent_too =
        ap (all_silent script second.journal) left_too
        ∙ sym (silent_alike script names first.rest.names second.rest.names first.rest.left apart for.same.alike first.journal second.journal run_alike)
        ∙ passed.silent

    first_too : first_due second.journal ≡ Some passed.until
    first_too =
        first_due_alike first.journal second.journal names for.stands for.lawful (lawful_unlimited second.journal for.lawful_too) ∙ passed.first

    time_asks_too : asked_in (scripted freedom script) second Pass ≡ Some (renamed_request names request)
    time_asks_too =
        let there : Option Request = option_map Tick (first_due second.journal) in
        ap (λ b. cond (b && all_silent script second.journal second.rest) there None) passed.late
        ∙ ap (λ b. cond b there None) silent_too
        ∙ ap (option_map Tick) first_too
        ∙ ap Some (sym (tick_renamed names passed.until) ∙ ap (renamed_request names) passed.is)

    time_kept : names_kept names first.journal request ≡ true
    time_kept = ap (names_kept names first.journal) (sym passed.is) ∙ tick_kept first.journal names passed.until

    time_after : (journal other : List Event) → After first.journal request journal
        → (led : LedAlike first.journal second.journal names journal other)
        → SameRest script led.after (went_on (scripted freedom script) first Pass journal).rest (went_on (scripted freedom script) second Pass other).rest
    time_after journal other after led =
        same_passed script names led.after (length first.journal + 1) (length second.journal + 1) (task_no (task_count first.journal))
        (task_no (task_count second.journal)) passed.until first.rest second.rest for.same
        (knows_more first.journal second.journal names None (Tick passed.until) journal other few few_too
        (subst (λ (r : Request). After first.journal r journal) (sym passed.is) after) led first.rest.names (Until passed.until) refl)

  -- ---- a turn

  asks_too : (turn : Turn) (request : Request) → asked_in (scripted freedom script) first turn ≡ Some request
      → asked_in (scripted freedom script) second turn ≡ Some (renamed_request names request)
  asks_too (Say place pick) request asks = line_asks_too place pick request asks
  asks_too Pass request asks = time_asks_too request asks

  kept_names : (turn : Turn) (request : Request) → asked_in (scripted freedom script) first turn ≡ Some request
      → names_kept names first.journal request ≡ true
  kept_names (Say place pick) request asks = line_kept place pick request asks
  kept_names Pass request asks = time_kept request asks

  same_after : (turn : Turn) (request : Request) → asked_in (scripted freedom script) first turn ≡ Some request
      → (journal other : List Event) → After first.journal request journal → (led : LedAlike first.journal second.journal names journal other)
      → SameRest script led.after (went_on (scripted freedom script) first turn journal).rest (went_on (scripted freedom script) second turn other).rest
  same_after (Say place pick) request asks journal other after led = line_after place pick request asks journal other after led
  same_after Pass request asks journal other after led = time_after request asks journal other after led

-- the same is left once a turn was refused
same_refused : (script : List Line) (names : Renaming) (turn : Turn) (one other : Rest) → SameRest script names one other
    → SameRest script names (rest (left_after turn one.left) one.names) (rest (left_after turn other.left) other.names)
same_refused script names (Say place pick) one other same = same_less script names one other place same
same_refused script names Pass one other same = record { left = same.left; declared = same.declared; alike = same.alike }

-- a script of at most 4,096 lines names tasks and blocks by their names alone
pub scripts_speak : (freedom : Freedom) (script : List Line) → length script ≤ 4096 → SpeaksInNames (scripted freedom script) (SameRest script)
scripts_speak freedom script short = record {
  asks = λ first second names turn request for asks. asks_too freedom script short first second names for turn request asks;
  kept = λ first second names turn request for asks. kept_names freedom script short first second names for turn request asks;
  after = λ first second names turn request journal other for asks after copied lawful lawful_too led.
      same_after freedom script short first second names for turn request asks journal other after led;
  refused = λ names one other turn cause same. same_refused script names turn one other same;
  alone = λ first second names turn left for asks leaves. absurd (none-some left leaves);
  chained = λ names more one other third same also. same_along names more script one other third same also;
}
