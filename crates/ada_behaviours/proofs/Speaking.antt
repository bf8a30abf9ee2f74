-- Whatever the tasks of a behaviour do, it names them by their names alone.
use Rattle.std.proofs.Common.{◌≡◌, ℕ, ◌+◌, ◌<◌, Bool, true, false, not, ◌&&◌, cond, Option, Some, None, List, is_some}
use Rattle.std.proofs.Common.{refl, sym, ap, ◌∙◌, subst, arith}
use Rattle.std.specs.Option.{option_map, option_and_then}
use Rattle.std.specs.List.{range_with_len}
use Rattle.std.proofs.lemmas.Option.{none-some, same_Some}
use Rattle.ada_events.specs.declared.event.Event.{Event}
use Rattle.ada_events.specs.declared.request.Request.{Request}
use Rattle.ada_events.specs.declared.request.Request.TheVariants as requests
use Rattle.ada_events.specs.declared.refusal.Refusal.{Refusal}
use Rattle.ada_events.specs.Tasks.{task_count}
use Rattle.ada_events.specs.Nests.{frame}
use Rattle.ada_events.specs.Forced.{task_no}
use Rattle.ada_events.specs.Lawful.{After}
use Rattle.ada_laws.specs.Unlimited.{IsLawfulUnlimited}
use Rattle.ada_laws.proofs.asking.Limitless.{lawful_unlimited}
use Rattle.ada_laws.proofs.searching.Searching.{option_and_then-some, option_map-some}
use Rattle.ada_standing.specs.Renaming.{Renaming, chained}
use Rattle.ada_standing.specs.StandsIn.{StandsIn}
use Rattle.ada_standing.specs.Asking.{renamed_request, names_kept}
use Rattle.ada_standing.specs.Leading.{LedAlike}
use Rattle.ada_waiting.specs.Standstill.{first_due}
use Rattle.ada_lasting.proofs.waits.Dues.{first_due_alike}
use Rattle.ada_schedules.specs.Schedules.{State as StateOf}
use Rattle.ada_schedules.specs.Closed.{asked_in, went_on, left_alone, StandsFor, GoesAlone}
use Rattle.ada_schedules.proofs.Adding.{one_made}
use Rattle.ada_schedules.proofs.Stuck.{tick_kept, tick_renamed}
use Rattle.ada_behaviours.specs.declared.want.ObjectNo.{ObjectNo}
use Rattle.ada_behaviours.specs.declared.want.Action.TheVariants.{Create}
use Rattle.ada_behaviours.specs.declared.want.Want.{Want}
use Rattle.ada_behaviours.specs.declared.want.Want.TheVariants as want
use Rattle.ada_behaviours.specs.declared.want.Move.{Move}
use Rattle.ada_behaviours.specs.declared.want.Move.TheVariants.{Go, Pass}
use Rattle.ada_behaviours.specs.Behaviours.{Behaviour}
use Rattle.ada_behaviours.specs.Moves.{runs, Rest, Tasks, task_of, running_of, asked_for, answer_to, made_in, is_idle, is_busy, all_idle}
use Rattle.ada_behaviours.specs.Moves.{with_made, told_all, left_with, settled_in, left_answered, behaving}
use Rattle.ada_behaviours.specs.Same.{renamed_object, AreRenamed, SameRest}
use Rattle.ada_behaviours.specs.Laws.{BehavioursSpeakInNames}
use Rattle.ada_behaviours.proofs.Lists.{any_alike}
use Rattle.ada_behaviours.proofs.Objects.{IsSame, Stands, stands, none_stands, named_alike, kept_alike, made_alike, chained_alike}
use Rattle.ada_behaviours.proofs.Told.{all_alike}
use Rattle.ada_behaviours.proofs.Asking.{AsksAlike, running_object, asked_alike, answer_alike}

-- ---- parts of what is asked for

-- an object whose task runs
pub record Runs (journal : List Event) (tasks : Tasks) (object task : ℕ) : Type 0 where
  pub is : running_of journal tasks object ≡ Some task
  pub run : runs journal task ≡ true

pub running_parts : (journal : List Event) (tasks : Tasks) (object task : ℕ) → running_of journal tasks object ≡ Some task
    → Runs journal tasks object task
running_parts journal tasks object task is =
    let (found, at, kept) = option_and_then-some (λ t. cond (runs journal t) (Some t) None) (task_of tasks object) task is in
    record { is = is; run = by (runs journal found) found refl kept }
  where
    by : (b : Bool) (found : ℕ) → runs journal found ≡ b → cond b (Some found) None ≡ Some task → runs journal task ≡ true
    by true found here kept = ap (runs journal) (sym (same_Some found task kept)) ∙ here
    by false found here kept = absurd (none-some task kept)

-- ---- the same is left

left_alike : {State : Type 0} (behaviour : Behaviour State) (names : Renaming) (tasks other : Tasks) (one also : State) → one ≡ also
    → AreRenamed names tasks other → SameRest names (left_with behaviour tasks one) (left_with behaviour other also)
left_alike {State} behaviour names tasks other one also same renamed =
    subst (λ (s : State). SameRest names (left_with behaviour tasks one) (left_with behaviour other s)) same
    (record { state = refl; tasks = named_alike behaviour names one 0 tasks other renamed })

settled_alike : {State : Type 0} (behaviour : Behaviour State) (old new : List Event) (names : Renaming) (tasks other : Tasks) (one also : State)
    → StandsIn old new names → IsLawfulUnlimited old → IsLawfulUnlimited new → AreRenamed names tasks other → one ≡ also
    → SameRest names (settled_in behaviour old tasks one) (settled_in behaviour new other also)
settled_alike behaviour old new names tasks other one also standing lawful lawful_too renamed same =
    left_alike behaviour names tasks other (told_all behaviour old tasks one) (told_all behaviour new other also)
    (all_alike old new names standing lawful lawful_too tasks other renamed behaviour one
    ∙ ap (told_all behaviour new other) same)
    renamed

-- ---- a task that was made

-- what asks to make the task of an object made one
makes_one : (old : List Event) (tasks : Tasks) (task pick made : ℕ) (wanted : Want) (request : Request) (new : List Event)
    → asked_for old tasks pick task wanted ≡ Some request → made_in wanted ≡ Some made → After old request new → task_count old < task_count new
makes_one old tasks task pick made (want.Act (Create object families)) request new asks makes after =
    one_made old (task_no task) (frame old task) families new
    (subst (λ (r : Request). After old r new) (sym (same_Some (requests.Create (task_no task) (frame old task) families) request asks)) after)
makes_one old tasks task pick made (want.Act action) request new asks makes after = absurd (none-some made makes)
makes_one old tasks task pick made wanted request new asks makes after = absurd (none-some made makes)

module _ {State : Type 0} (behaviour : Behaviour State) (first second : StateOf (Rest State)) (names : Renaming)
    (for : StandsFor (behaving behaviour) SameRest first second names) where
  lawful_new : IsLawfulUnlimited second.journal
  lawful_new = lawful_unlimited second.journal for.lawful_too

  abbrev wants : ℕ → ℕ → Want
  wants object pick = behaviour.wants first.rest.state object pick

  abbrev wants_too : ℕ → ℕ → Want
  wants_too object pick = behaviour.wants second.rest.state object pick

  wants_alike : (object pick : ℕ) → wants object pick ≡ wants_too object pick
  wants_alike object pick = ap (λ s. behaviour.wants s object pick) for.same.state

  run_alike : (object : ℕ) → IsSame names (running_of first.journal first.rest.tasks object) (running_of second.journal second.rest.tasks object)
  run_alike object =
      running_object first.journal second.journal names for.stands first.rest.tasks second.rest.tasks for.same.tasks object

  -- ---- an object

  module _ (object : ObjectNo) (pick : ℕ) (request : Request) (asks : asked_in (behaving behaviour) first (Go object pick) ≡ Some request) where
    -- who asks, and who stands for that
    pub record Asker : Type 0 where
      pub task : ℕ
      pub stand : Stands names task (running_of second.journal second.rest.tasks object.0)
      pub run : runs first.journal task ≡ true
      pub wanted : asked_for first.journal first.rest.tasks pick task (wants object.0 pick) ≡ Some request

    asker : Asker
    asker =
        let (task, is, asked) = option_and_then-some (λ task. asked_for first.journal first.rest.tasks pick task (wants object.0 pick))
        (running_of first.journal first.rest.tasks object.0) request asks in
        record {
          task = task;
          stand = stands names task (running_of second.journal second.rest.tasks object.0)
              (sym (ap (renamed_object names) is) ∙ run_alike object.0);
          run = (running_parts first.journal first.rest.tasks object.0 task is).run;
          wanted = asked;
        }

    alike : AsksAlike names first.journal request
        (asked_for second.journal second.rest.tasks pick asker.stand.stand (wants object.0 pick))
    alike =
        asked_alike first.journal second.journal names for.stands first.rest.tasks second.rest.tasks for.same.tasks asker.task asker.stand.stand pick
        asker.stand.named asker.run (wants object.0 pick) request asker.wanted

    go_asks : asked_in (behaving behaviour) second (Go object pick) ≡ Some (renamed_request names request)
    go_asks =
        ap (option_and_then (λ task. asked_for second.journal second.rest.tasks pick task (wants_too object.0 pick))) asker.stand.is
        ∙ ap (asked_for second.journal second.rest.tasks pick asker.stand.stand) (sym (wants_alike object.0 pick))
        ∙ alike.is

    go_after : (journal also : List Event) → After first.journal request journal → IsLawfulUnlimited journal → IsLawfulUnlimited also
        → (led : LedAlike first.journal second.journal names journal also)
        → SameRest led.after (went_on (behaving behaviour) first (Go object pick) journal).rest
        (went_on (behaving behaviour) second (Go object pick) also).rest
    go_after journal also after lawful lawful_too led =
        let wanted = wants object.0 pick in
        settled_alike behaviour journal also led.after (with_made (made_in wanted) (task_count first.journal) 0 first.rest.tasks)
        (with_made (made_in (wants_too object.0 pick)) (task_count second.journal) 0 second.rest.tasks)
        (behaviour.accepted first.rest.state object.0 pick) (behaviour.accepted second.rest.state object.0 pick) led.stands lawful lawful_too
        (subst (λ w. AreRenamed led.after (with_made (made_in wanted) (task_count first.journal) 0 first.rest.tasks)
        (with_made (made_in w) (task_count second.journal) 0 second.rest.tasks)) (wants_alike object.0 pick)
        (made_alike led.after (made_in wanted) (task_count first.journal) (task_count second.journal) 0 first.rest.tasks second.rest.tasks
        (λ made is. made_stands made is) (kept_alike names led.after first.rest.tasks second.rest.tasks led.kept for.same.tasks)))
        (ap (λ s. behaviour.accepted s object.0 pick) for.same.state)
      where
        made_stands : (made : ℕ) → made_in (wants object.0 pick) ≡ Some made → led.after.task (task_count first.journal) ≡ Some (task_count second.journal)
        made_stands made is =
            let grew = makes_one first.journal first.rest.tasks asker.task pick made (wants object.0 pick) request journal asker.wanted is after in
            let here : task_count first.journal ≡ 0 + task_count first.journal = omega arith in
            let there : 0 + task_count second.journal ≡ task_count second.journal = omega arith in
            ap led.after.task here ∙ led.tasks 0 (omega (arith, grew)) ∙ ap Some there

  -- ---- time

  busy_alike : (object : ℕ) → is_busy behaviour first.journal first.rest object ≡ is_busy behaviour second.journal second.rest object
  busy_alike object =
      ap (λ b. b && not (is_idle (behaviour.wants first.rest.state object 0)))
      (by (running_of first.journal first.rest.tasks object) (running_of second.journal second.rest.tasks object) (run_alike object))
      ∙ ap (λ w. is_some (running_of second.journal second.rest.tasks object) && not (is_idle w)) (wants_alike object 0)
    where
      by : (o n : Option ℕ) → IsSame names o n → is_some o ≡ is_some n
      by None n is = ap is_some (sym (none_stands names n is))
      by (Some u) n is = ap is_some (sym (stands names u n is).is)

  idle_alike : all_idle behaviour first.journal first.rest ≡ all_idle behaviour second.journal second.rest
  idle_alike =
      ap not (any_alike (is_busy behaviour first.journal first.rest) (is_busy behaviour second.journal second.rest) busy_alike
      (range_with_len 0 behaviour.objects))

  module _ (request : Request) (asks : asked_in (behaving behaviour) first Pass ≡ Some request) where
    -- nobody wants anything, and time passes to a moment
    pub record Passes : Type 0 where
      pub idle : all_idle behaviour first.journal first.rest ≡ true
      pub ticks : option_map requests.Tick (first_due first.journal) ≡ Some request

    passes : Passes
    passes = by (all_idle behaviour first.journal first.rest) refl asks
      where
        by : (b : Bool) → all_idle behaviour first.journal first.rest ≡ b
            → cond b (option_map requests.Tick (first_due first.journal)) None ≡ Some request → Passes
        by true idle ticks = record { idle = idle; ticks = ticks }
        by false idle ticks = absurd (none-some request ticks)

    due_alike : first_due second.journal ≡ first_due first.journal
    due_alike = first_due_alike first.journal second.journal names for.stands for.lawful lawful_new

    time_asks : asked_in (behaving behaviour) second Pass ≡ Some (renamed_request names request)
    time_asks =
        let (now, due, is) = option_map-some requests.Tick (first_due first.journal) request passes.ticks in
        ap (λ b. cond b (option_map requests.Tick (first_due second.journal)) None) (sym idle_alike ∙ passes.idle)
        ∙ ap (option_map requests.Tick) due_alike
        ∙ passes.ticks
        ∙ ap Some (sym is ∙ sym (tick_renamed names now) ∙ ap (renamed_request names) is)

    time_kept : names_kept names first.journal request ≡ true
    time_kept =
        let (now, due, is) = option_map-some requests.Tick (first_due first.journal) request passes.ticks in
        ap (names_kept names first.journal) (sym is) ∙ tick_kept first.journal names now

    time_after : (journal also : List Event) → IsLawfulUnlimited journal → IsLawfulUnlimited also
        → (led : LedAlike first.journal second.journal names journal also)
        → SameRest led.after (went_on (behaving behaviour) first Pass journal).rest (went_on (behaving behaviour) second Pass also).rest
    time_after journal also lawful lawful_too led =
        settled_alike behaviour journal also led.after first.rest.tasks second.rest.tasks first.rest.state second.rest.state led.stands lawful lawful_too
        (kept_alike names led.after first.rest.tasks second.rest.tasks led.kept for.same.tasks) for.same.state

  -- ---- an object that goes on alone

  module _ (object : ObjectNo) (pick : ℕ) (left : Rest State) (leaves : left_alone (behaving behaviour) first (Go object pick) ≡ Some left) where
    alone_too : GoesAlone (behaving behaviour) SameRest names left second (Go object pick)
    alone_too =
        let (task, is, answered) = option_and_then-some
        (λ task. left_answered behaviour first.journal first.rest object.0 task (wants object.0 pick))
        (running_of first.journal first.rest.tasks object.0) left leaves in
        let stand = stands names task (running_of second.journal second.rest.tasks object.0)
        (sym (ap (renamed_object names) is) ∙ run_alike object.0) in
        by task stand (wants object.0 pick) refl answered
      where
        by : (task : ℕ) (stand : Stands names task (running_of second.journal second.rest.tasks object.0)) (wanted : Want) → wants object.0 pick ≡ wanted
            → left_answered behaviour first.journal first.rest object.0 task wanted ≡ Some left
            → GoesAlone (behaving behaviour) SameRest names left second (Go object pick)
        by task stand (want.Ask question) is answered =
            let (answer, told, made) = option_map-some
            (λ answer. left_with behaviour first.rest.tasks (behaviour.answered first.rest.state object.0 answer))
            (answer_to first.journal first.rest.tasks task question) left answered in
            let there : Option ℕ = running_of second.journal second.rest.tasks object.0 in
            let wants_it : wants_too object.0 pick ≡ want.Ask question = sym (wants_alike object.0 pick) ∙ is in
            let told_too : answer_to second.journal second.rest.tasks stand.stand question ≡ Some answer
            = sym (answer_alike first.journal second.journal names for.stands first.rest.tasks second.rest.tasks for.same.tasks
            for.lawful lawful_new task stand.stand stand.named question) ∙ told in
            record {
              left = left_with behaviour second.rest.tasks (behaviour.answered second.rest.state object.0 answer);
              asks =
                  ap (option_and_then (λ t. asked_for second.journal second.rest.tasks pick t (wants_too object.0 pick))) stand.is
                  ∙ ap (asked_for second.journal second.rest.tasks pick stand.stand) wants_it;
              leaves =
                  ap (option_and_then (λ t. left_answered behaviour second.journal second.rest object.0 t (wants_too object.0 pick))) stand.is
                  ∙ ap (left_answered behaviour second.journal second.rest object.0 stand.stand) wants_it
                  ∙ ap (option_map (λ a. left_with behaviour second.rest.tasks (behaviour.answered second.rest.state object.0 a))) told_too;
              same =
                  subst (λ r. SameRest names r (left_with behaviour second.rest.tasks (behaviour.answered second.rest.state object.0 answer)))
                  made
                  (left_alike behaviour names first.rest.tasks second.rest.tasks (behaviour.answered first.rest.state object.0 answer)
                  (behaviour.answered second.rest.state object.0 answer) (ap (λ s. behaviour.answered s object.0 answer) for.same.state) for.same.tasks);
            }
        by task stand (want.Act action) is answered = absurd (none-some left answered)
        by task stand want.Nothing is answered = absurd (none-some left answered)

  -- ---- a move

  asks_too : (move : Move) (request : Request) → asked_in (behaving behaviour) first move ≡ Some request
      → asked_in (behaving behaviour) second move ≡ Some (renamed_request names request)
  asks_too (Go object pick) request asks = go_asks object pick request asks
  asks_too Pass request asks = time_asks request asks

  kept_names : (move : Move) (request : Request) → asked_in (behaving behaviour) first move ≡ Some request
      → names_kept names first.journal request ≡ true
  kept_names (Go object pick) request asks = (alike object pick request asks).kept
  kept_names Pass request asks = time_kept request asks

  same_after : (move : Move) (request : Request) → asked_in (behaving behaviour) first move ≡ Some request → (journal also : List Event)
      → After first.journal request journal → IsLawfulUnlimited journal → IsLawfulUnlimited also
      → (led : LedAlike first.journal second.journal names journal also)
      → SameRest led.after (went_on (behaving behaviour) first move journal).rest (went_on (behaving behaviour) second move also).rest
  same_after (Go object pick) request asks journal also after lawful lawful_too led =
      go_after object pick request asks journal also after lawful lawful_too led
  same_after Pass request asks journal also after lawful lawful_too led = time_after request asks journal also lawful lawful_too led

  goes_alone : (move : Move) (left : Rest State) → left_alone (behaving behaviour) first move ≡ Some left
      → GoesAlone (behaving behaviour) SameRest names left second move
  goes_alone (Go object pick) left leaves = alone_too object pick left leaves
  goes_alone Pass left leaves = absurd (none-some left leaves)

-- the same is left once a move was refused
same_refused : {State : Type 0} (behaviour : Behaviour State) (names : Renaming) (rest other : Rest State) (move : Move) (cause : Refusal)
    → SameRest names rest other
    → SameRest names ((behaving behaviour).refused rest move cause) ((behaving behaviour).refused other move cause)
same_refused behaviour names rest other (Go object pick) cause same =
    left_alike behaviour names rest.tasks other.tasks (behaviour.refused rest.state object.0 pick cause)
    (behaviour.refused other.state object.0 pick cause) (ap (λ s. behaviour.refused s object.0 pick cause) same.state) same.tasks
same_refused behaviour names rest other Pass cause same = same

same_chained : {State : Type 0} (names more : Renaming) (first second third : Rest State) → SameRest names first second
    → SameRest more second third → SameRest (chained names more) first third
same_chained names more first second third same also = record {
  state = same.state ∙ also.state;
  tasks = chained_alike names more first.tasks second.tasks third.tasks same.tasks also.tasks;
}

pub behaviours_speak_in_names : {State : Type 0} → BehavioursSpeakInNames State
behaviours_speak_in_names behaviour = record {
  asks = λ first second names move request for asks. asks_too behaviour first second names for move request asks;
  kept = λ first second names move request for asks. kept_names behaviour first second names for move request asks;
  after = λ first second names move request journal also for asks after copied lawful lawful_too led.
      same_after behaviour first second names for move request asks journal also after lawful lawful_too led;
  refused = λ names rest other move cause same. same_refused behaviour names rest other move cause same;
  alone = λ first second names move left for asks leaves. goes_alone behaviour first second names for move left leaves;
  chained = λ names more first second third same also. same_chained names more first second third same also;
}
