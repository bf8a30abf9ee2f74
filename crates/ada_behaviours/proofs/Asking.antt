-- What objects ask for in a journal, and in one that stands in for it: the same of the tasks that stand for theirs.
use Rattle.std.proofs.Common.{◌≡◌, ℕ, Bool, true, false, not, ◌||◌, cond, Option, Some, None, List, [], ◌∷◌, map, is_some}
use Rattle.std.proofs.Common.{refl, sym, ap, ◌∙◌, subst}
use Rattle.std.specs.Option.{option_map, option_and_then, unwrap_or}
use Rattle.std.specs.List.{list_all}
use Rattle.std.proofs.lemmas.Bool.{and_parts, and_from, not-true}
use Rattle.std.proofs.lemmas.Option.{none-some, same_Some}
use Rattle.std.proofs.Math.Bool.{or-true}
use Rattle.ada_events.specs.declared.event.Event.{Event}
use Rattle.ada_events.specs.declared.request.Request.{Request}
use Rattle.ada_events.specs.declared.request.Request.TheVariants as requests
use Rattle.ada_events.specs.declared.names.TaskNo.{TaskNo}
use Rattle.ada_events.specs.declared.names.Master.{Master}
use Rattle.ada_events.specs.declared.names.Master.TheVariants.{Body, Block}
use Rattle.ada_events.specs.Tasks.{has_task}
use Rattle.ada_events.specs.Phases.{is_running, is_started, is_suspended, is_terminated, has_ended}
use Rattle.ada_events.specs.Nests.{frame}
use Rattle.ada_events.specs.Forced.{task_no}
use Rattle.ada_events.specs.Asks.{asker, named_tasks, body_task}
use Rattle.ada_laws.proofs.searching.Searching.{option_map-some}
use Rattle.ada_standing.specs.Renaming.{Renaming, renamed_master, from_both}
use Rattle.ada_standing.specs.StandsIn.{StandsIn}
use Rattle.ada_standing.specs.Asking.{nobody, asked_task, asked_master, renamed_request, names_kept, is_kept}
use Rattle.ada_laws.specs.Unlimited.{IsLawfulUnlimited}
use Rattle.ada_standing.proofs.alike.Pairs.{active_parts}
use Rattle.ada_standing.proofs.asked.Nested.{frame_alike}
use Rattle.ada_standing.proofs.asked.Answering.{answered_alike}
use Rattle.std.specs.Result.{result_ok}
use Rattle.ada_behaviours.specs.declared.want.ObjectNo.{ObjectNo}
use Rattle.ada_behaviours.specs.declared.want.Action.{Action}
use Rattle.ada_behaviours.specs.declared.want.Action.TheVariants.{Open, Create, Activate, Elaborated, Call, Wait, Delay, End, Close, Complete, Abort}
use Rattle.ada_behaviours.specs.declared.want.Question.{Question}
use Rattle.ada_behaviours.specs.declared.want.Question.TheVariants.{Nothing, Callable, Terminated, Count}
use Rattle.ada_behaviours.specs.declared.want.Want.{Want}
use Rattle.ada_behaviours.specs.declared.want.Want.TheVariants as want
use Rattle.ada_behaviours.specs.Moves.{runs, is_gone, may_be_called, Tasks, task_of, tasks_of, requested, answer_to, number, asked_for, running_of}
use Rattle.ada_behaviours.specs.Same.{renamed_object, AreRenamed}
use Rattle.ada_behaviours.proofs.Phases.{runs_alike, gone_alike, called_alike}
use Rattle.ada_behaviours.proofs.Objects.{IsSame, stands, none_stands, task_alike, tasks_alike, asked_by_name}

-- ---- names

-- a task with a name is kept
kept_named : (names : Renaming) (journal : List Event) (u v : ℕ) → names.task u ≡ Some v → is_kept names journal u ≡ true
kept_named names journal u v named = ap (λ o. not (has_task journal u) || is_some o) named ∙ or-true (not (has_task journal u))

-- and so are the tasks of objects
kept_tasks : (names : Renaming) (journal : List Event) (tasks other : Tasks) (objects : List ObjectNo) (all : List TaskNo)
    → AreRenamed names tasks other → tasks_of tasks objects ≡ Some all → list_all (λ (t : TaskNo). is_kept names journal t.0) all ≡ true
kept_tasks names journal tasks other [] all same are = ap (list_all (λ (t : TaskNo). is_kept names journal t.0)) (sym (same_Some [] all are))
kept_tasks names journal tasks other (object ∷ objects) all same are =
    by (task_of tasks object.0) (tasks_of tasks objects) (task_alike names tasks other object.0 same)
    (λ rest is. kept_tasks names journal tasks other objects rest same is) refl are
  where
    by : (o : Option ℕ) (ts : Option (List TaskNo)) → IsSame names o (task_of other object.0)
        → ((rest : List TaskNo) → tasks_of tasks objects ≡ Some rest → list_all (λ (t : TaskNo). is_kept names journal t.0) rest ≡ true)
        → tasks_of tasks objects ≡ ts → from_both (λ t us. task_no t ∷ us) o ts ≡ Some all
        → list_all (λ (t : TaskNo). is_kept names journal t.0) all ≡ true
    by (Some u) (Some rest) one others is made =
        let there = stands names u (task_of other object.0) one in
        ap (list_all (λ (t : TaskNo). is_kept names journal t.0)) (sym (same_Some (task_no u ∷ rest) all made))
        ∙ and_from _ _ (kept_named names journal u there.stand there.named) (others rest is)
    by None ts one others is made = absurd (none-some all made)
    by (Some u) None one others is made = absurd (none-some all made)

-- what stands for a master is what a request names for it
master_named : (names : Renaming) (master other : Master) → renamed_master names master ≡ Some other → asked_master names master ≡ other
unfolding renamed_master asked_master
master_named names (Body t) other is =
    let (w, named, made) = option_map-some (λ w. Body (task_no w)) (names.task t.0) other is in
    ap (λ o. Body (task_no (unwrap_or o nobody))) named ∙ made
master_named names (Block p) other is =
    let (q, placed, made) = option_map-some Block (names.position p) other is in
    ap (λ o. Block (unwrap_or o 0)) placed ∙ made

master_kept : (names : Renaming) (journal : List Event) (master other : Master) → renamed_master names master ≡ Some other
    → list_all (λ (t : TaskNo). is_kept names journal t.0) (body_task master) ≡ true
unfolding renamed_master
master_kept names journal (Body t) other is =
    let (w, named, made) = option_map-some (λ w. Body (task_no w)) (names.task t.0) other is in
    and_from _ _ (kept_named names journal t.0 w named) refl
master_kept names journal (Block p) other is = refl

-- ---- requests

-- a request of a task, and what stands for it
pub record AsksAlike (names : Renaming) (journal : List Event) (request : Request) (other : Option Request) : Type 0 where
  pub is : other ≡ Some (renamed_request names request)
  pub kept : names_kept names journal request ≡ true

asks_alike : (names : Renaming) (journal : List Event) (one request other : Request) → one ≡ request → renamed_request names one ≡ other
    → names_kept names journal one ≡ true → AsksAlike names journal request (Some other)
asks_alike names journal one request other same renames keeps = record {
  is = ap Some (sym renames ∙ ap (renamed_request names) same);
  kept = ap (names_kept names journal) (sym same) ∙ keeps;
}

module _ (old new : List Event) (names : Renaming) (standing : StandsIn old new names) (tasks other : Tasks) (same : AreRenamed names tasks other) where
  -- who runs is the task that stands for who runs
  pub running_object : (object : ℕ) → IsSame names (running_of old tasks object) (running_of new other object)
  running_object object = by (task_of tasks object) (task_alike names tasks other object same)
    where
      run : List Event → ℕ → Option ℕ
      run journal task = cond (runs journal task) (Some task) None

      named : (b : Bool) (u v : ℕ) → names.task u ≡ Some v → IsSame names (cond b (Some u) None) (cond b (Some v) None)
      named true u v is = ap (option_map Some) is
      named false u v is = refl

      by : (o : Option ℕ) → IsSame names o (task_of other object)
          → IsSame names (option_and_then (run old) o) (option_and_then (run new) (task_of other object))
      by None is = ap (λ n. Some (option_and_then (run new) n)) (sym (none_stands names (task_of other object) is))
      by (Some u) is =
          let there = stands names u (task_of other object) is in
          ap (λ b. renamed_object names (cond b (Some u) None)) (runs_alike old new names u there.stand standing there.named)
          ∙ named (runs new there.stand) u there.stand there.named
          ∙ ap (λ n. Some (option_and_then (run new) n)) (sym there.is)

  module _ (u v pick : ℕ) (named : names.task u ≡ Some v) (run : runs old u ≡ true) where
    by_name : asked_task names (task_no u) ≡ task_no v
    by_name = asked_by_name names u v named

    kept : is_kept names old u ≡ true
    kept = kept_named names old u v named

    ongoing : is_terminated old u ≡ false
    unfolding is_running
    ongoing =
        let going = (and_parts (has_task old u) (is_running old u) run).1 in
        let active = and_parts (is_started old u) (not (has_ended old u)) (and_parts _ (not (is_suspended old u)) going).0 in
        (active_parts old u (not-true (has_ended old u) active.1)).1

    framed : renamed_master names (frame old u) ≡ Some (frame new v)
    framed = frame_alike names old new u v named (standing.nests u v named ongoing).members

    -- what an action asks for
    requested_alike : (action : Action) (request : Request) → requested old tasks u pick action ≡ Some request
        → AsksAlike names old request (requested new other v pick action)
    unfolding renamed_request names_kept asker named_tasks
    requested_alike Open request is =
        asks_alike names old (requests.Open (task_no u)) request (requests.Open (task_no v)) (same_Some _ request is) (ap requests.Open by_name)
        (and_from _ _ kept refl)
    requested_alike (Create object families) request is =
        asks_alike names old (requests.Create (task_no u) (frame old u) families) request (requests.Create (task_no v) (frame new v) families)
        (same_Some _ request is)
        (ap (λ t. requests.Create t (asked_master names (frame old u)) families) by_name
        ∙ ap (λ m. requests.Create (task_no v) m families) (master_named names (frame old u) (frame new v) framed))
        (and_from _ _ kept (master_kept names old (frame old u) (frame new v) framed))
    requested_alike (Activate objects) request is =
        let (all, are, made) = option_map-some (requests.Activate (task_no u)) (tasks_of tasks objects) request is in
        subst (λ o. AsksAlike names old request (option_map (requests.Activate (task_no v)) o))
        (sym (tasks_alike names tasks other objects all same are))
        (asks_alike names old (requests.Activate (task_no u) all) request (requests.Activate (task_no v) (map (asked_task names) all)) made
        (ap (λ t. requests.Activate t (map (asked_task names) all)) by_name)
        (and_from _ _ kept (kept_tasks names old tasks other objects all same are)))
    requested_alike (Elaborated ok) request is =
        asks_alike names old (requests.Elaborated (task_no u) ok) request (requests.Elaborated (task_no v) ok) (same_Some _ request is)
        (ap (λ t. requests.Elaborated t ok) by_name) (and_from _ _ kept refl)
    requested_alike (Call callee entry patience) request is =
        let (c, at, made) = option_map-some (λ c. requests.Call (task_no u) (task_no c) entry patience) (task_of tasks callee.0) request is in
        let there = stands names c (task_of other callee.0)
        (sym (ap (renamed_object names) at) ∙ task_alike names tasks other callee.0 same) in
        subst (λ o. AsksAlike names old request (option_map (λ d. requests.Call (task_no v) (task_no d) entry patience) o)) (sym there.is)
        (asks_alike names old (requests.Call (task_no u) (task_no c) entry patience) request
        (requests.Call (task_no v) (task_no there.stand) entry patience) made
        (ap (λ t. requests.Call t (asked_task names (task_no c)) entry patience) by_name
        ∙ ap (λ t. requests.Call (task_no v) t entry patience) (asked_by_name names c there.stand there.named))
        (and_from _ _ kept (and_from _ _ (kept_named names old c there.stand there.named) refl)))
    requested_alike (Wait choices tail) request is =
        asks_alike names old (requests.Wait (task_no u) choices tail pick) request (requests.Wait (task_no v) choices tail pick) (same_Some _ request is)
        (ap (λ t. requests.Wait t choices tail pick) by_name) (and_from _ _ kept refl)
    requested_alike (Delay duration) request is =
        asks_alike names old (requests.Delay (task_no u) duration) request (requests.Delay (task_no v) duration) (same_Some _ request is)
        (ap (λ t. requests.Delay t duration) by_name) (and_from _ _ kept refl)
    requested_alike (End raised) request is =
        asks_alike names old (requests.End (task_no u) raised) request (requests.End (task_no v) raised) (same_Some _ request is)
        (ap (λ t. requests.End t raised) by_name) (and_from _ _ kept refl)
    requested_alike Close request is =
        asks_alike names old (requests.Close (task_no u)) request (requests.Close (task_no v)) (same_Some _ request is) (ap requests.Close by_name)
        (and_from _ _ kept refl)
    requested_alike Complete request is =
        asks_alike names old (requests.Complete (task_no u)) request (requests.Complete (task_no v)) (same_Some _ request is)
        (ap requests.Complete by_name) (and_from _ _ kept refl)
    requested_alike (Abort objects) request is =
        let (all, are, made) = option_map-some (requests.Abort (task_no u)) (tasks_of tasks objects) request is in
        subst (λ o. AsksAlike names old request (option_map (requests.Abort (task_no v)) o))
        (sym (tasks_alike names tasks other objects all same are))
        (asks_alike names old (requests.Abort (task_no u) all) request (requests.Abort (task_no v) (map (asked_task names) all)) made
        (ap (λ t. requests.Abort t (map (asked_task names) all)) by_name)
        (and_from _ _ kept (kept_tasks names old tasks other objects all same are)))

    -- and what one wants asks for
    pub asked_alike : (wanted : Want) (request : Request) → asked_for old tasks pick u wanted ≡ Some request
        → AsksAlike names old request (asked_for new other pick v wanted)
    asked_alike (want.Act action) request is = requested_alike action request is
    asked_alike (want.Ask question) request is = absurd (none-some request is)
    asked_alike want.Nothing request is = absurd (none-some request is)

  -- ---- questions

  module _ (lawful : IsLawfulUnlimited old) (lawful_too : IsLawfulUnlimited new) (u v : ℕ) (named : names.task u ≡ Some v) where
    of_object : (test : List Event → ℕ → Bool) (agree : (t w : ℕ) → names.task t ≡ Some w → test old t ≡ test new w) (object : ℕ)
        → option_map (λ o. number (test old o)) (task_of tasks object) ≡ option_map (λ o. number (test new o)) (task_of other object)
    of_object test agree object = by (task_of tasks object) (task_alike names tasks other object same)
      where
        by : (o : Option ℕ) → IsSame names o (task_of other object)
            → option_map (λ t. number (test old t)) o ≡ option_map (λ t. number (test new t)) (task_of other object)
        by None is = sym (ap (option_map (λ t. number (test new t))) (none_stands names (task_of other object) is))
        by (Some t) is =
            let there = stands names t (task_of other object) is in
            ap (λ b. Some (number b)) (agree t there.stand there.named) ∙ sym (ap (option_map (λ w. number (test new w))) there.is)

    pub answer_alike : (question : Question) → answer_to old tasks u question ≡ answer_to new other v question
    answer_alike Nothing = refl
    answer_alike (Callable object) = of_object may_be_called (λ t w is. called_alike old new names t w standing is) object.0
    answer_alike (Terminated object) = of_object is_gone (λ t w is. gone_alike old new names t w standing is) object.0
    answer_alike (Count entry) = ap result_ok (sym (((answered_alike old new names standing lawful lawful_too).tasks u v named).own_count entry))
