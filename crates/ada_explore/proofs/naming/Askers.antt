-- Who asks at a line, and whom it names: each of them has a name, or doesn't exist.
use Rattle.std.proofs.Common.{◌≡◌, ℕ, ◌≤◌, true, not, ◌&&◌, eqb, Option, Some, None, List, [], ◌∷◌, map, slice_get, is_some, refl, sym, ap, ◌∙◌, inl, inr}
use Rattle.std.specs.Option.{option_map_or, option_and_then}
use Rattle.std.specs.List.{list_all}
use Rattle.std.proofs.lemmas.Bool.{and_from, or_left, or_right, le-ltb, false≢true}
use Rattle.ada_events.specs.declared.event.Event.{Event}
use Rattle.ada_events.specs.declared.request.Request.{Request}
use Rattle.ada_events.specs.declared.names.TaskNo.{TaskNo}
use Rattle.ada_events.specs.declared.names.Master.{Master}
use Rattle.ada_events.specs.declared.names.Master.TheVariants.{Body, Block}
use Rattle.ada_events.specs.Tasks.{has_task, task_count}
use Rattle.ada_events.specs.Asks.{asker, named_tasks, body_task}
use Rattle.ada_standing.specs.Renaming.{Renaming}
use Rattle.ada_standing.specs.Asking.{is_kept, names_kept}
use Rattle.ada_statements.specs.declared.statement.Statement.{Statement}
use Rattle.ada_statements.specs.declared.statement.Statement.TheVariants.{Tick, Open, Create, Activate, Up, Fail, Call, CallWithin, Try, Accept, Select, End}
use Rattle.ada_statements.specs.declared.statement.Statement.TheVariants.{Raise, Close, Delay, Complete, Abort, ShowCallable, ShowTerminated, ShowCount}
use Rattle.ada_statements.specs.Scope.{Scope}
use Rattle.ada_statements.specs.Binding.{task_of, master_of, request_of}
use Rattle.ada_script.specs.declared.script.Line.{Line}
use Rattle.ada_explore.specs.Scripts.{request_at, asker_at, is_same}
use Rattle.ada_explore.specs.Sameness.{stands_for, same_task, same_master, says_alike_at}
use Rattle.ada_explore.proofs.naming.Passing.{first_passes, others_pass}
use Rattle.ada_explore.proofs.naming.Numbers.{stands_parts, stand_apart}
use Rattle.ada_explore.proofs.naming.Requests.{task_alike, master_alike, NamesAlike, names_alike, line_says}

-- nobody asks in both, or the one who asks in the second stands for the one who asks in the first
abbrev pub AskAlike : Renaming → Option ℕ → Option ℕ → Type 0
AskAlike names None None = Unit {0}
AskAlike names (Some u) (Some v) = stands_for names.task 65535 u v ≡ true
AskAlike names _ _ = ⊥

-- names that aren't the same stand for different tasks
abbrev pub AreApart : Renaming → Type 0
AreApart names = (s t u v : ℕ) → names.task s ≡ Some u → names.task t ≡ Some v → eqb s t ≡ eqb u v

pub some_alike : (names : Renaming) (o n : Option ℕ) → AskAlike names o n → is_some n ≡ is_some o
some_alike names None None alike = refl
some_alike names (Some u) (Some v) alike = refl
some_alike names None (Some v) alike = absurd alike
some_alike names (Some u) None alike = absurd alike

-- two who ask are one alike
pub same_alike : (names : Renaming) (o n p q : Option ℕ) → AreApart names → AskAlike names o n → AskAlike names p q → is_same o p ≡ is_same n q
same_alike names None None None None apart first second = refl
same_alike names None None (Some t) (Some v) apart first second = refl
same_alike names (Some s) (Some u) None None apart first second = refl
same_alike names (Some s) (Some u) (Some t) (Some v) apart first second =
    stand_apart names.task 65535 s t u v (apart s t u v) first second
same_alike names None (Some u) p q apart first second = absurd first
same_alike names (Some s) None p q apart first second = absurd first
same_alike names None None None (Some v) apart first second = absurd second
same_alike names None None (Some t) None apart first second = absurd second
same_alike names (Some s) (Some u) None (Some v) apart first second = absurd second
same_alike names (Some s) (Some u) (Some t) None apart first second = absurd second

module _ (names : Renaming) (old new : Scope) where
  by_alike : (name : List ℕ) (rest : List (List ℕ)) → list_all (task_alike names old new) (name ∷ rest) ≡ true
      → stands_for names.task 65535 (task_of old name).0 (task_of new name).0 ≡ true
  by_alike name rest all = first_passes (task_alike names old new) name rest all

  asker_alike : (statement : Statement) → NamesAlike names old new statement
      → AskAlike names (option_and_then asker (request_of old statement)) (option_and_then asker (request_of new statement))
  unfolding asker
  asker_alike (Tick now) alike = tt
  asker_alike (Open by block) alike = by_alike by [] alike.tasks
  asker_alike (Create by task under families) alike = by_alike by [] alike.tasks
  asker_alike (Activate by tasks) alike = by_alike by tasks alike.tasks
  asker_alike (Up by) alike = by_alike by [] alike.tasks
  asker_alike (Fail by) alike = by_alike by [] alike.tasks
  asker_alike (Call by callee entry) alike = by_alike by (callee ∷ []) alike.tasks
  asker_alike (CallWithin by callee entry duration) alike = by_alike by (callee ∷ []) alike.tasks
  asker_alike (Try by callee entry) alike = by_alike by (callee ∷ []) alike.tasks
  asker_alike (Accept by entry) alike = by_alike by [] alike.tasks
  asker_alike (Select by pick choices tail) alike = by_alike by [] alike.tasks
  asker_alike (End by) alike = by_alike by [] alike.tasks
  asker_alike (Raise by) alike = by_alike by [] alike.tasks
  asker_alike (Close by) alike = by_alike by [] alike.tasks
  asker_alike (Delay by duration) alike = by_alike by [] alike.tasks
  asker_alike (Complete by) alike = by_alike by [] alike.tasks
  asker_alike (Abort by tasks) alike = by_alike by tasks alike.tasks
  asker_alike (ShowCallable by task) alike = tt
  asker_alike (ShowTerminated by task) alike = tt
  asker_alike (ShowCount by entry) alike = tt

  line_asks : (line : Option Line) → line_says names old new line ≡ true
      → AskAlike names (option_and_then asker (option_and_then (λ (l : Line). request_of old l.statement) line))
      (option_and_then asker (option_and_then (λ (l : Line). request_of new l.statement) line))
  line_asks None says = tt
  line_asks (Some line) says = asker_alike line.statement (names_alike names old new line.statement says)

  pub asker_at_alike : (script : List Line) (place : ℕ) → says_alike_at script names old new place ≡ true
      → AskAlike names (asker_at script old place) (asker_at script new place)
  asker_at_alike script place says = line_asks (slice_get script place) says

  -- ---- names that are kept

  module _ (journal : List Event) (few : task_count journal ≤ 65535) where
    kept_task : (t u : TaskNo) → same_task names t u ≡ true → is_kept names journal t.0 ≡ true
    kept_task t u same =
        elim (stands_parts names.task 65535 t.0 u.0 same) [
          | inl is ↦
              or_left (not (has_task journal t.0)) (is_some (names.task t.0))
              (ap not (ap (has_task journal) is.same ∙ le-ltb 65535 (task_count journal) few))
          | inr is ↦ or_right (not (has_task journal t.0)) (is_some (names.task t.0)) (ap is_some is.named)
        ]

    kept_master : (m n : Master) → same_master names m n ≡ true → list_all (λ (t : TaskNo). is_kept names journal t.0) (body_task m) ≡ true
    kept_master (Body t) (Body u) same = and_from (is_kept names journal t.0) true (kept_task t u same) refl
    kept_master (Body t) (Block q) same = absurd (false≢true same)
    kept_master (Block p) n same = refl

    kept_name : (name : List ℕ) (rest : List (List ℕ)) → list_all (task_alike names old new) (name ∷ rest) ≡ true
        → is_kept names journal (task_of old name).0 ≡ true
    kept_name name rest all = kept_task (task_of old name) (task_of new name) (by_alike name rest all)

    kept_names : (tasks : List (List ℕ)) → list_all (task_alike names old new) tasks ≡ true
        → list_all (λ (t : TaskNo). is_kept names journal t.0) (map (task_of old) tasks) ≡ true
    kept_names [] all = refl
    kept_names (name ∷ rest) all =
        and_from (is_kept names journal (task_of old name).0) (list_all (λ (t : TaskNo). is_kept names journal t.0) (map (task_of old) rest))
        (kept_name name rest all) (kept_names rest (others_pass (task_alike names old new) name rest all))

    -- the one who asks, and those whom it names
    kept_with : (name : List ℕ) (others : List TaskNo) (rest : List (List ℕ)) → list_all (task_alike names old new) (name ∷ rest) ≡ true
        → list_all (λ (t : TaskNo). is_kept names journal t.0) others ≡ true
        → (option_map_or (is_kept names journal) (Some (task_of old name).0) true
        && list_all (λ (t : TaskNo). is_kept names journal t.0) others) ≡ true
    kept_with name others rest all kept =
        and_from (is_kept names journal (task_of old name).0) (list_all (λ (t : TaskNo). is_kept names journal t.0) others)
        (kept_name name rest all) kept

    kept_alone : (name : List ℕ) → list_all (task_alike names old new) (name ∷ []) ≡ true
        → (option_map_or (is_kept names journal) (Some (task_of old name).0) true
        && list_all (λ (t : TaskNo). is_kept names journal t.0) []) ≡ true
    kept_alone name all = kept_with name [] [] all refl

    kept_list : (name : List ℕ) (rest : List (List ℕ)) → list_all (task_alike names old new) (name ∷ rest) ≡ true
        → (option_map_or (is_kept names journal) (Some (task_of old name).0) true
        && list_all (λ (t : TaskNo). is_kept names journal t.0) (map (task_of old) rest)) ≡ true
    kept_list name rest all =
        kept_with name (map (task_of old) rest) rest all (kept_names rest (others_pass (task_alike names old new) name rest all))

    statement_kept : (statement : Statement) → NamesAlike names old new statement
        → option_map_or (names_kept names journal) (request_of old statement) true ≡ true
    unfolding names_kept asker named_tasks
    statement_kept (Tick now) alike = refl
    statement_kept (Open by block) alike = kept_alone by alike.tasks
    statement_kept (Create by task under families) alike =
        kept_with by (body_task (master_of old under)) [] alike.tasks
        (kept_master (master_of old under) (master_of new under) (first_passes (master_alike names old new) under [] alike.masters))
    statement_kept (Activate by tasks) alike = kept_list by tasks alike.tasks
    statement_kept (Up by) alike = kept_alone by alike.tasks
    statement_kept (Fail by) alike = kept_alone by alike.tasks
    statement_kept (Call by callee entry) alike = kept_list by (callee ∷ []) alike.tasks
    statement_kept (CallWithin by callee entry duration) alike = kept_list by (callee ∷ []) alike.tasks
    statement_kept (Try by callee entry) alike = kept_list by (callee ∷ []) alike.tasks
    statement_kept (Accept by entry) alike = kept_alone by alike.tasks
    statement_kept (Select by pick choices tail) alike = kept_alone by alike.tasks
    statement_kept (End by) alike = kept_alone by alike.tasks
    statement_kept (Raise by) alike = kept_alone by alike.tasks
    statement_kept (Close by) alike = kept_alone by alike.tasks
    statement_kept (Delay by duration) alike = kept_alone by alike.tasks
    statement_kept (Complete by) alike = kept_alone by alike.tasks
    statement_kept (Abort by tasks) alike = kept_list by tasks alike.tasks
    statement_kept (ShowCallable by task) alike = refl
    statement_kept (ShowTerminated by task) alike = refl
    statement_kept (ShowCount by entry) alike = refl

    line_kept : (line : Option Line) → line_says names old new line ≡ true
        → option_map_or (names_kept names journal) (option_and_then (λ (l : Line). request_of old l.statement) line) true ≡ true
    line_kept None says = refl
    line_kept (Some line) says = statement_kept line.statement (names_alike names old new line.statement says)

    -- each task that a line names has a name, or doesn't exist
    pub request_kept : (script : List Line) (place : ℕ) (request : Request) → says_alike_at script names old new place ≡ true
        → request_at script old place ≡ Some request → names_kept names journal request ≡ true
    request_kept script place request says asks =
        ap (λ o. option_map_or (names_kept names journal) o true) (sym asks) ∙ line_kept (slice_get script place) says
