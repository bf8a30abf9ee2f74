-- The tasks that a request names: which of them exist, and which have names.
use Rattle.std.proofs.Common.{◌≡◌, ℕ, ◌≤◌, true, false, not, Option, Some, None, List, [], ◌∷◌, map, refl, sym, ap, ◌∙◌, inl, inr}
use Rattle.std.specs.Option.{option_map, option_map_or, unwrap_or, is_some}
use Rattle.std.specs.List.{list_any, list_all}
use Rattle.std.proofs.lemmas.Bool.{and_parts, or_cases, or_parts, le-ltb, ltb-true, not-true, not-false, true≢false, false≢true}
use Rattle.ada_events.specs.declared.event.Event.{Event}
use Rattle.ada_events.specs.declared.request.Request.{Request}
use Rattle.ada_events.specs.declared.request.Request.TheVariants.{Open, Create}
use Rattle.ada_events.specs.declared.names.TaskNo.{TaskNo}
use Rattle.ada_events.specs.declared.names.Master.TheVariants.{Body, Block}
use Rattle.ada_events.specs.Search.{is_some_and}
use Rattle.ada_events.specs.Tasks.{has_task, task_count}
use Rattle.ada_events.specs.Phases.{lists_task, has_ended, is_running}
use Rattle.ada_events.specs.Asks.{asker, named_tasks}
use Rattle.ada_events.specs.Refusals.{names_unknown_task, asker_not_running, has_double_task}
use Rattle.ada_laws.proofs.searching.Searching.{option_map_or-false}
use Rattle.ada_laws.proofs.asking.Accepting.{running_live}
use Rattle.ada_standing.specs.Renaming.{Renaming}
use Rattle.ada_standing.specs.StandsIn.{StandsIn, is_live}
use Rattle.ada_standing.specs.Asking.{nobody, asked_task, asked_master, renamed_request, is_kept, names_kept}
use Rattle.ada_standing.proofs.alike.Pairs.{live_from, active_parts}
use Rattle.ada_standing.proofs.alike.Phases.{running_alike}
use Rattle.ada_standing.proofs.alike.Calling.{same_task_alike}

-- the number that a request to the second journal names for a task
abbrev pub asked_for : Renaming → ℕ → ℕ
asked_for names u = unwrap_or (names.task u) nobody

-- the task has a name
abbrev pub HasName : Renaming → ℕ → Type 0
HasName names u = (v : ℕ) × (names.task u ≡ Some v)

abbrev pub HaveNames : Renaming → List TaskNo → Type 0
HaveNames names [] = Unit {0}
HaveNames names (t ∷ rest) = HasName names t.0 × HaveNames names rest

-- a task that has a name, and hasn't ended
pub record IsAsker (old : List Event) (names : Renaming) (u : ℕ) : Type 0 where
  pub stand : ℕ
  pub named : names.task u ≡ Some stand
  pub active : has_ended old u ≡ false

pub asker_live : (old new : List Event) (names : Renaming) (u : ℕ) → StandsIn old new names → IsAsker old names u → is_live old u ≡ true
asker_live old new names u stands asker =
    live_from old u (ltb-true u (task_count old) (stands.same u asker.stand asker.named).existed) (active_parts old u asker.active).1

-- the task that asks has a name, and hasn't ended, and the others that the request names have names
pub record IsAsking (old : List Event) (names : Renaming) (request : Request) : Type 0 where
  pub by : (u : ℕ) → asker request ≡ Some u → IsAsker old names u
  pub tasks : HaveNames names (named_tasks request)

some_name : (o : Option ℕ) → is_some o ≡ true → (v : ℕ) × (o ≡ Some v)
some_name None some = absurd (false≢true some)
some_name (Some v) some = (v, refl)

kept_name : (names : Renaming) (old : List Event) (u : ℕ) → is_kept names old u ≡ true → has_task old u ≡ true → HasName names u
kept_name names old u kept exists =
    elim (or_cases (not (has_task old u)) (is_some (names.task u)) kept) [
      | inl unknown ↦ absurd (true≢false (sym exists ∙ not-true (has_task old u) unknown))
      | inr named ↦ some_name (names.task u) named
    ]

-- a task that has a name exists, and so does the one that stands for it; and neither exists where there is no name
pub known_alike : (old new : List Event) (names : Renaming) (u : ℕ) → StandsIn old new names → task_count new ≤ nobody → is_kept names old u ≡ true
    → has_task new (asked_for names u) ≡ has_task old u
known_alike old new names u stands few kept = by_name (names.task u) refl
  where
    by_name : (o : Option ℕ) → names.task u ≡ o → has_task new (asked_for names u) ≡ has_task old u
    by_name (Some v) is = rw is ((stands.same u v is).exists ∙ sym (stands.same u v is).existed)
    by_name None is =
        elim (or_cases (not (has_task old u)) (is_some (names.task u)) kept) [
          | inl unknown ↦ rw is (le-ltb nobody (task_count new) few ∙ sym (not-true (has_task old u) unknown))
          | inr named ↦ absurd (false≢true (ap is_some (sym is) ∙ named))
        ]

asker_renamed : (names : Renaming) (request : Request) → asker (renamed_request names request) ≡ option_map (asked_for names) (asker request)
unfolding asker renamed_request
asker_renamed names (Open by) = refl
asker_renamed names _ = refl

tasks_renamed : (names : Renaming) (request : Request) → named_tasks (renamed_request names request) ≡ map (asked_task names) (named_tasks request)
unfolding named_tasks renamed_request asked_master
tasks_renamed names (Create by (Body t) families) = refl
tasks_renamed names (Create by (Block p) families) = refl
tasks_renamed names _ = refl

-- the task that asks, and the others, are unknown alike

asker_unknown : (old new : List Event) (names : Renaming) (o : Option ℕ) → StandsIn old new names → task_count new ≤ nobody
    → option_map_or (is_kept names old) o true ≡ true
    → is_some_and (option_map (asked_for names) o) (λ t. not (has_task new t)) ≡ is_some_and o (λ t. not (has_task old t))
asker_unknown old new names None stands few kept = refl
asker_unknown old new names (Some u) stands few kept = ap not (known_alike old new names u stands few kept)

tasks_unknown : (old new : List Event) (names : Renaming) (tasks : List TaskNo) → StandsIn old new names → task_count new ≤ nobody
    → list_all (λ (t : TaskNo). is_kept names old t.0) tasks ≡ true
    → list_any (λ (t : TaskNo). not (has_task new t.0)) (map (asked_task names) tasks) ≡ list_any (λ (t : TaskNo). not (has_task old t.0)) tasks
tasks_unknown old new names [] stands few kept = refl
tasks_unknown old new names (t ∷ rest) stands few kept =
    let both = and_parts (is_kept names old t.0) (list_all (λ (t : TaskNo). is_kept names old t.0) rest) kept in
    rw (known_alike old new names t.0 stands few both.0, tasks_unknown old new names rest stands few both.1) refl

pub unknown_alike : (old new : List Event) (names : Renaming) (request : Request) → StandsIn old new names → task_count new ≤ nobody
    → names_kept names old request ≡ true → names_unknown_task new (renamed_request names request) ≡ names_unknown_task old request
unfolding names_unknown_task names_kept
unknown_alike old new names request stands few kept =
    let both = and_parts (option_map_or (is_kept names old) (asker request) true)
    (list_all (λ (t : TaskNo). is_kept names old t.0) (named_tasks request)) kept in
    rw (
      asker_renamed names request,
      tasks_renamed names request,
      asker_unknown old new names (asker request) stands few both.0,
      tasks_unknown old new names (named_tasks request) stands few both.1,
    ) refl

-- where all tasks that a request names exist, they have names

names_of : (old : List Event) (names : Renaming) (tasks : List TaskNo) → list_all (λ (t : TaskNo). is_kept names old t.0) tasks ≡ true
    → list_any (λ (t : TaskNo). not (has_task old t.0)) tasks ≡ false → HaveNames names tasks
names_of old names [] kept known = tt
names_of old names (t ∷ rest) kept known =
    let both = and_parts (is_kept names old t.0) (list_all (λ (t : TaskNo). is_kept names old t.0) rest) kept in
    let exist = or_parts (not (has_task old t.0)) (list_any (λ (t : TaskNo). not (has_task old t.0)) rest) known in
    (kept_name names old t.0 both.0 (not-false (has_task old t.0) exist.0), names_of old names rest both.1 exist.1)

asker_named : (old : List Event) (names : Renaming) (o : Option ℕ) (u : ℕ) → option_map_or (is_kept names old) o true ≡ true
    → is_some_and o (λ t. not (has_task old t)) ≡ false → o ≡ Some u → HasName names u
asker_named old names None u kept known is = absurd (cc)
asker_named old names (Some t) u kept known is =
    let (v, named) = kept_name names old t kept (not-false (has_task old t) known) in
    (v, ap names.task (cc) ∙ named)

pub asker_has_name : (old : List Event) (names : Renaming) (request : Request) (u : ℕ) → names_kept names old request ≡ true
    → names_unknown_task old request ≡ false → asker request ≡ Some u → HasName names u
unfolding names_unknown_task names_kept
asker_has_name old names request u kept known asks =
    let both = and_parts (option_map_or (is_kept names old) (asker request) true)
    (list_all (λ (t : TaskNo). is_kept names old t.0) (named_tasks request)) kept in
    let exist = or_parts (is_some_and (asker request) (λ t. not (has_task old t)))
    (list_any (λ (t : TaskNo). not (has_task old t.0)) (named_tasks request)) known in
    asker_named old names (asker request) u both.0 exist.0 asks

tasks_have_names : (old : List Event) (names : Renaming) (request : Request) → names_kept names old request ≡ true
    → names_unknown_task old request ≡ false → HaveNames names (named_tasks request)
unfolding names_unknown_task names_kept
tasks_have_names old names request kept known =
    let both = and_parts (option_map_or (is_kept names old) (asker request) true)
    (list_all (λ (t : TaskNo). is_kept names old t.0) (named_tasks request)) kept in
    let exist = or_parts (is_some_and (asker request) (λ t. not (has_task old t)))
    (list_any (λ (t : TaskNo). not (has_task old t.0)) (named_tasks request)) known in
    names_of old names (named_tasks request) both.1 exist.1

-- and the task that asks runs or doesn't run alike

asker_runs_alike : (old new : List Event) (names : Renaming) (o : Option ℕ) → StandsIn old new names → ((u : ℕ) → o ≡ Some u → HasName names u)
    → is_some_and (option_map (asked_for names) o) (λ t. not (is_running new t)) ≡ is_some_and o (λ t. not (is_running old t))
asker_runs_alike old new names None stands name = refl
asker_runs_alike old new names (Some u) stands name =
    let (v, named) = name u refl in
    rw (named, running_alike old new names u v stands named) refl

pub not_running_alike : (old new : List Event) (names : Renaming) (request : Request) → StandsIn old new names → names_kept names old request ≡ true
    → names_unknown_task old request ≡ false → asker_not_running new (renamed_request names request) ≡ asker_not_running old request
unfolding asker_not_running
not_running_alike old new names request stands kept known =
    rw (asker_renamed names request)
    (asker_runs_alike old new names (asker request) stands (λ u asks. asker_has_name old names request u kept known asks))

pub is_asking : (old : List Event) (names : Renaming) (request : Request) → names_kept names old request ≡ true → names_unknown_task old request ≡ false
    → asker_not_running old request ≡ false → IsAsking old names request
unfolding asker_not_running
is_asking old names request kept known runs = record {
  by = λ u asks.
      let (v, named) = asker_has_name old names request u kept known asks in
      let runs_now = not-false (is_running old u) (option_map_or-false (λ t. not (is_running old t)) (asker request) u runs asks) in
      record { stand = v; named = named; active = running_live old u runs_now };
  tasks = tasks_have_names old names request kept known;
}

-- lists of tasks that have names

-- the one list names a task as the other names the one that stands for it
pub lists_alike : (old new : List Event) (names : Renaming) (u v : ℕ) (tasks : List TaskNo) → StandsIn old new names → names.task u ≡ Some v
    → HaveNames names tasks → lists_task v (map (asked_task names) tasks) ≡ lists_task u tasks
lists_alike old new names u v [] stands named have = refl
lists_alike old new names u v (t ∷ rest) stands named have =
    rw (
      have.0.1,
      ← same_task_alike old new names t.0 u have.0.0 v stands have.0.1 named,
      lists_alike old new names u v rest stands named have.1,
    ) refl

pub double_alike : (old new : List Event) (names : Renaming) (tasks : List TaskNo) → StandsIn old new names → HaveNames names tasks
    → has_double_task (map (asked_task names) tasks) ≡ has_double_task tasks
unfolding has_double_task
double_alike old new names [] stands have = refl
double_alike old new names (t ∷ rest) stands have =
    rw (
      have.0.1,
      lists_alike old new names t.0 have.0.0 rest stands have.0.1 have.1,
      double_alike old new names rest stands have.1,
    ) refl
