-- What a line asks for under other names.
use Rattle.std.proofs.Common.{◌≡◌, ℕ, Bool, true, false, pos, Option, Some, None, List, [], ◌∷◌, map, slice_get, refl, sym, ap, ◌∙◌}
use Rattle.std.specs.Option.{option_map, option_map_or, option_and_then, unwrap_or}
use Rattle.std.specs.List.{list_all}
use Rattle.std.proofs.lemmas.Bool.{and_parts, and_from, false≢true}
use Rattle.ada_events.specs.declared.names.TaskNo.{TaskNo}
use Rattle.ada_events.specs.declared.names.Master.{Master}
use Rattle.ada_events.specs.declared.names.Master.TheVariants.{Body, Block as BlockMaster}
use Rattle.ada_events.specs.declared.names.Entry.{Entry}
use Rattle.ada_events.specs.declared.names.Choice.{Choice}
use Rattle.ada_events.specs.declared.names.Patience.{Patience}
use Rattle.ada_events.specs.declared.request.Request.TheVariants as requests
use Rattle.ada_events.specs.declared.request.Tail.TheVariants as tails
use Rattle.ada_events.specs.declared.names.Patience.TheVariants as patiences
use Rattle.ada_events.specs.Forced.{task_no}
use Rattle.ada_standing.specs.Renaming.{Renaming}
use Rattle.ada_standing.specs.Asking.{asked_task, asked_master, renamed_request}
use Rattle.ada_statements.specs.declared.meaning.Meaning.{Meaning}
use Rattle.ada_statements.specs.declared.meaning.Meaning.TheVariants.{Task, Block}
use Rattle.ada_statements.specs.declared.statement.Alternative.{Alternative}
use Rattle.ada_statements.specs.declared.statement.EntryName.{EntryName}
use Rattle.ada_statements.specs.declared.statement.Statement.{Statement}
use Rattle.ada_statements.specs.declared.statement.Statement.TheVariants.{Tick, Open, Create, Activate, Up, Fail, Call, CallWithin, Try, Accept, Select, End}
use Rattle.ada_statements.specs.declared.statement.Statement.TheVariants.{Raise, Close, Delay, Complete, Abort, ShowCallable, ShowTerminated, ShowCount}
use Rattle.ada_statements.specs.Scope.{Scope, meaning_of, entry_names_in, entries_of}
use Rattle.ada_statements.specs.Binding.{task_of, master_of, place_of, entry_of, choice_of, family_of, called, request_of}
use Rattle.ada_script.specs.declared.script.Line.{Line}
use Rattle.ada_explore.specs.Scripts.{request_at}
use Rattle.ada_explore.specs.Sameness.{same_task, same_master, says_alike, says_alike_at, tasks_named, masters_named, shape}
use Rattle.ada_explore.proofs.naming.Passing.{first_passes, others_pass}
use Rattle.ada_explore.proofs.naming.Numbers.{asked_so}

-- names are declared alike
abbrev pub DeclaredAlike : Scope → Scope → Type 0
DeclaredAlike old new = (name : List ℕ) → option_map shape (meaning_of old name) ≡ option_map shape (meaning_of new name)

-- a name stands for the same
abbrev pub task_alike : Renaming → Scope → Scope → List ℕ → Bool
task_alike names old new name = same_task names (task_of old name) (task_of new name)

abbrev pub master_alike : Renaming → Scope → Scope → List ℕ → Bool
master_alike names old new name = same_master names (master_of old name) (master_of new name)

-- what a statement names stands for the same
pub record NamesAlike (names : Renaming) (old new : Scope) (statement : Statement) : Type 0 where
  pub tasks : list_all (task_alike names old new) (tasks_named statement) ≡ true
  pub masters : list_all (master_alike names old new) (masters_named statement) ≡ true

pub names_alike : (names : Renaming) (old new : Scope) (statement : Statement) → says_alike names old new statement ≡ true
    → NamesAlike names old new statement
names_alike names old new statement says =
    let both = and_parts (list_all (task_alike names old new) (tasks_named statement)) (list_all (master_alike names old new) (masters_named statement)) says in
    record { tasks = both.0; masters = both.1 }

pub says_from : (names : Renaming) (old new : Scope) (statement : Statement) → NamesAlike names old new statement
    → says_alike names old new statement ≡ true
says_from names old new statement alike =
    and_from (list_all (task_alike names old new) (tasks_named statement)) (list_all (master_alike names old new) (masters_named statement))
    alike.tasks alike.masters

-- and so does what a line names, if there is one
abbrev pub line_says : Renaming → Scope → Scope → Option Line → Bool
line_says names old new line = option_map_or (λ (l : Line). says_alike names old new l.statement) line true

-- ---- the names of tasks, masters and entries

asked_same : (names : Renaming) (t u : TaskNo) → same_task names t u ≡ true → u ≡ asked_task names t
asked_same names t u same = sym (ap task_no (asked_so names.task 65535 t.0 u.0 same))

master_same : (names : Renaming) (m n : Master) → same_master names m n ≡ true → n ≡ asked_master names m
unfolding asked_master
master_same names (Body t) (Body u) same = ap Body (asked_same names t u same)
master_same names (BlockMaster p) (BlockMaster q) same = sym (ap BlockMaster (asked_so names.position 0 p q same))
master_same names (Body t) (BlockMaster q) same = absurd (false≢true same)
master_same names (BlockMaster p) (Body u) same = absurd (false≢true same)

-- an entry of a task with these entries
abbrev entry_in : Option (List (List ℕ)) → EntryName → Entry
entry_in entries entry = record { family = place_of entry.family (unwrap_or entries []); index = unwrap_or entry.index (pos 0) }

abbrev choice_in : Option (List (List ℕ)) → Alternative → Choice
choice_in entries choice = record { guard = choice.guard; entry = entry_in entries choice.entry }

ap_both : {A B C : Type 0} (f : A → B → C) {a b : A} {c d : B} → a ≡ b → c ≡ d → f a c ≡ f b d
ap_both f {b = b} {c = c} first second = ap (λ x. f x c) first ∙ ap (f b) second

entries_by_shape : (meaning : Option Meaning) → entry_names_in meaning ≡ option_and_then (λ entries. entries) (option_map shape meaning)
entries_by_shape None = refl
entries_by_shape (Some (Task entries made)) = refl
entries_by_shape (Some (Block opened)) = refl

module _ (names : Renaming) (old new : Scope) (declared : DeclaredAlike old new) where
  tasks_asked : (tasks : List (List ℕ)) → list_all (task_alike names old new) tasks ≡ true
      → map (task_of new) tasks ≡ map (asked_task names) (map (task_of old) tasks)
  tasks_asked [] all = refl
  tasks_asked (name ∷ rest) all =
      ap (λ t. t ∷ map (task_of new) rest)
      (asked_same names (task_of old name) (task_of new name) (first_passes (task_alike names old new) name rest all))
      ∙ ap (λ ts. asked_task names (task_of old name) ∷ ts) (tasks_asked rest (others_pass (task_alike names old new) name rest all))

  entries_alike : (task : List ℕ) → entries_of new task ≡ entries_of old task
  entries_alike task =
      entries_by_shape (meaning_of new task) ∙ ap (option_and_then (λ entries. entries)) (sym (declared task))
      ∙ sym (entries_by_shape (meaning_of old task))

  entry_alike : (task : List ℕ) (entry : EntryName) → entry_of new task entry ≡ entry_of old task entry
  entry_alike task entry = ap (λ entries. entry_in entries entry) (entries_alike task)

  choices_alike : (by : List ℕ) (choices : List Alternative) → map (choice_of new by) choices ≡ map (choice_of old by) choices
  choices_alike by choices =
      ap (λ entries. map (choice_in entries) choices) (entries_alike by)

  -- ---- requests

  by_asked : (name : List ℕ) (rest : List (List ℕ)) → list_all (task_alike names old new) (name ∷ rest) ≡ true
      → task_of new name ≡ asked_task names (task_of old name)
  by_asked name rest all = asked_same names (task_of old name) (task_of new name) (first_passes (task_alike names old new) name rest all)

  called_asked : (by callee : List ℕ) (entry : EntryName) (patience : Patience) → list_all (task_alike names old new) (by ∷ callee ∷ []) ≡ true
      → called new by callee entry patience ≡ renamed_request names (called old by callee entry patience)
  unfolding renamed_request
  called_asked by callee entry patience all =
      ap_both (λ b c. requests.Call b c (entry_of new callee entry) patience) (by_asked by (callee ∷ []) all)
      (by_asked callee [] (others_pass (task_alike names old new) by (callee ∷ []) all))
      ∙ ap (λ e. requests.Call (asked_task names (task_of old by)) (asked_task names (task_of old callee)) e patience) (entry_alike callee entry)

  pub request_alike : (statement : Statement) → NamesAlike names old new statement
      → request_of new statement ≡ option_map (renamed_request names) (request_of old statement)
  unfolding renamed_request
  request_alike (Tick now) alike = refl
  request_alike (Open by block) alike = ap (λ b. Some (requests.Open b)) (by_asked by [] alike.tasks)
  request_alike (Create by task under families) alike =
      let master = first_passes (master_alike names old new) under [] alike.masters in
      ap_both (λ b m. Some (requests.Create b m (map family_of families))) (by_asked by [] alike.tasks)
      (master_same names (master_of old under) (master_of new under) master)
  request_alike (Activate by tasks) alike =
      ap_both (λ b ts. Some (requests.Activate b ts)) (by_asked by tasks alike.tasks)
      (tasks_asked tasks (others_pass (task_alike names old new) by tasks alike.tasks))
  request_alike (Up by) alike = ap (λ b. Some (requests.Elaborated b true)) (by_asked by [] alike.tasks)
  request_alike (Fail by) alike = ap (λ b. Some (requests.Elaborated b false)) (by_asked by [] alike.tasks)
  request_alike (Call by callee entry) alike = ap Some (called_asked by callee entry patiences.Simple alike.tasks)
  request_alike (CallWithin by callee entry duration) alike = ap Some (called_asked by callee entry (patiences.Timed duration) alike.tasks)
  request_alike (Try by callee entry) alike = ap Some (called_asked by callee entry patiences.Conditional alike.tasks)
  request_alike (Accept by entry) alike =
      ap_both (λ b e. Some (requests.Wait b (record { guard = true; entry = e } ∷ []) tails.Nothing 0)) (by_asked by [] alike.tasks) (entry_alike by entry)
  request_alike (Select by pick choices tail) alike =
      ap_both (λ b cs. Some (requests.Wait b cs tail pick)) (by_asked by [] alike.tasks) (choices_alike by choices)
  request_alike (End by) alike = ap (λ b. Some (requests.End b false)) (by_asked by [] alike.tasks)
  request_alike (Raise by) alike = ap (λ b. Some (requests.End b true)) (by_asked by [] alike.tasks)
  request_alike (Close by) alike = ap (λ b. Some (requests.Close b)) (by_asked by [] alike.tasks)
  request_alike (Delay by duration) alike = ap (λ b. Some (requests.Delay b duration)) (by_asked by [] alike.tasks)
  request_alike (Complete by) alike = ap (λ b. Some (requests.Complete b)) (by_asked by [] alike.tasks)
  request_alike (Abort by tasks) alike =
      ap_both (λ b ts. Some (requests.Abort b ts)) (by_asked by tasks alike.tasks)
      (tasks_asked tasks (others_pass (task_alike names old new) by tasks alike.tasks))
  request_alike (ShowCallable by task) alike = refl
  request_alike (ShowTerminated by task) alike = refl
  request_alike (ShowCount by entry) alike = refl

  -- the line at a place asks for what the same line asks for under the first names, renamed
  line_alike : (line : Option Line) → line_says names old new line ≡ true
      → option_and_then (λ (l : Line). request_of new l.statement) line
      ≡ option_map (renamed_request names) (option_and_then (λ (l : Line). request_of old l.statement) line)
  line_alike None says = refl
  line_alike (Some line) says = request_alike line.statement (names_alike names old new line.statement says)

  pub request_at_alike : (script : List Line) (place : ℕ) → says_alike_at script names old new place ≡ true
      → request_at script new place ≡ option_map (renamed_request names) (request_at script old place)
  request_at_alike script place says = line_alike (slice_get script place) says
