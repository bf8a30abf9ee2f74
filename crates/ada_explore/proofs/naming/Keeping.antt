-- What stood for the same still does once a statement is accepted in both journals.
use Rattle.std.proofs.Common.{◌≡◌, ℕ, ℤ, Bool, true, false, not, ◌==◌, if◌then◌else◌, Option, Some, None, List, slice_get, refl, sym, ap, subst, ◌∙◌}
use Rattle.std.specs.Option.{option_map, option_map_or}
use Rattle.std.specs.Str.{bytes_eq}
use Rattle.std.proofs.lemmas.Bool.{false≢true}
use Rattle.ada_events.specs.declared.names.TaskNo.{TaskNo}
use Rattle.ada_events.specs.declared.names.Master.{Master}
use Rattle.ada_events.specs.declared.names.Master.TheVariants.{Body, Block as BlockMaster}
use Rattle.ada_standing.specs.Renaming.{Renaming}
use Rattle.ada_statements.specs.declared.meaning.Meaning.{Meaning}
use Rattle.ada_statements.specs.declared.meaning.Meaning.TheVariants.{Task, Block}
use Rattle.ada_statements.specs.declared.statement.Statement.{Statement}
use Rattle.ada_statements.specs.declared.statement.Statement.TheVariants.{Tick, Open, Create}
use Rattle.ada_statements.specs.Scope.{Scope, meaning_of}
use Rattle.ada_statements.specs.Binding.{bind, with_made, with_opened, no_task, task_in, master_in, task_of, master_of}
use Rattle.ada_script.specs.declared.script.Line.{Line}
use Rattle.ada_explore.specs.Scripts.{Rest, rest, without, bound_so}
use Rattle.ada_explore.specs.Sameness.{stands_for, same_task, same_master, says_alike, says_alike_at, tasks_named, masters_named, shape, SameRest}
use Rattle.ada_explore.proofs.naming.Passing.{all_on, all_kept}
use Rattle.ada_explore.proofs.naming.Bindings.{AreOfOneShape, one_shape, bound_by, meaning_bound, shape_bound}
use Rattle.ada_explore.proofs.naming.Requests.{DeclaredAlike, task_alike, master_alike, names_alike, says_from, line_says}

-- a statement makes a task
abbrev pub creates : Statement → Bool
creates (Create _ _ _ _) = true
creates _ = false

-- what both journals know once they took a statement: what stood for the same still does, and so do the tasks that it made,
-- if it makes one, and the positions of its events
pub record KnowsMore (names more : Renaming) (statement : Statement) (at at_too : ℕ) (made made_too : TaskNo) : Type 0 where
  pub tasks : (t u : TaskNo) → same_task names t u ≡ true → same_task more t u ≡ true
  pub positions : (p q : ℕ) → stands_for names.position 0 p q ≡ true → stands_for more.position 0 p q ≡ true
  pub new_task : creates statement ≡ true → same_task more made made_too ≡ true
  pub new_block : stands_for more.position 0 at at_too ≡ true

-- what holds of two things, and of what they become, holds whether they become it or not
module _ (P : Option Meaning → Option Meaning → Type 0) (first second changed changed_too : Option Meaning) where
  either : (b : Bool) → P changed changed_too → P first second → P (if b then changed else first) (if b then changed_too else second)
  either true here there = here
  either false here there = there

module _ (names more : Renaming) (statement : Statement) (at at_too : ℕ) (made made_too : TaskNo)
    (known : KnowsMore names more statement at at_too made made_too) where
  masters_kept : (m n : Master) → same_master names m n ≡ true → same_master more m n ≡ true
  masters_kept (Body t) (Body u) same = known.tasks t u same
  masters_kept (BlockMaster p) (BlockMaster q) same = known.positions p q same
  masters_kept (Body t) (BlockMaster q) same = absurd (false≢true same)
  masters_kept (BlockMaster p) (Body u) same = absurd (false≢true same)

  abbrev making : Meaning → Meaning
  making = with_made (record { task = made; at = at })

  abbrev making_too : Meaning → Meaning
  making_too = with_made (record { task = made_too; at = at_too })

  -- a name becomes that of a task, where it is a task's
  task_made : (meaning other : Option Meaning) → AreOfOneShape meaning other → creates statement ≡ true
      → same_task names (task_in meaning) (task_in other) ≡ true
      → same_task more (task_in (option_map making meaning)) (task_in (option_map making_too other)) ≡ true
  task_made meaning other (AreOfOneShape.neither) makes same = known.tasks no_task no_task same
  task_made meaning other (AreOfOneShape.tasks entries others before after) makes same = known.new_task makes
  task_made meaning other (AreOfOneShape.blocks opened after) makes same = known.tasks no_task no_task same

  master_made : (meaning other : Option Meaning) → AreOfOneShape meaning other → creates statement ≡ true
      → same_master names (master_in meaning) (master_in other) ≡ true
      → same_master more (master_in (option_map making meaning)) (master_in (option_map making_too other)) ≡ true
  master_made meaning other (AreOfOneShape.neither) makes same = known.positions 0 0 same
  master_made meaning other (AreOfOneShape.tasks entries others before after) makes same = known.new_task makes
  master_made meaning other (AreOfOneShape.blocks opened after) makes same =
      masters_kept (master_in (Some (Block opened))) (master_in (Some (Block after))) same

  -- or that of a block, where it is a block's
  task_opened : (meaning other : Option Meaning) → AreOfOneShape meaning other → same_task names (task_in meaning) (task_in other) ≡ true
      → same_task more (task_in (option_map (with_opened at) meaning)) (task_in (option_map (with_opened at_too) other)) ≡ true
  task_opened meaning other (AreOfOneShape.neither) same = known.tasks no_task no_task same
  task_opened meaning other (AreOfOneShape.tasks entries others before after) same =
      known.tasks (task_in (Some (Task entries before))) (task_in (Some (Task others after))) same
  task_opened meaning other (AreOfOneShape.blocks opened after) same = known.tasks no_task no_task same

  master_opened : (meaning other : Option Meaning) → AreOfOneShape meaning other → same_master names (master_in meaning) (master_in other) ≡ true
      → same_master more (master_in (option_map (with_opened at) meaning)) (master_in (option_map (with_opened at_too) other)) ≡ true
  master_opened meaning other (AreOfOneShape.neither) same = known.positions 0 0 same
  master_opened meaning other (AreOfOneShape.tasks entries others before after) same =
      masters_kept (master_in (Some (Task entries before))) (master_in (Some (Task others after))) same
  master_opened meaning other (AreOfOneShape.blocks opened after) same = known.new_block

-- ---- by the statement

module _ (names more : Renaming) (at at_too : ℕ) (made made_too : TaskNo) where
  task_bound : (statement : Statement) → KnowsMore names more statement at at_too made made_too → (name : List ℕ) (meaning other : Option Meaning)
      → AreOfOneShape meaning other → same_task names (task_in meaning) (task_in other) ≡ true
      → same_task more (task_in (bound_by statement at made name meaning)) (task_in (bound_by statement at_too made_too name other)) ≡ true
  task_bound (Open by block) known name meaning other shapes same =
      either (λ m n. same_task more (task_in m) (task_in n) ≡ true) meaning other (option_map (with_opened at) meaning)
      (option_map (with_opened at_too) other) (bytes_eq name block)
      (task_opened names more (Open by block) at at_too made made_too known meaning other shapes same) (known.tasks (task_in meaning) (task_in other) same)
  task_bound (Create by task under families) known name meaning other shapes same =
      either (λ m n. same_task more (task_in m) (task_in n) ≡ true) meaning other (option_map (with_made (record { task = made; at = at })) meaning)
      (option_map (with_made (record { task = made_too; at = at_too })) other) (bytes_eq name task)
      (task_made names more (Create by task under families) at at_too made made_too known meaning other shapes refl same)
      (known.tasks (task_in meaning) (task_in other) same)
  task_bound _ known name meaning other shapes same = known.tasks (task_in meaning) (task_in other) same

  master_bound : (statement : Statement) → KnowsMore names more statement at at_too made made_too → (name : List ℕ) (meaning other : Option Meaning)
      → AreOfOneShape meaning other → same_master names (master_in meaning) (master_in other) ≡ true
      → same_master more (master_in (bound_by statement at made name meaning)) (master_in (bound_by statement at_too made_too name other)) ≡ true
  master_bound (Open by block) known name meaning other shapes same =
      either (λ m n. same_master more (master_in m) (master_in n) ≡ true) meaning other (option_map (with_opened at) meaning)
      (option_map (with_opened at_too) other) (bytes_eq name block)
      (master_opened names more (Open by block) at at_too made made_too known meaning other shapes same)
      (masters_kept names more (Open by block) at at_too made made_too known (master_in meaning) (master_in other) same)
  master_bound (Create by task under families) known name meaning other shapes same =
      either (λ m n. same_master more (master_in m) (master_in n) ≡ true) meaning other
      (option_map (with_made (record { task = made; at = at })) meaning) (option_map (with_made (record { task = made_too; at = at_too })) other)
      (bytes_eq name task) (master_made names more (Create by task under families) at at_too made made_too known meaning other shapes refl same)
      (masters_kept names more (Create by task under families) at at_too made made_too known (master_in meaning) (master_in other) same)
  master_bound statement known name meaning other shapes same =
      masters_kept names more statement at at_too made made_too known (master_in meaning) (master_in other) same

  module _ (statement : Statement) (known : KnowsMore names more statement at at_too made made_too) (old new : Scope) (declared : DeclaredAlike old new) where
    -- names are declared alike again
    pub declared_on : DeclaredAlike (bind old statement at made) (bind new statement at_too made_too)
    declared_on = λ name.
        ap (option_map shape) (meaning_bound old statement at made name) ∙ shape_bound statement at made name (meaning_of old name) ∙ declared name
        ∙ sym (ap (option_map shape) (meaning_bound new statement at_too made_too name) ∙ shape_bound statement at_too made_too name (meaning_of new name))

    task_on : (name : List ℕ) → task_alike names old new name ≡ true
        → task_alike more (bind old statement at made) (bind new statement at_too made_too) name ≡ true
    task_on name same =
        ap (λ m. same_task more (task_in m) (task_of (bind new statement at_too made_too) name)) (meaning_bound old statement at made name)
        ∙ ap (λ m. same_task more (task_in (bound_by statement at made name (meaning_of old name))) (task_in m))
        (meaning_bound new statement at_too made_too name)
        ∙ task_bound statement known name (meaning_of old name) (meaning_of new name)
        (one_shape (meaning_of old name) (meaning_of new name) (declared name)) same

    master_on : (name : List ℕ) → master_alike names old new name ≡ true
        → master_alike more (bind old statement at made) (bind new statement at_too made_too) name ≡ true
    master_on name same =
        ap (λ m. same_master more (master_in m) (master_of (bind new statement at_too made_too) name)) (meaning_bound old statement at made name)
        ∙ ap (λ m. same_master more (master_in (bound_by statement at made name (meaning_of old name))) (master_in m))
        (meaning_bound new statement at_too made_too name)
        ∙ master_bound statement known name (meaning_of old name) (meaning_of new name)
        (one_shape (meaning_of old name) (meaning_of new name) (declared name)) same

    says_on : (other : Statement) → says_alike names old new other ≡ true
        → says_alike more (bind old statement at made) (bind new statement at_too made_too) other ≡ true
    says_on other says =
        let alike = names_alike names old new other says in
        says_from more (bind old statement at made) (bind new statement at_too made_too) other (record {
          tasks = all_on (task_alike names old new) (task_alike more (bind old statement at made) (bind new statement at_too made_too))
              (tasks_named other) task_on alike.tasks;
          masters = all_on (master_alike names old new) (master_alike more (bind old statement at made) (bind new statement at_too made_too))
              (masters_named other) master_on alike.masters;
        })

    line_on : (line : Option Line) → line_says names old new line ≡ true
        → line_says more (bind old statement at made) (bind new statement at_too made_too) line ≡ true
    line_on None says = refl
    line_on (Some line) says = says_on line.statement says

    -- what a line names stands for the same again
    pub says_at_on : (script : List Line) (place : ℕ) → says_alike_at script names old new place ≡ true
        → says_alike_at script more (bind old statement at made) (bind new statement at_too made_too) place ≡ true
    says_at_on script place says = line_on (slice_get script place) says

-- the same is left again once time passed
pub same_passed : (script : List Line) (names more : Renaming) (at at_too : ℕ) (made made_too : TaskNo) (now : ℤ) (one other : Rest)
    → SameRest script names one other → KnowsMore names more (Tick now) at at_too made made_too
    → SameRest script more (rest one.left one.names) (rest other.left other.names)
same_passed script names more at at_too made made_too now one other same known = record {
  left = same.left;
  declared = same.declared;
  alike = all_on (says_alike_at script names one.names other.names) (says_alike_at script more one.names other.names) one.left
      (says_at_on names more at at_too made made_too (Tick now) known one.names other.names same.declared script) same.alike;
}

-- the same is left again without the line at a place, and with what it binds
pub same_on : (script : List Line) (names more : Renaming) (place at at_too : ℕ) (made made_too : TaskNo) (line : Line) (one other : Rest)
    → slice_get script place ≡ Some line → SameRest script names one other → KnowsMore names more line.statement at at_too made made_too
    → SameRest script more (rest (without place one.left) (bound_so script one.names place at made))
    (rest (without place other.left) (bound_so script other.names place at_too made_too))
same_on script names more place at at_too made made_too line one other is same known =
    let said = line.statement in
    let old = bind one.names said at made in
    let new = bind other.names said at_too made_too in
    let within = says_alike_at script names one.names other.names in
    subst (λ (o : Option Line).
    SameRest script more (rest (without place one.left) (option_map_or (λ (l : Line). bind one.names l.statement at made) o one.names))
    (rest (without place other.left) (option_map_or (λ (l : Line). bind other.names l.statement at_too made_too) o other.names))) (sym is)
    (record {
      left = ap (without place) same.left;
      declared = declared_on names more at at_too made made_too said known one.names other.names same.declared;
      alike = all_on within (says_alike_at script more old new) (without place one.left)
          (says_at_on names more at at_too made made_too said known one.names other.names same.declared script)
          (all_kept within (λ q. not (q == place)) one.left same.alike);
    })
