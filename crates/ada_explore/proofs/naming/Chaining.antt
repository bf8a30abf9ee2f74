-- What is left of a script: the same again under names that follow others, and without one more line.
use Rattle.std.proofs.Common.{◌≡◌, ℕ, true, not, ◌==◌, Option, Some, None, List, slice_get, refl, ap, ◌∙◌}
use Rattle.std.specs.List.{list_all}
use Rattle.std.proofs.lemmas.Bool.{false≢true}
use Rattle.ada_events.specs.declared.names.TaskNo.{TaskNo}
use Rattle.ada_events.specs.declared.names.Master.{Master}
use Rattle.ada_events.specs.declared.names.Master.TheVariants.{Body, Block}
use Rattle.ada_standing.specs.Renaming.{Renaming, chained}
use Rattle.ada_statements.specs.declared.statement.Statement.{Statement}
use Rattle.ada_statements.specs.Scope.{Scope}
use Rattle.ada_statements.specs.Binding.{task_of, master_of}
use Rattle.ada_script.specs.declared.script.Line.{Line}
use Rattle.ada_explore.specs.Scripts.{Rest, rest, without}
use Rattle.ada_explore.specs.Sameness.{same_task, same_master, says_alike, says_alike_at, tasks_named, masters_named, SameRest}
use Rattle.ada_explore.proofs.naming.Passing.{all_both, all_kept}
use Rattle.ada_explore.proofs.naming.Numbers.{stands_along}
use Rattle.ada_explore.proofs.naming.Requests.{task_alike, master_alike, names_alike, says_from, line_says}

-- ---- chained names

module _ (names more : Renaming) where
  same_task_along : (t u v : TaskNo) → same_task names t u ≡ true → same_task more u v ≡ true → same_task (chained names more) t v ≡ true
  same_task_along t u v first second = stands_along names.task more.task 65535 t.0 u.0 v.0 first second

  same_master_along : (l m n : Master) → same_master names l m ≡ true → same_master more m n ≡ true → same_master (chained names more) l n ≡ true
  same_master_along (Body t) (Body u) (Body v) first second = same_task_along t u v first second
  same_master_along (Block p) (Block q) (Block r) first second = stands_along names.position more.position 0 p q r first second
  same_master_along (Body t) (Body u) (Block r) first second = absurd (false≢true second)
  same_master_along (Block p) (Block q) (Body v) first second = absurd (false≢true second)
  same_master_along (Body t) (Block q) n first second = absurd (false≢true first)
  same_master_along (Block p) (Body u) n first second = absurd (false≢true first)

  says_along : (a b c : Scope) (statement : Statement) → says_alike names a b statement ≡ true → says_alike more b c statement ≡ true
      → says_alike (chained names more) a c statement ≡ true
  says_along a b c statement first second =
      let one = names_alike names a b statement first in
      let other = names_alike more b c statement second in
      says_from (chained names more) a c statement (record {
        tasks = all_both (task_alike names a b) (task_alike more b c) (task_alike (chained names more) a c) (tasks_named statement)
            (λ name. same_task_along (task_of a name) (task_of b name) (task_of c name)) one.tasks other.tasks;
        masters = all_both (master_alike names a b) (master_alike more b c) (master_alike (chained names more) a c) (masters_named statement)
            (λ name. same_master_along (master_of a name) (master_of b name) (master_of c name)) one.masters other.masters;
      })

  line_along : (a b c : Scope) (line : Option Line) → line_says names a b line ≡ true
      → line_says more b c line ≡ true
      → line_says (chained names more) a c line ≡ true
  line_along a b c None first second = refl
  line_along a b c (Some line) first second = says_along a b c line.statement first second

  pub same_along : (script : List Line) (first second third : Rest) → SameRest script names first second → SameRest script more second third
      → SameRest script (chained names more) first third
  same_along script first second third one other = record {
    left = one.left ∙ other.left;
    declared = λ name. one.declared name ∙ other.declared name;
    alike = all_both (says_alike_at script names first.names second.names) (says_alike_at script more second.names third.names)
        (says_alike_at script (chained names more) first.names third.names) first.left
        (λ place. line_along first.names second.names third.names (slice_get script place)) one.alike
        (ap (list_all (says_alike_at script more second.names third.names)) one.left ∙ other.alike);
  }

-- ---- one line less

pub same_less : (script : List Line) (names : Renaming) (one other : Rest) (place : ℕ) → SameRest script names one other
    → SameRest script names (rest (without place one.left) one.names) (rest (without place other.left) other.names)
same_less script names one other place same = record {
  left = ap (without place) same.left;
  declared = same.declared;
  alike = all_kept (says_alike_at script names one.names other.names) (λ q. not (q == place)) one.left same.alike;
}
