-- What tasks do, told without the names that a kernel gives them: a task object has a number of its own.
use Rattle.std.specs.Prelude.{ℕ, Bool}
use Rattle.ada_events.specs.declared.outcome.Outcome.{Outcome}
use Rattle.ada_events.specs.declared.refusal.Refusal.{Refusal}
use Rattle.ada_behaviours.specs.declared.want.Want.{Want}

-- what all task objects of a program have still to do, and its variables; how many objects there are; what an object
-- wants, by its number and a pick; what is left to do once its request was accepted, and the kernel's answer is waited
-- for, or refused for a cause; once its question was answered by a number; once the kernel let it go on, with an outcome
-- in which the number of an object stands for its call; once it is terminated; and whether the task of an object may
-- still be named. After each accepted request each object whose task runs is told its outcome, so `let_go` has to leave
-- one as it was that waits for no answer
pub record Behaviour (State : Type 0) : Type 0 where
  pub start : State
  pub objects : ℕ
  pub wants : State → ℕ → ℕ → Want
  pub accepted : State → ℕ → ℕ → State
  pub refused : State → ℕ → ℕ → Refusal → State
  pub answered : State → ℕ → ℕ → State
  pub let_go : State → ℕ → Outcome → State
  pub ended : State → ℕ → State
  pub names : State → ℕ → Bool
