-- A kernel that lives on answers what the journal that it follows tells.
use Rattle.std.proofs.Common.{◌≡◌, ℕ, ◌≤◌, Option, Some, None, List, Err, refl, sym, ap, ◌∙◌, arith}
use Rattle.std.specs.Prelude.{is_some}
use Rattle.std.specs.Bool.{then_some}
use Rattle.std.specs.Option.{option_and_then}
use Rattle.std.proofs.lemmas.Bool.{le-ltb}
use Rattle.ada_events.specs.declared.event.Event.{Event}
use Rattle.ada_events.specs.Tasks.{task_count, has_task}
use Rattle.ada_events.specs.Phases.{is_terminated, is_running}
use Rattle.ada_events.specs.Attributes.{is_callable, count_refusal, own_count}
use Rattle.ada_events.specs.Refusals.{first_cause}
use Rattle.ada_events.specs.declared.names.Entry.{Entry}
use Rattle.ada_events.specs.declared.refusal.Refusal.TheVariants.{UnknownTask}
use Rattle.ada_laws.proofs.asking.Limitless.{lawful_unlimited}
use Rattle.ada_standing.specs.Asking.{AnswersAlike}
use Rattle.ada_standing.proofs.asked.Answering.{answered_alike}
use Rattle.ada_lasting.specs.Naming.{found, renaming_of}
use Rattle.ada_lasting.specs.Following.{Long, Follows}
use Rattle.ada_lasting.specs.internal.Present.{IsPresent}

module _ (journal : List Event) (kernel : Long) (follows : Follows journal kernel) (is_present : IsPresent kernel) where
  pub answers : AnswersAlike journal kernel.present (renaming_of kernel.names)
  answers =
      answered_alike journal kernel.present (renaming_of kernel.names) follows.stands follows.lawful (lawful_unlimited kernel.present is_present.lawful)

  -- what is told of a task that has a name is what is told of the task in the journal
  pub told : {A : Type 0} → (of_old of_new : ℕ → A) → ((u v : ℕ) → found kernel.names.tasks u ≡ Some v → of_new v ≡ of_old u) → (task : ℕ)
      → option_and_then (λ v. then_some (has_task kernel.present v) (of_new v)) (found kernel.names.tasks task)
      ≡ then_some (is_some (found kernel.names.tasks task)) (of_old task)
  told of_old of_new alike task = by (found kernel.names.tasks task) refl
    where
      by : (o : Option ℕ) → found kernel.names.tasks task ≡ o
          → option_and_then (λ v. then_some (has_task kernel.present v) (of_new v)) o ≡ then_some (is_some o) (of_old task)
      by None is = refl
      by (Some v) is = rw ((follows.stands.same task v is).exists, alike task v is) refl

  -- the same where the task has this number in the present journal
  pub told_here : {A : Type 0} → (of_old of_new : ℕ → A) → ((u v : ℕ) → found kernel.names.tasks u ≡ Some v → of_new v ≡ of_old u) → (task v : ℕ)
      → found kernel.names.tasks task ≡ Some v
      → then_some (has_task kernel.present v) (of_new v) ≡ then_some (is_some (found kernel.names.tasks task)) (of_old task)
  told_here of_old of_new alike task v is =
      ap (option_and_then (λ v. then_some (has_task kernel.present v) (of_new v))) (sym is) ∙ told of_old of_new alike task

  pub terminated_here : (task v : ℕ) → found kernel.names.tasks task ≡ Some v
      → then_some (has_task kernel.present v) (is_terminated kernel.present v)
      ≡ then_some (is_some (found kernel.names.tasks task)) (is_terminated journal task)
  terminated_here task v is = told_here (is_terminated journal) (is_terminated kernel.present) (λ u v is. (answers.tasks u v is).terminated) task v is

  pub callable_here : (task v : ℕ) → found kernel.names.tasks task ≡ Some v
      → then_some (has_task kernel.present v) (is_callable kernel.present v)
      ≡ then_some (is_some (found kernel.names.tasks task)) (is_callable journal task)
  callable_here task v is = told_here (is_callable journal) (is_callable kernel.present) (λ u v is. (answers.tasks u v is).callable) task v is

  pub running_here : (task v : ℕ) → found kernel.names.tasks task ≡ Some v
      → then_some (has_task kernel.present v) (is_running kernel.present v)
      ≡ then_some (is_some (found kernel.names.tasks task)) (is_running journal task)
  running_here task v is = told_here (is_running journal) (is_running kernel.present) (λ u v is. (answers.tasks u v is).running) task v is

  pub count_here : (task v : ℕ) (entry : Entry) → found kernel.names.tasks task ≡ Some v → own_count kernel.present v entry ≡ own_count journal task entry
  count_here task v entry is = (answers.tasks task v is).own_count entry

  -- who never was made has no COUNT

  refused_nobody : (task : ℕ) (entry : Entry) → kernel.names.made ≤ task → count_refusal journal task entry ≡ Some UnknownTask
  unfolding count_refusal first_cause
  refused_nobody task entry above = rw (le-ltb task (task_count journal) (omega (arith, above, follows.made))) refl

  pub count_of_nobody : (task : ℕ) (entry : Entry) → kernel.names.made ≤ task → own_count journal task entry ≡ Err UnknownTask
  unfolding own_count
  count_of_nobody task entry above = rw (own_count, refused_nobody task entry above) refl
