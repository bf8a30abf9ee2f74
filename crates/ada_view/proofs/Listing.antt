-- Lists to which those of the tasks are added, one after another, that pass a test.
use Rattle.std.proofs.Common.{◌≡◌, ℕ, suc, ◌+◌, ◌<◌, ◌≤◌, Bool, true, false, ◌||◌, eqb, List, [], ◌∷◌, ◌++◌, length, get_or, sym, refl, ap, ◌∙◌, subst}
use Rattle.std.proofs.Common.{arith, inl, inr}
use Rattle.std.proofs.Math.Bool.{or-false}
use Rattle.std.proofs.lemmas.Bool.{cases_eq, cases_lt, eq-eqb, ne_eqb}
use Rattle.std.proofs.lemmas.List.{get_or_append_left, length-append}
use Rattle.std.proofs.lemmas.List.Folds.{list_any-append}
use Rattle.std.proofs.Math.Seq.{get_or-append_seam}
use Rattle.ada_events.specs.declared.event.Event.{Event}
use Rattle.ada_events.specs.declared.names.TaskNo.{TaskNo}
use Rattle.ada_events.specs.Phases.{is_terminated, lists_task}
use Rattle.ada_events.specs.Tasks.{task_count}
use Rattle.ada_records.specs.Records.{ListsLive}

-- the list is right of the first so many tasks
pub record ListsFirst (journal : List Event) (tasks : List TaskNo) (test : ℕ → Bool) (many : ℕ) : Type 0 where
  pub few : length tasks ≤ many
  pub below : (i : ℕ) (d : TaskNo) → i < length tasks → (get_or tasks i d).0 < many
  pub tells : (task : ℕ) → task < many → is_terminated journal task ≡ false → lists_task task tasks ≡ test task

pub lists_none : (journal : List Event) (test : ℕ → Bool) → ListsFirst journal [] test 0
lists_none journal test = record { few = omega arith; below = λ i d less. absurd (omega (arith, less)); tells = λ task less live. absurd (omega (arith, less)) }

-- nobody is listed where nobody passes
pub lists_nobody : (journal : List Event) (test : ℕ → Bool) (many : ℕ)
    → ((task : ℕ) → task < many → is_terminated journal task ≡ false → test task ≡ false) → ListsFirst journal [] test many
lists_nobody journal test many none = record {
  few = omega arith;
  below = λ i d less. absurd (omega (arith, less));
  tells = λ task less live. sym (none task less live);
}

unlisted : (tasks : List TaskNo) (many : ℕ) → ((i : ℕ) (d : TaskNo) → i < length tasks → (get_or tasks i d).0 < many) → lists_task many tasks ≡ false
unlisted [] many below = refl
unlisted (t ∷ rest) many below =
    rw (ne_eqb t.0 many (λ same. absurd (omega (arith, below 0 t (omega arith), same))))
    (unlisted rest many (λ i d less. below (suc i) d (omega (arith, less))))

-- one more task is listed
pub lists_more : (journal : List Event) (tasks : List TaskNo) (test : ℕ → Bool) (many : ℕ) (new : TaskNo) → new.0 ≡ many → ListsFirst journal tasks test many
    → (is_terminated journal many ≡ false → true ≡ test many) → ListsFirst journal (tasks ++ new ∷ []) test (many + 1)
lists_more journal tasks test many new is so_far passes = record {
  few = omega (arith, longer, so_far.few);
  below = λ i d less.
      elim (cases_lt i (length tasks)) [
        | inl old ↦ rw (get_or_append_left tasks (new ∷ []) d i old) (omega (arith, so_far.below i d old))
        | inr last ↦
            let at : i ≡ length tasks = omega (arith, last, less, longer) in
            rw (at, get_or-append_seam tasks new [] d) (omega (arith, is))
      ];
  tells = λ task less live.
      let both : lists_task task (tasks ++ new ∷ []) ≡ (lists_task task tasks || lists_task task (new ∷ [])) =
      list_any-append (λ (t : TaskNo). eqb t.0 task) tasks (new ∷ []) in
      elim (cases_eq task many) [
        | inl same ↦
            both
            ∙ ap (λ (b : Bool). b || lists_task task (new ∷ [])) (ap (λ n. lists_task n tasks) same ∙ unlisted tasks many so_far.below)
            ∙ ap (λ (b : Bool). b || false) (eq-eqb new.0 task (is ∙ sym same))
            ∙ passes (subst (λ n. is_terminated journal n ≡ false) same live)
            ∙ ap test (sym same)
        | inr differs ↦
            both
            ∙ ap (λ (b : Bool). lists_task task tasks || (b || false)) (ne_eqb new.0 task (λ back. differs (sym back ∙ is)))
            ∙ or-false (lists_task task tasks)
            ∙ so_far.tells task (omega (arith, less, differs)) live
      ];
}
  where
    longer : length (tasks ++ new ∷ []) ≡ length tasks + 1
    longer = length-append tasks (new ∷ [])

-- one more task is passed over
pub lists_past : (journal : List Event) (tasks : List TaskNo) (test : ℕ → Bool) (many : ℕ) → ListsFirst journal tasks test many
    → (is_terminated journal many ≡ false → false ≡ test many) → ListsFirst journal tasks test (many + 1)
lists_past journal tasks test many so_far fails = record {
  few = omega (arith, so_far.few);
  below = λ i d less. omega (arith, so_far.below i d less);
  tells = λ task less live.
      elim (cases_eq task many) [
        | inl same ↦
            ap (λ n. lists_task n tasks) same
            ∙ unlisted tasks many so_far.below
            ∙ fails (subst (λ n. is_terminated journal n ≡ false) same live)
            ∙ ap test (sym same)
        | inr differs ↦ so_far.tells task (omega (arith, less, differs)) live
      ];
}

pub lists_all : (journal : List Event) (tasks : List TaskNo) (test : ℕ → Bool) (many : ℕ) → ListsFirst journal tasks test many → many ≡ task_count journal
    → ListsLive journal tasks test
lists_all journal tasks test many so_far whole = record {
  exist = λ i d less. omega (arith, so_far.below i d less, whole);
  tells = λ task below live. so_far.tells task (omega (arith, below, whole)) live;
}
