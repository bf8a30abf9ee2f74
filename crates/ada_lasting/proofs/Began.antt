-- Who began to run and who was terminated by the last request, in names that last.
use Rattle.std.proofs.Common.{◌≡◌, ℕ, zero, suc, ◌<◌, Bool, true, false, not, ◌&&◌, Option, Some, None, List, [], ◌∷◌, length, reverse}
use Rattle.std.proofs.Common.{refl, sym, ap, ◌∙◌, inl, inr, arith}
use Rattle.std.specs.Prelude.{◌==◌, nat_le}
use Rattle.std.specs.Bool.{then_some}
use Rattle.std.specs.Option.{option_map, option_and_then}
use Rattle.std.proofs.lemmas.Bool.{and_parts, and_from, not-true, not_from_false, eqb-true, eq-eqb, ltb-true, lt-ltb, true≢false}
use Rattle.std.proofs.lemmas.List.{length-reverse}
use Rattle.ada_events.specs.declared.event.Event.{Event}
use Rattle.ada_events.specs.Search.{first_below}
use Rattle.ada_events.specs.Tasks.{task_count}
use Rattle.ada_events.specs.Phases.{is_running, is_terminated}
use Rattle.ada_laws.proofs.asking.Accepting.{running_live}
use Rattle.ada_laws.proofs.searching.Searching.{then_some-some}
use Rattle.ada_standing.specs.Renaming.{Renaming}
use Rattle.ada_standing.specs.StandsIn.{StandsIn, is_live}
use Rattle.ada_standing.proofs.alike.Searches.{given_below, below_bound, below_from, first_below-is, search_alike}
use Rattle.ada_standing.proofs.alike.Pairs.{live_from, active_parts}
use Rattle.ada_standing.proofs.alike.Phases.{running_alike}
use Rattle.ada_waiting.specs.Runnable.{before_last, began_to_run, first_runnable}
use Rattle.ada_lasting.specs.Naming.{renaming_of}
use Rattle.ada_lasting.specs.internal.NamesBack.{named_by}
use Rattle.ada_lasting.specs.Following.{Long, Follows, before_shown}
use Rattle.ada_lasting.specs.LastRequest.{first_since, first_began, first_ended}
use Rattle.ada_lasting.specs.Waiting.{DivideAlike}
use Rattle.ada_lasting.specs.internal.Awaiting.{first_there}
use Rattle.ada_lasting.specs.internal.Present.{IsPresent}
use Rattle.ada_lasting.proofs.Dividing.{divide_alike, named_back}

-- the task itself, if it has the number or more, and something is so of it that wasn't so before
abbrev newly_from : (List Event → ℕ → Bool) → List Event → List Event → ℕ → ℕ → Option ℕ
newly_from is_so before journal from task = then_some (nat_le from task && (is_so journal task && not (is_so before task))) task

record IsNewly (is_so : List Event → ℕ → Bool) (before journal : List Event) (from task found : ℕ) : Type 0 where
  same : task ≡ found
  exists : task < task_count journal
  above : nat_le from task ≡ true
  so : is_so journal task ≡ true
  otherwise : is_so before task ≡ false

newly_parts : (is_so : List Event → ℕ → Bool) (before journal : List Event) (from task found : ℕ)
    → given_below (newly_from is_so before journal from) (task_count journal) task ≡ Some found
    → IsNewly is_so before journal from task found
newly_parts is_so before journal from task found gives =
    let bound = below_bound (newly_from is_so before journal from) (task_count journal) task found gives in
    let newly : Bool = is_so journal task && not (is_so before task) in
    let passes = then_some-some (nat_le from task && newly) task found bound.1 in
    let both = and_parts (nat_le from task) newly passes.0 in
    let so = and_parts (is_so journal task) (not (is_so before task)) both.1 in
    record { same = passes.1; exists = bound.0; above = both.0; so = so.0; otherwise = not-true (is_so before task) so.1 }

newly_found : (is_so : List Event → ℕ → Bool) (before journal : List Event) (from task : ℕ) → task < task_count journal → nat_le from task ≡ true
    → is_so journal task ≡ true → is_so before task ≡ false
    → given_below (newly_from is_so before journal from) (task_count journal) task ≡ Some task
newly_found is_so before journal from task below above so otherwise =
    below_from (newly_from is_so before journal from) (task_count journal) task task below
    (ap (λ b. then_some b task)
    (and_from (nat_le from task) (is_so journal task && not (is_so before task)) above
    (and_from (is_so journal task) (not (is_so before task)) so (not_from_false (is_so before task) otherwise))))

-- something is so of tasks that have names alike, and was before; and of whom it is so and wasn't, he has a name
record AreAlike (is_so : List Event → ℕ → Bool) (before old before_too new : List Event) (names : Renaming) : Type 0 where
  now : (u v : ℕ) → names.task u ≡ Some v → is_so new v ≡ is_so old u
  was : (u v : ℕ) → names.task u ≡ Some v → is_so before_too v ≡ is_so before u
  named : (u : ℕ) → u < task_count old → is_so old u ≡ true → is_so before u ≡ false → (v : ℕ) × (names.task u ≡ Some v)
  others : (v : ℕ) → v < task_count new → is_so new v ≡ true → is_so before_too v ≡ false → (u : ℕ) × (names.task u ≡ Some v)

-- the first ones, in two journals of which the second stands in for the first
first_alike : (is_so : List Event → ℕ → Bool) (before old before_too new : List Event) (names : Renaming) (from there : ℕ) → StandsIn old new names
    → AreAlike is_so before old before_too new names → DivideAlike names from there
    → option_map names.task (first_since is_so before old from) ≡ option_map Some (first_since is_so before_too new there)
first_alike is_so before old before_too new names from there stands alike divide =
    search_alike names.task names.task (given_below (newly_from is_so before old from) (task_count old))
    (given_below (newly_from is_so before_too new there) (task_count new)) (first_since is_so before old from) (first_since is_so before_too new there)
    (record {
      forth = λ t x gives.
          let newly = newly_parts is_so before old from t x gives in
          let (w, named) = alike.named t newly.exists newly.so newly.otherwise in
          let exists = ltb-true w (task_count new) (stands.same t w named).exists in (
            w,
            w,
            named,
            newly_found is_so before_too new there w exists (divide t w named ∙ newly.above) (alike.now t w named ∙ newly.so)
                (alike.was t w named ∙ newly.otherwise),
            sym (ap names.task newly.same) ∙ named,
          );
      back = λ w y gives.
          let newly = newly_parts is_so before_too new there w y gives in
          let (t, named) = alike.others w newly.exists newly.so newly.otherwise in
          let existed = ltb-true t (task_count old) (stands.same t w named).existed in (
            t,
            t,
            named,
            newly_found is_so before old from t existed (sym (divide t w named) ∙ newly.above) (sym (alike.now t w named) ∙ newly.so)
                (sym (alike.was t w named) ∙ newly.otherwise),
          );
      rises = λ s t a b x y one other first second less. stands.tasks.rising s t a b first second less;
    })
    (first_below-is (newly_from is_so before old from) (task_count old)) (first_below-is (newly_from is_so before_too new there) (task_count new))

-- who runs has a name, and stands for somebody

runs_live : (journal : List Event) (task : ℕ) → task < task_count journal → is_running journal task ≡ true → is_live journal task ≡ true
runs_live journal task exists runs = live_from journal task exists (active_parts journal task (running_live journal task runs)).1

ran_alike : (before old before_too new : List Event) (names : Renaming) → StandsIn old new names
    → ((u v : ℕ) → names.task u ≡ Some v → is_running before_too v ≡ is_running before u) → AreAlike is_running before old before_too new names
ran_alike before old before_too new names stands ran = record {
  now = λ u v named. sym (running_alike old new names u v stands named);
  was = ran;
  named = λ u exists runs rested. stands.tasks.live u (runs_live old u exists runs);
  others = λ v exists runs rested. stands.tasks.others v (runs_live new v exists runs);
}

-- nothing is found where nothing is given
none_below : (give : ℕ → Option ℕ) (n : ℕ) → ((k : ℕ) → give k ≡ None) → None ≡ first_below give n
unfolding first_below
none_below give zero none = refl
none_below give (suc n) none = rw (sym (none_below give n none), none n) refl

never_begins : (above runs : Bool) (task : ℕ) → then_some (above && (runs && not runs)) task ≡ None
never_begins true true task = refl
never_begins true false task = refl
never_begins false runs task = refl

-- the present journal's own answer
present_is : (journal : List Event) (from : ℕ) → first_runnable journal from ≡ first_since is_running (before_last journal) journal from
unfolding first_runnable began_to_run
present_is journal from = refl

-- whether the list of the events that are shown is empty

pub none_shown : (items group : List Event) → reverse items ≡ group → (length items == 0) ≡ true → group ≡ []
none_shown [] group is none = sym is
none_shown (event ∷ rest) group is none =
    let zero_is : suc (length rest) ≡ 0 = eqb-true (suc (length rest)) 0 none in
    absurd (omega (arith, zero_is))

pub some_shown : (items group : List Event) → reverse items ≡ group → (length items == 0) ≡ false → group ≡ [] → ⊥
some_shown items group is some nothing =
    let zero_is : length items ≡ 0 = sym (length-reverse items) ∙ (ap length is ∙ ap length nothing) in
    true≢false (sym (eq-eqb (length items) 0 zero_is) ∙ some)

-- if no events are shown, nothing is so that wasn't so before
pub nobody_newly : (is_so : List Event → ℕ → Bool) (journal : List Event) (kernel : Long) (from : ℕ) → kernel.group ≡ []
    → None ≡ first_since is_so (before_shown journal kernel) journal from
nobody_newly is_so journal kernel from nothing =
    none_below (newly_from is_so (before_shown journal kernel) journal from) (task_count journal)
    (λ task. rw nothing (never_begins (nat_le from task) (is_so journal task) task))

module _ (journal : List Event) (kernel : Long) (follows : Follows journal kernel) (is_present : IsPresent kernel) (some : kernel.group ≡ [] → ⊥)
    (from : ℕ) where
  abbrev there : ℕ
  there = first_there kernel.names.tasks from (task_count kernel.present)

  -- and else the first of the present journal stands for the first of the journal that is followed
  back_again : (is_so : List Event → ℕ → Bool) (before : List Event)
      → AreAlike is_so (before_shown journal kernel) journal before kernel.present (renaming_of kernel.names)
      → option_and_then (named_by kernel.names.tasks) (first_since is_so before kernel.present there)
      ≡ first_since is_so (before_shown journal kernel) journal from
  back_again is_so before alike =
      named_back journal kernel follows is_present (first_since is_so (before_shown journal kernel) journal from)
      (first_since is_so before kernel.present there)
      (first_alike is_so (before_shown journal kernel) journal before kernel.present (renaming_of kernel.names) from there follows.stands alike
      (divide_alike journal kernel follows is_present from))

  pub began_here : option_and_then (named_by kernel.names.tasks)
      (first_runnable kernel.present (first_there kernel.names.tasks from (task_count kernel.present)))
      ≡ first_began journal kernel from
  began_here = elim follows.before [
    | inl nothing ↦ absurd (some nothing)
    | inr agreed ↦
        ap (option_and_then (named_by kernel.names.tasks)) (present_is kernel.present there)
        ∙ back_again is_running (before_last kernel.present)
        (ran_alike (before_shown journal kernel) journal (before_last kernel.present) kernel.present (renaming_of kernel.names) follows.stands
        (λ u v named. ap (λ (j : List Event). is_running j v) agreed.last ∙ agreed.running u v named))
  ]

  pub ended_here : option_and_then (named_by kernel.names.tasks)
      (first_since is_terminated (before_shown kernel.present kernel) kernel.present
      (first_there kernel.names.tasks from (task_count kernel.present)))
      ≡ first_ended journal kernel from
  ended_here = elim follows.before [
    | inl nothing ↦ absurd (some nothing)
    | inr agreed ↦
        back_again is_terminated (before_shown kernel.present kernel)
        (record {
          now = λ u v named. (follows.stands.same u v named).terminated;
          was = agreed.terminated;
          named = λ u exists ended still. agreed.named u (lt-ltb u (task_count journal) exists) still;
          others = λ v exists ended still. agreed.others v (lt-ltb v (task_count kernel.present) exists) still;
        })
  ]
