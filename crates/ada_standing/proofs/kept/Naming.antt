-- One more event of two journals, the one of which stands for the other; and the names after it: what stood for something
-- still does, and a new task stands for a new one.
use Rattle.std.proofs.Common.{◌≡◌, ℕ, suc, ◌<◌, ◌≤◌, Bool, true, false, cond, ◌&&◌, Option, Some, None, List, ◌∷◌, length, refl, sym, ap, ◌∙◌, eqb}
use Rattle.std.proofs.Common.{arith}
use Rattle.std.proofs.Common.{◌⊎◌, inl, inr, ◌≢◌}
use Rattle.std.specs.Option.{is_some}
use Rattle.std.proofs.lemmas.Bool.{cases_eq, eq-eqb, ne_eqb, ltb-true}
use Rattle.std.proofs.lemmas.Option.{none-some, same_Some}
use Rattle.ada_events.specs.declared.event.Event.{Event}
use Rattle.ada_events.specs.declared.names.Master.{Master}
use Rattle.ada_events.specs.declared.names.Master.TheVariants.{Body, Block}
use Rattle.ada_events.specs.declared.outcome.Outcome.{Outcome}
use Rattle.ada_events.specs.declared.outcome.Outcome.TheVariants as outcome
use Rattle.ada_events.specs.Says.{Creation, creation_in}
use Rattle.ada_events.specs.Tasks.{task_count, creation_of}
use Rattle.ada_events.specs.Forced.{task_no}
use Rattle.ada_laws.proofs.searching.Searching.{option_map-some}
use Rattle.ada_standing.specs.Renaming.{Renaming, renamed_master, renamed_outcome, renamed_event}
use Rattle.ada_standing.specs.internal.Next.{next_names}
use Rattle.ada_standing.specs.StandsIn.{StandsIn}
use Rattle.ada_standing.proofs.alike.Orderly.{IsOrderly}
use Rattle.ada_standing.proofs.alike.Kinds.{AreBoth}
use Rattle.ada_standing.proofs.alike.Mastering.{task_one}
use Rattle.ada_standing.proofs.kept.Fitting.{Fits}
use Rattle.ada_standing.proofs.kept.Saying.{IsLike, IsSameCreation, like_of, creation_said}

-- two journals of which the second stands in for the first, and an event of each, the second the first one renamed
pub record AreNext (old new : List Event) (names : Renaming) (event other : Event) : Type 0 where
  pub stands : StandsIn old new names
  pub orderly : IsOrderly old
  pub also : IsOrderly new
  pub fits : Fits old event
  pub fits_too : Fits new other
  pub renamed : renamed_event names event ≡ Some other

-- the events make a task each, and these are the two
pub record AreMade (old new : List Event) (names : Renaming) (event other : Event) (u v : ℕ) : Type 0 where
  pub creation : Creation
  pub stand : Creation
  pub says : creation_in event ≡ Some creation
  pub says_too : creation_in other ≡ Some stand
  pub newest : u ≡ task_count old
  pub newest_too : v ≡ task_count new
  pub same : IsSameCreation names creation stand

-- the task stood for the other before
pub record AreOld (old new : List Event) (names : Renaming) (u v : ℕ) : Type 0 where
  pub named : names.task u ≡ Some v
  pub below : u < task_count old
  pub below_too : v < task_count new

none_in : (o : Option Creation) (n u : ℕ) (x y : Option ℕ) → o ≡ None → cond (is_some o && eqb u n) x y ≡ y
none_in None n u x y none = refl
none_in (Some c) n u x y none = absurd (none-some c (sym none))

some_other : (b : Bool) (n u : ℕ) (x y : Option ℕ) → u ≢ n → cond (b && eqb u n) x y ≡ y
some_other true n u x y other = rw (ne_eqb u n other) refl
some_other false n u x y other = refl

some_newest : (o : Option Creation) (c : Creation) (n u : ℕ) (x y : Option ℕ) → o ≡ Some c → u ≡ n → cond (is_some o && eqb u n) x y ≡ x
some_newest o c n u x y says same = rw (says, eq-eqb u n same) refl

-- one more event leaves the creations of older tasks as they were
pub creation_older : (event : Event) (before : List Event) (u : ℕ) → u < task_count before → creation_of (event ∷ before) u ≡ creation_of before u
unfolding creation_of
creation_older event before u below = rw (ne_eqb u (task_count before) (λ same. omega (arith, same, below))) refl

pub creation_newest : (event : Event) (before : List Event) (u : ℕ) (c : Creation) → creation_in event ≡ Some c → u ≡ task_count before
    → creation_of (event ∷ before) u ≡ Some c
unfolding creation_of
creation_newest event before u c says same = rw (eq-eqb u (task_count before) same, says) refl

-- what existed before the event has the name that it had, or none as before
pub task_before : (old new : List Event) (names : Renaming) (event : Event) (u : ℕ) → u < task_count old
    → (next_names old new event names).task u ≡ names.task u
task_before old new names event u below =
    some_other (is_some (creation_in event)) (task_count old) u (Some (task_count new)) (names.task u) (λ same. omega (arith, same, below))

pub position_before : (old new : List Event) (names : Renaming) (event : Event) (p : ℕ) → p ≤ length old
    → (next_names old new event names).position p ≡ names.position p
position_before old new names event p within = rw (ne_eqb p (suc (length old)) (λ same. omega (arith, same, within))) refl

module _ (old new : List Event) (names : Renaming) (event other : Event) (next : AreNext old new names event other) where
  pub like : IsLike names event other
  like = like_of names event other next.renamed

  pub one_task : (s t v : ℕ) → names.task s ≡ Some v → names.task t ≡ Some v → s ≡ t
  one_task s t v first second = task_one old new names s t v next.stands.tasks first second

  pub old_task : (u v : ℕ) → names.task u ≡ Some v → AreOld old new names u v
  old_task u v named =
      let same = next.stands.same u v named in
      record { named = named; below = ltb-true u (task_count old) same.existed; below_too = ltb-true v (task_count new) same.exists }

  -- what stood for a task, a position, a master or an outcome still does
  pub task_later : (u v : ℕ) → names.task u ≡ Some v → (next_names old new event names).task u ≡ Some v
  task_later u v named = task_before old new names event u (old_task u v named).below ∙ named

  pub position_later : (p q : ℕ) → names.position p ≡ Some q → (next_names old new event names).position p ≡ Some q
  position_later p q placed = position_before old new names event p (next.stands.positions.within p q placed).0 ∙ placed

  pub master_later : (x y : Master) → renamed_master names x ≡ Some y → renamed_master (next_names old new event names) x ≡ Some y
  unfolding renamed_master
  master_later (Body t) y is =
      let (v, named, same) = option_map-some (λ v. Body (task_no v)) (names.task t.0) y is in
      rw (task_later t.0 v named) (ap Some same)
  master_later (Block p) y is =
      let (q, placed, same) = option_map-some Block (names.position p) y is in
      rw (position_later p q placed) (ap Some same)

  pub outcome_later : (x y : Outcome) → renamed_outcome names x ≡ Some y → renamed_outcome (next_names old new event names) x ≡ Some y
  unfolding renamed_outcome
  outcome_later (outcome.Accepted call choice) y is =
      let (q, placed, same) = option_map-some (λ c. outcome.Accepted c choice) (names.position call) y is in
      rw (position_later call q placed) (ap Some same)
  outcome_later outcome.Dead y is = is
  outcome_later _ y is = is

  -- who stands for whom afterwards: who did before, or the new task for the new one
  pub next_cases : (u v : ℕ) → (next_names old new event names).task u ≡ Some v → AreOld old new names u v ⊎ AreMade old new names event other u v
  next_cases u v named =
      elim (creation_said names event other like) [
        | AreBoth.neither none none_too ↦
            inl (old_task u v (sym (none_in (creation_in event) (task_count old) u (Some (task_count new)) (names.task u) none) ∙ named))
        | AreBoth.both c d says says_too same ↦
            elim (cases_eq u (task_count old)) [
              | inl newest ↦
                  inr (record {
                    creation = c;
                    stand = d;
                    says = says;
                    says_too = says_too;
                    newest = newest;
                    newest_too = sym (same_Some (task_count new) v
                        (sym (some_newest (creation_in event) c (task_count old) u (Some (task_count new)) (names.task u) says newest) ∙ named));
                    same = same;
                  })
              | inr older ↦
                  inl (old_task u v
                  (sym (some_other (is_some (creation_in event)) (task_count old) u (Some (task_count new)) (names.task u) older) ∙ named))
            ]
      ]

  -- the new task, where there is one
  pub made_named : (c : Creation) → creation_in event ≡ Some c → (next_names old new event names).task (task_count old) ≡ Some (task_count new)
  made_named c says = some_newest (creation_in event) c (task_count old) (task_count old) (Some (task_count new)) (names.task (task_count old)) says refl
