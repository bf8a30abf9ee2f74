-- The tasks that aren't terminated are kept after one more event, in the order of their numbers; they exist, and have the same entries.
use Rattle.std.proofs.Common.{◌≡◌, ℕ, ◌<◌, ◌≤◌, true, Option, Some, None, List, [], ◌∷◌, refl, sym, ap, ◌∙◌, arith, ◌⊎◌, inl, inr}
use Rattle.std.specs.Option.{option_len}
use Rattle.std.proofs.lemmas.Bool.{cases_eq, lt-ltb}
use Rattle.std.proofs.lemmas.Option.{none-some}
use Rattle.ada_events.specs.declared.event.Event.{Event}
use Rattle.ada_events.specs.Says.{Creation, creation_in}
use Rattle.ada_events.specs.Tasks.{task_count, has_task, creation_of, families_of}
use Rattle.ada_laws.proofs.searching.Growing.{task_count-more}
use Rattle.ada_standing.specs.Renaming.{Renaming}
use Rattle.ada_standing.specs.internal.Next.{next_names}
use Rattle.ada_standing.specs.StandsIn.{KeepsTasks, is_live}
use Rattle.ada_standing.proofs.alike.Pairs.{live_from, live_parts}
use Rattle.ada_standing.proofs.alike.Kinds.{AreBoth}
use Rattle.ada_standing.proofs.kept.Saying.{creation_said}
use Rattle.ada_standing.proofs.kept.Naming.{AreNext, like, next_cases, task_later, made_named, creation_older, creation_newest}
use Rattle.ada_standing.proofs.kept.Terminating.{unterminated_before}

-- a task existed before the event, or the event makes it
made_or_not : (event : Event) (before : List Event) (u : ℕ) (o : Option Creation) → creation_in event ≡ o → u < task_count (event ∷ before)
    → (u < task_count before) ⊎ ((c : Creation) × (creation_in event ≡ Some c) × (u ≡ task_count before))
unfolding task_count
made_or_not event before u None says below = inl (omega (arith, ap option_len says))
made_or_not event before u (Some c) says below =
    elim (cases_eq u (task_count before)) [
      | inl same ↦ inr (c, says, same)
      | inr other ↦ inl (omega (arith, ap option_len says))
    ]

pub exists_cases : (event : Event) (before : List Event) (u : ℕ) → u < task_count (event ∷ before)
    → (u < task_count before) ⊎ ((c : Creation) × (creation_in event ≡ Some c) × (u ≡ task_count before))
exists_cases event before u below = made_or_not event before u (creation_in event) refl below

pub made_exists : (event : Event) (before : List Event) (u : ℕ) (c : Creation) → creation_in event ≡ Some c → u ≡ task_count before
    → u < task_count (event ∷ before)
unfolding task_count
made_exists event before u c says newest = omega (arith, ap option_len says, newest)

live_before : (event : Event) (before : List Event) (u : ℕ) → is_live (event ∷ before) u ≡ true → u < task_count before → is_live before u ≡ true
live_before event before u live below = live_from before u below (unterminated_before event before u (live_parts (event ∷ before) u live).1)

-- the main program has no creation, and every other task has one
pub main_or_made : (journal : List Event) (u : ℕ) → u < task_count journal → (u ≡ 0) ⊎ ((c : Creation) × (creation_of journal u ≡ Some c))
unfolding task_count
main_or_made [] u below = inl (omega (arith, below))
main_or_made (event ∷ before) u below =
    elim (exists_cases event before u below) [
      | inr made ↦ inr (made.0, creation_newest event before u made.0 made.1 made.2)
      | inl older ↦
          elim (main_or_made before u older) [
            | inl main ↦ inl main
            | inr (c, is) ↦ inr (c, creation_older event before u older ∙ is)
          ]
    ]

module _ (old new : List Event) (names : Renaming) (event other : Event) (next : AreNext old new names event other) where
  live_kept : (u : ℕ) → is_live (event ∷ old) u ≡ true → (v : ℕ) × ((next_names old new event names).task u ≡ Some v)
  live_kept u live =
      elim (exists_cases event old u (live_parts (event ∷ old) u live).0) [
        | inl below ↦
            let (v, named) = next.stands.tasks.live u (live_before event old u live below) in
            (v, task_later old new names event other next u v named)
        | inr (c, says, newest) ↦
            (task_count new, ap (next_names old new event names).task newest ∙ made_named old new names event other next c says)
      ]

  others_kept : (v : ℕ) → is_live (other ∷ new) v ≡ true → (u : ℕ) × ((next_names old new event names).task u ≡ Some v)
  others_kept v live =
      elim (exists_cases other new v (live_parts (other ∷ new) v live).0) [
        | inl below ↦
            let (u, named) = next.stands.tasks.others v (live_before other new v live below) in
            (u, task_later old new names event other next u v named)
        | inr (d, has, newest) ↦
            elim (creation_said names event other (like old new names event other next)) [
              | AreBoth.both c b says says_too same ↦ (task_count old, made_named old new names event other next c says ∙ ap Some (sym newest))
              | AreBoth.neither none none_too ↦ absurd (none-some d (sym none_too ∙ has))
            ]
      ]

  rising_kept : (s t u v : ℕ) → (next_names old new event names).task s ≡ Some u → (next_names old new event names).task t ≡ Some v → s < t → u < v
  rising_kept s t u v first second less =
      elim (next_cases old new names event other next s u first) [
        | inl was ↦
            elim (next_cases old new names event other next t v second) [
              | inl also ↦ next.stands.tasks.rising s t u v was.named also.named less
              | inr made ↦ omega (arith, was.below_too, made.newest_too)
            ]
        | inr makes ↦
            elim (next_cases old new names event other next t v second) [
              | inl also ↦ absurd (omega (arith, less, also.below, makes.newest))
              | inr made ↦ absurd (omega (arith, less, made.newest, makes.newest))
            ]
      ]

  pub tasks_kept : KeepsTasks (event ∷ old) (other ∷ new) (next_names old new event names)
  tasks_kept = record {
    main = task_later old new names event other next 0 0 next.stands.tasks.main;
    live = live_kept;
    rising = rising_kept;
    others = others_kept;
  }

  pub existed_kept : (u v : ℕ) → (next_names old new event names).task u ≡ Some v
      → (has_task (event ∷ old) u ≡ true) × (has_task (other ∷ new) v ≡ true)
  existed_kept u v named =
      let more : task_count old ≤ task_count (event ∷ old) = task_count-more event old in
      let more_too : task_count new ≤ task_count (other ∷ new) = task_count-more other new in
      elim (next_cases old new names event other next u v named) [
        | inl was ↦ (
          lt-ltb u (task_count (event ∷ old)) (omega (arith, was.below)),
          lt-ltb v (task_count (other ∷ new)) (omega (arith, was.below_too)),
        )
        | inr made ↦ (
          lt-ltb u (task_count (event ∷ old)) (made_exists event old u made.creation made.says made.newest),
          lt-ltb v (task_count (other ∷ new)) (made_exists other new v made.stand made.says_too made.newest_too),
        )
      ]

  pub families_kept : (u v : ℕ) → (next_names old new event names).task u ≡ Some v → families_of (other ∷ new) v ≡ families_of (event ∷ old) u
  unfolding families_of
  families_kept u v named =
      elim (next_cases old new names event other next u v named) [
        | inl was ↦ rw (creation_older other new v was.below_too, creation_older event old u was.below) (next.stands.same u v was.named).families
        | inr made ↦
            rw (
              creation_newest other new v made.stand made.says_too made.newest_too,
              creation_newest event old u made.creation made.says made.newest,
            ) made.same.families
      ]
