-- The first task for which a task waits, from one number on.
use Rattle.std.proofs.Common.{◌≡◌, ℕ, ◌<◌, true, ◌&&◌, nat_le, Option, Some, List, refl, sym, ap, ◌∙◌}
use Rattle.std.specs.Bool.{then_some}
use Rattle.std.specs.Option.{option_map}
use Rattle.std.proofs.lemmas.Bool.{and_parts, and_from}
use Rattle.ada_events.specs.declared.event.Event.{Event}
use Rattle.ada_events.specs.Tasks.{task_count}
use Rattle.ada_events.specs.Lawful.{IsSettled}
use Rattle.ada_laws.proofs.searching.Searching.{then_some-some}
use Rattle.ada_standing.specs.Renaming.{Renaming}
use Rattle.ada_standing.specs.StandsIn.{StandsIn, is_live}
use Rattle.ada_standing.proofs.alike.Searches.{given_below, below_bound, below_from, first_below-is, search_alike}
use Rattle.ada_standing.proofs.alike.Pairs.{live_from, live_parts, live_alike, live_back}
use Rattle.ada_waiting.specs.Awaited.{waits_for, first_awaited}
use Rattle.ada_waiting.proofs.Awaiting.{only_live_tasks_are_awaited}
use Rattle.ada_lasting.specs.Waiting.{DivideAlike}

-- the task itself, if it has the number or more and is awaited
abbrev awaited_from : List Event → ℕ → ℕ → ℕ → Option ℕ
awaited_from journal task from other = then_some (nat_le from other && waits_for journal task other) other

record IsAwaited (journal : List Event) (task from other found : ℕ) : Type 0 where
  same : other ≡ found
  live : is_live journal other ≡ true
  above : nat_le from other ≡ true
  waits : waits_for journal task other ≡ true

awaited_parts : (journal : List Event) (task from other found : ℕ) → IsSettled journal
    → given_below (awaited_from journal task from) (task_count journal) other ≡ Some found → IsAwaited journal task from other found
awaited_parts journal task from other found settled gives =
    let bound = below_bound (awaited_from journal task from) (task_count journal) other found gives in
    let passes = then_some-some (nat_le from other && waits_for journal task other) other found bound.1 in
    let both = and_parts (nat_le from other) (waits_for journal task other) passes.0 in
    record {
      same = passes.1;
      live = live_from journal other bound.0 (only_live_tasks_are_awaited journal task other settled both.1);
      above = both.0;
      waits = both.1;
    }

awaited_found : (journal : List Event) (task from other : ℕ) → other < task_count journal → nat_le from other ≡ true → waits_for journal task other ≡ true
    → given_below (awaited_from journal task from) (task_count journal) other ≡ Some other
awaited_found journal task from other below above waits =
    below_from (awaited_from journal task from) (task_count journal) other other below
    (rw (and_from (nat_le from other) (waits_for journal task other) above waits) refl)

pub first_alike : (old new : List Event) (names : Renaming) (u v from there : ℕ) → StandsIn old new names → IsSettled old → IsSettled new
    → ((t w : ℕ) → names.task t ≡ Some w → waits_for new v w ≡ waits_for old u t) → DivideAlike names from there
    → option_map names.task (first_awaited old u from) ≡ option_map Some (first_awaited new v there)
unfolding first_awaited
first_alike old new names u v from there stands settled also alike divide =
    search_alike names.task names.task (given_below (awaited_from old u from) (task_count old))
    (given_below (awaited_from new v there) (task_count new)) (first_awaited old u from) (first_awaited new v there)
    (record {
      forth = λ t x gives.
          let found = awaited_parts old u from t x settled gives in
          let (w, named) = stands.tasks.live t found.live in
          let below = (live_parts new w (live_alike old new names t w stands named ∙ found.live)).0 in (
            w,
            w,
            named,
            awaited_found new v there w below (divide t w named ∙ found.above) (alike t w named ∙ found.waits),
            sym (ap names.task found.same) ∙ named,
          );
      back = λ w y gives.
          let found = awaited_parts new v there w y also gives in
          let (t, named, live) = live_back old new names w stands found.live in (
            t,
            t,
            named,
            awaited_found old u from t (live_parts old t live).0 (sym (divide t w named) ∙ found.above) (sym (alike t w named) ∙ found.waits),
          );
      rises = λ s t a b x y one other first second less. stands.tasks.rising s t a b first second less;
    })
    (first_below-is (awaited_from old u from) (task_count old)) (first_below-is (awaited_from new v there) (task_count new))
