-- Tables that stand for a journal.
use Rattle.std.proofs.Common.{◌≡◌, ℕ, zero, suc, ◌<◌, [], ◌∷◌, refl, arith}
use Rattle.ada_events.specs.declared.names.Entry.{Entry}
use Rattle.ada_events.specs.declared.names.Master.{Master}
use Rattle.ada_events.specs.Search.{any_event, gathered}
use Rattle.ada_events.specs.Tasks.{task_count, creation_of, families_of}
use Rattle.ada_events.specs.Masters.{depends_on}
use Rattle.ada_events.specs.Phases.{is_completed, is_terminated, has_ended, is_suspended, is_started, is_running}
use Rattle.ada_events.specs.Nests.{nest}
use Rattle.ada_events.specs.Termination.{is_ready_to_quit}
use Rattle.ada_events.specs.Slots.{number_within}
use Rattle.ada_tables.specs.Dependents.{task_at, reaches, count_below, live_dependents, main_facts}
use Rattle.ada_tables.specs.Tables.{TableState, unready_dependents, HasEntry}
use Rattle.ada_tables.specs.Standing.{facts_in, live_count, unready_count, StandFor}

first_task : (task : ℕ) → task < 1 → task_at (main_facts ∷ []) task ≡ facts_in [] task
unfolding task_count creation_of families_of nest gathered is_terminated is_completed is_suspended any_event is_running is_started has_ended
first_task zero low = refl
first_task (suc task) low = absurd (omega arith)

-- the main program has no entries
no_entry : (task : ℕ) (entry : Entry) → HasEntry (main_facts ∷ []) task entry → ⊥
unfolding number_within
no_entry zero entry has = let none = has.declares in cc
no_entry (suc task) entry has = absurd (omega (arith, has.known))

first_live : (master : Master) → live_dependents (main_facts ∷ []) master ≡ live_count [] master
unfolding count_below reaches task_count is_terminated depends_on
first_live master = refl

first_unready : (master : Master) → unready_dependents (main_facts ∷ []) [] master ≡ unready_count [] master
unfolding count_below reaches task_count is_terminated depends_on is_ready_to_quit any_event
first_unready master = refl

-- tables of the main program alone stand for the empty journal
pub stand_at_first : (tables : TableState) → tables.tasks ≡ main_facts ∷ [] → tables.queues ≡ [] → StandFor tables []
unfolding task_count
stand_at_first tables tasks_are queues_are =
    rw (tasks_are, queues_are) (record {
      many = refl;
      tasks = first_task;
      queues = λ task entry has. absurd (no_entry task entry has);
      live = λ master stands. first_live master;
      unready = λ master stands. first_unready master;
    })
