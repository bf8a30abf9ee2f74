use Rattle.std.proofs.Common.{◌≡◌, ap, refl, List, [], length}
use Rattle.ada_events.specs.declared.names.Master.TheVariants.{Body}
use Rattle.ada_events.specs.Limits.{slot_count}
use Rattle.ada_tables.specs.Queues.{QueuedCall}
use Rattle.ada_records.proofs.following.Made.{made_open, made_tasks, made_entries}
use Rattle.ada_kernel_tests.proofs.First.{first_event, first_lawful, main}
use Rattle.ada_kernel_tests.proofs.creation.the_first_creation_is_followed.Goals as goal

no_slots : (queues : List (List QueuedCall)) → queues ≡ [] → length queues ≡ slot_count []
unfolding slot_count
no_slots queues empty = ap (λ (queues : List (List QueuedCall)). length queues) empty

pub follow_creation-followed-requires-clause-few : goal.follow_creation-followed-requires-clause-few
follow_creation-followed-requires-clause-few g c =
    made_tasks (first_event _) [] _ c.in_ok-tables.tables (Body main) _ (first_lawful [] _ refl c.from_slice-families.ensures)
    (record { by = main; under = Body main; is = refl }) c.in_ok-tables.ensures.stands (no_slots _ c.in_ok-tables.ensures.queues)

pub follow_creation-followed-requires-clause-slots : goal.follow_creation-followed-requires-clause-slots
follow_creation-followed-requires-clause-slots g c =
    made_entries (first_event _) [] _ c.in_ok-tables.tables (Body main) _ (first_lawful [] _ refl c.from_slice-families.ensures)
    (record { by = main; under = Body main; is = refl }) c.in_ok-tables.ensures.stands (no_slots _ c.in_ok-tables.ensures.queues)

pub follow_creation-followed-requires-clause-master : goal.follow_creation-followed-requires-clause-master
follow_creation-followed-requires-clause-master g c =
    made_open (first_event _) [] _ c.in_ok-tables.tables (Body main) _ (first_lawful [] _ refl c.from_slice-families.ensures)
    (record { by = main; under = Body main; is = refl }) c.in_ok-tables.ensures.stands (no_slots _ c.in_ok-tables.ensures.queues)
