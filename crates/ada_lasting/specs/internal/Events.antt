-- An event of the present journal, told of the journal without an end.
use Rattle.std.specs.Prelude.{ℕ, Option, [], slice_get}
use Rattle.std.specs.Option.{option_map, option_and_then}
use Rattle.ada_events.specs.declared.event.Event.{Event}
use Rattle.ada_events.specs.declared.event.Event.TheVariants.{Started, Aborted}
use Rattle.ada_events.specs.declared.names.TaskNo.{TaskNo}
use Rattle.ada_border.specs.declared.events.PlainEvent.{PlainEvent}
use Rattle.ada_border.specs.Events.{plain_of, tasks_of}
use Rattle.ada_standing.specs.Renaming.{Renaming, renamed_task, renamed_event}
use Rattle.ada_lasting.specs.Naming.{Naming}
use Rattle.ada_lasting.specs.internal.NamesBack.{named_by, lasting_of}

-- the lasting names of what is in the present journal
abbrev pub back_of : Naming → Renaming
back_of names = record { task = named_by names.tasks; position = lasting_of names }

-- the same event of what these names are, in numbers, whatever its list of tasks is
unfoldable pub lasting_event : Renaming → Event → Option PlainEvent
lasting_event back (Started by tasks) = option_map (λ b. plain_of (Started b [])) (renamed_task back by)
lasting_event back (Aborted by tasks) = option_map (λ b. plain_of (Aborted b [])) (renamed_task back by)
lasting_event back event = option_map plain_of (renamed_event back event)

-- the name of the task at a place of the event's list
abbrev pub lasting_listed : Renaming → ℕ → Event → Option ℕ
lasting_listed back place event = option_and_then (λ (t : TaskNo). back.task t.0) (slice_get (tasks_of event) place)
