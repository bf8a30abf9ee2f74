-- The creation that the plain program reads off an event, as the definitions see it.
use Rattle.ada_events.specs.Says.{Creation}
use Rattle.ada_reference.specs.declared.tasks.Making.{Making}

abbrev pub creation_seen : Making → Creation
creation_seen m = record { by = m.by.0; under = m.under; master = m.master; families = m.families.now }
