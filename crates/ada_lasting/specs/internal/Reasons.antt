-- A reason of the present journal, told of the journal without an end.
use Rattle.std.specs.Prelude.{Option, Some}
use Rattle.std.specs.Option.{option_map}
use Rattle.ada_waiting.specs.declared.reasons.Reason.{Reason}
use Rattle.ada_waiting.specs.declared.reasons.Reason.TheVariants.{NotStarted, Activating, Queued, InRendezvous, Waiting, Delayed, Leaving, Completed}
use Rattle.ada_lasting.specs.Naming.{Naming}
use Rattle.ada_lasting.specs.internal.NamesBack.{lasting_of}

-- the same reason, at the lasting position of its position
unfoldable pub lasting_reason : Naming → Reason → Option Reason
lasting_reason names NotStarted = Some NotStarted
lasting_reason names (Activating start) = option_map Activating (lasting_of names start)
lasting_reason names (Queued call) = option_map Queued (lasting_of names call)
lasting_reason names (InRendezvous call) = option_map InRendezvous (lasting_of names call)
lasting_reason names (Waiting wait) = option_map Waiting (lasting_of names wait)
lasting_reason names (Delayed pause) = option_map Delayed (lasting_of names pause)
lasting_reason names (Leaving close) = option_map Leaving (lasting_of names close)
lasting_reason names Completed = Some Completed
