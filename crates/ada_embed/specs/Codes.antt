-- Codes of what a kernel that lives on doesn't do, and of what only the other kind of kernel does.
use Rattle.std.specs.Prelude.{ℤ, pos}
use Rattle.ada_border.specs.Codes.{refusal_code}
use Rattle.ada_compact.specs.declared.failure.NotCompacted.{NotCompacted as Shortening}
use Rattle.ada_compact.specs.declared.failure.NotCompacted.TheVariants as shortening
use Rattle.ada_lasting.specs.declared.failure.NotDone.{NotDone}
use Rattle.ada_lasting.specs.declared.failure.NotDone.TheVariants.{Refused, GivenUp, NotTerminated, NotCompacted, NoMoreNames}

-- the task or the event was given up
abbrev pub given_up : ℤ
given_up = pos 108

-- the task isn't terminated, so it can't be given up
abbrev pub not_terminated : ℤ
not_terminated = pos 109

-- what lives leaves no room in which the journal could be made shorter
abbrev pub no_room : ℤ
no_room = pos 110

-- memory is wanting to make it shorter
abbrev pub not_compacted : ℤ
not_compacted = pos 111

-- the numbers of tasks or positions end
abbrev pub no_more_names : ℤ
no_more_names = pos 112

-- only a kernel that keeps everything does this
abbrev pub lives_on : ℤ
lives_on = pos 113

-- only a kernel that lives on does this
abbrev pub keeps_all : ℤ
keeps_all = pos 114

abbrev pub shortening_code : Shortening → ℤ
shortening_code shortening.OutOfMemory = not_compacted
shortening_code _ = no_room

-- the code of what wasn't done
abbrev pub lasting_code : NotDone → ℤ
lasting_code (Refused cause) = refusal_code cause
lasting_code (GivenUp task) = given_up
lasting_code (NotTerminated task) = not_terminated
lasting_code (NotCompacted why) = shortening_code why
lasting_code NoMoreNames = no_more_names
