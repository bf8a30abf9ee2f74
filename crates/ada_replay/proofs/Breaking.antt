-- What was written where a replay ends before its first line.
use Rattle.std.proofs.Common.{ℕ, Option, Some, None, List, [], refl, inl}
use Rattle.std.specs.Io.KnownBytes.{Keeps}
use Rattle.ada_script.specs.declared.script.Line.{Line}
use Rattle.ada_laws.proofs.asking.GroupLaws.{empty_is_settled}
use Rattle.ada_replay.specs.declared.fault.RunFault.{RunFault}
use Rattle.ada_replay.specs.Input.{IsInputFault}
use Rattle.ada_replay.specs.Play.{Plays}
use Rattle.ada_replay.specs.Ends.{IsCutShort}
use Rattle.ada_replay.specs.Replay.{beginning, Breaks}
use Rattle.ada_replay.proofs.Playing.{lines_play}
use Rattle.ada_replay.proofs.Cuts.{appends_nothing}

pub keeps_same : (bytes : Option (List ℕ)) → Keeps bytes bytes
keeps_same None = tt
keeps_same (Some us) = refl

-- nothing of a script was written
pub nothing_played : (script : List Line) (bytes : Option (List ℕ)) → IsCutShort (Plays script (beginning script)) bytes bytes
nothing_played script bytes =
    let played = lines_play script (beginning script) (record { lawful = tt; settled = empty_is_settled }) in
    record { written = []; rest = played.text; new = played.new; prints = played.plays; appended = appends_nothing bytes }

pub input_breaks : (fault : RunFault) (input bytes : Option (List ℕ)) → IsInputFault fault → Breaks fault input bytes bytes
input_breaks fault input bytes is = inl (is, keeps_same bytes)
