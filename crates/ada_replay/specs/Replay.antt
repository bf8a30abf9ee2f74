-- What a replay promises.
use Rattle.std.specs.Prelude.{◌≡◌, ◌⊎◌, ℕ, true, false, Option, List, [], IfSome}
use Rattle.std.specs.Io.KnownBytes.{Keeps}
use Rattle.ada_events.specs.declared.event.Event.{Event}
use Rattle.ada_events.specs.Attributes.{is_finished}
use Rattle.ada_statements.specs.declared.fault.ScriptFault.{ScriptFault}
use Rattle.ada_statements.specs.declared.fault.Cause.TheVariants.{OutOfMemory}
use Rattle.ada_script.specs.declared.script.Line.{Line}
use Rattle.ada_script.specs.Script.{scope_of, IsScript, IsFirstFaultWithin, most_lines}
use Rattle.ada_replay.specs.declared.fault.Ending.{Ending}
use Rattle.ada_replay.specs.declared.fault.Ending.TheVariants.{Finished, Unfinished}
use Rattle.ada_replay.specs.declared.fault.RunFault.{RunFault}
use Rattle.ada_replay.specs.declared.fault.RunFault.TheVariants.{Script, Memory, Write}
use Rattle.ada_replay.specs.Input.{text_of, IsInputFault}
use Rattle.ada_replay.specs.Play.{PlayState, Plays}
use Rattle.ada_replay.specs.Ends.{IsWritten, IsCutShort}

-- the state before a script's first line: an empty journal, and the main program's name alone bound
abbrev pub beginning : List Line → PlayState
beginning script = record { journal = []; names = scope_of script }

-- the ending says whether the main program is terminated
abbrev pub Tells : Ending → List Event → Type 0
Tells Finished journal = is_finished journal ≡ true
Tells Unfinished journal = is_finished journal ≡ false

-- a script's play was written
pub record IsScriptReplayed (ending : Ending) (script : List Line) (before after : Option (List ℕ)) : Type 0 where
  pub new : PlayState
  pub written : IsWritten (Plays script (beginning script)) before after new
  pub tells : Tells ending new.journal

-- the text is a script, and its play was written
pub record IsReplayed (ending : Ending) (text : List ℕ) (before after : Option (List ℕ)) : Type 0 where
  pub script : List Line
  pub reads : IsScript text script
  pub replayed : IsScriptReplayed ending script before after

-- the text is a script, and a beginning of its play was written
pub record IsBrokenOff (text : List ℕ) (before after : Option (List ℕ)) : Type 0 where
  pub script : List Line
  pub reads : IsScript text script
  pub cut : IsCutShort (Plays script (beginning script)) before after

-- a fault that names the first line of a text that isn't acceptable, where so many lines are allowed, and isn't want of
-- memory
abbrev pub IsFaultWithin : ℕ → List ℕ → ScriptFault → Type 0
IsFaultWithin most text fault = IsFirstFaultWithin most text fault × (fault.cause ≡ OutOfMemory → ⊥)

-- and in a script
abbrev pub IsFaultOf : List ℕ → ScriptFault → Type 0
IsFaultOf text fault = IsFaultWithin most_lines text fault

-- want of memory, or a fault of a text that is no script of so many lines at most
abbrev pub IsReadingFaultWithin : ℕ → List ℕ → RunFault → Type 0
IsReadingFaultWithin most text (Script fault) = IsFaultWithin most text fault
IsReadingFaultWithin _ _ Memory = Unit {0}
IsReadingFaultWithin _ _ _ = ⊥

-- or of one that is no script
abbrev pub IsReadingFault : List ℕ → RunFault → Type 0
IsReadingFault text fault = IsReadingFaultWithin most_lines text fault

-- what a fault says of what was written of a text's play: nothing where the text is no script, and where
-- memory or the output was refused nothing or a beginning of the play
abbrev pub BreaksText : RunFault → List ℕ → Option (List ℕ) → Option (List ℕ) → Type 0
BreaksText (Script fault) text before after = Keeps before after × IsFaultOf text fault
BreaksText Memory text before after = Keeps before after ⊎ IsBrokenOff text before after
BreaksText Write text before after = IsBrokenOff text before after
BreaksText _ _ _ _ = ⊥

-- what was read of an input: its bytes up to the bound, where they are known
abbrev pub IsReadOf : Option (List ℕ) → List ℕ → Type 0
IsReadOf input text = IfSome input (λ bytes. text ≡ text_of bytes)

-- some text was read of the input, and its play was written
abbrev pub Replays : Ending → Option (List ℕ) → Option (List ℕ) → Option (List ℕ) → Type 0
Replays ending input before after = (text : List ℕ) × IsReadOf input text × IsReplayed ending text before after

-- the input wasn't read whole, and nothing was written; or some text was read of it, and the fault says what was written of its play
abbrev pub Breaks : RunFault → Option (List ℕ) → Option (List ℕ) → Option (List ℕ) → Type 0
Breaks fault input before after = (IsInputFault fault × Keeps before after)
    ⊎ ((text : List ℕ) × IsReadOf input text × BreaksText fault text before after)
