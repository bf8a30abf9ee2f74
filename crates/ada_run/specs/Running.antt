-- A run of a script: threads play its lines, and what the answers print is written.
use Rattle.std.specs.Prelude.{◌⊎◌, ◌<◌, ℕ, Option, List, [], ◌∷◌, ◌++◌, length}
use Rattle.std.specs.Io.KnownBytes.{Keeps}
use Rattle.ada_script.specs.declared.script.Line.{Line}
use Rattle.ada_script.specs.Script.{IsScript}
use Rattle.ada_replay.specs.declared.fault.Ending.{Ending}
use Rattle.ada_replay.specs.declared.fault.RunFault.{RunFault}
use Rattle.ada_replay.specs.declared.fault.RunFault.TheVariants.{Script, TooManyTasks, Memory, Write, Threads}
use Rattle.ada_replay.specs.Input.{IsInputFault}
use Rattle.ada_replay.specs.Play.{PlayState}
use Rattle.ada_replay.specs.Ends.{IsWritten, IsCutShort}
use Rattle.ada_replay.specs.Replay.{beginning, Tells, IsFaultOf, IsReadOf}
use Rattle.ada_hall.specs.declared.answer.KeptAnswer.{KeptAnswer}
use Rattle.ada_hall.specs.Answers.{AreAll, AnswerNoPlaceTwice}
use Rattle.ada_hall.specs.History.{IsGiven}
use Rattle.ada_hall.specs.Speakers.{created}

-- answers that follow one another: each is that of its own place's line over the very journal and bindings that the one
-- before it left
pub data Follow (script : List Line) : List KeptAnswer → PlayState → List ℕ → PlayState → Type 0 where
  no_more : {state : PlayState} → Follow script [] state [] state
  one_more : {kept : KeptAnswer} {others : List KeptAnswer} {old after new : PlayState} {said rest : List ℕ}
      → IsGiven script kept old said after → Follow script others after rest new → Follow script (kept ∷ others) old (said ++ rest) new

-- each line of the script is answered once, one after another in some order, from the script's beginning on; this is what
-- the answers print, and what they lead to
pub record IsRun (script : List Line) (text : List ℕ) (new : PlayState) : Type 0 where
  pub answers : List KeptAnswer
  pub all : AreAll (length script) answers
  pub apart : AnswerNoPlaceTwice answers
  pub follow : Follow script answers (beginning script) text new

-- there are more tasks than there may be, the main program counted among them
abbrev pub HasTooMany : List Line → Type 0
HasTooMany script = 255 < length (created script)

-- a run of the script was written; the ending says whether the main program is terminated behind it
pub record IsScriptRun (ending : Ending) (script : List Line) (before after : Option (List ℕ)) : Type 0 where
  pub few : ¬ HasTooMany script
  pub new : PlayState
  pub written : IsWritten (IsRun script) before after new
  pub tells : Tells ending new.journal

-- what a fault says of what was written: nothing, or where memory or the output was refused a beginning of a run
abbrev pub BreaksRun : RunFault → List Line → Option (List ℕ) → Option (List ℕ) → Type 0
BreaksRun TooManyTasks script before after = HasTooMany script × Keeps before after
BreaksRun Memory script before after = Keeps before after ⊎ IsCutShort (IsRun script) before after
BreaksRun Write script before after = IsCutShort (IsRun script) before after
BreaksRun Threads _ before after = Keeps before after
BreaksRun _ _ _ _ = ⊥

-- the text is a script, and a run of it was written
pub record IsTextRun (ending : Ending) (text : List ℕ) (before after : Option (List ℕ)) : Type 0 where
  pub script : List Line
  pub reads : IsScript text script
  pub run : IsScriptRun ending script before after

-- the text is a script, and its run was broken off
pub record IsTextBroken (fault : RunFault) (text : List ℕ) (before after : Option (List ℕ)) : Type 0 where
  pub script : List Line
  pub reads : IsScript text script
  pub breaks : BreaksRun fault script before after

-- the text is no script, or memory was refused before that was known; and nothing was written
abbrev pub IsUnread : RunFault → List ℕ → Option (List ℕ) → Option (List ℕ) → Type 0
IsUnread (Script fault) text before after = Keeps before after × IsFaultOf text fault
IsUnread Memory _ before after = Keeps before after
IsUnread _ _ _ _ = ⊥

-- some text was read of the input, and a run of it was written
abbrev pub Runs : Ending → Option (List ℕ) → Option (List ℕ) → Option (List ℕ) → Type 0
Runs ending input before after = (text : List ℕ) × IsReadOf input text × IsTextRun ending text before after

-- the input wasn't read whole, and nothing was written; or some text was read of it, which is no script or whose run was
-- broken off
abbrev pub RunBreaks : RunFault → Option (List ℕ) → Option (List ℕ) → Option (List ℕ) → Type 0
RunBreaks fault input before after = (IsInputFault fault × Keeps before after)
    ⊎ ((text : List ℕ) × IsReadOf input text × (IsUnread fault text before after ⊎ IsTextBroken fault text before after))
