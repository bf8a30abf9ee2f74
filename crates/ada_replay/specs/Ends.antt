-- How far a play came, and what was written of it.
use Rattle.std.specs.Prelude.{◌≡◌, ◌⊎◌, ℕ, Option, List, ◌++◌}
use Rattle.std.specs.Io.KnownBytes.{Appends}
use Rattle.ada_events.specs.declared.event.Event.{Event}
use Rattle.ada_statements.specs.Scope.{Scope}
use Rattle.ada_replay.specs.declared.fault.RunFault.{RunFault}
use Rattle.ada_replay.specs.declared.fault.RunFault.TheVariants.{Memory, Write}
use Rattle.ada_replay.specs.Play.{PlayState}

abbrev pub state : List Event → Scope → PlayState
state journal names = record { journal = journal; names = names }

-- memory was refused, or the output
abbrev pub IsShortage : RunFault → Type 0
IsShortage fault = (fault ≡ Memory) ⊎ (fault ≡ Write)

-- all that is printed was written; what is printed leads to the new state
pub record IsWritten (Prints : List ℕ → PlayState → Type 0) (before after : Option (List ℕ)) (new : PlayState) : Type 0 where
  pub text : List ℕ
  pub prints : Prints text new
  pub appended : Appends before after text

-- a beginning of what is printed was written
pub record IsCutShort (Prints : List ℕ → PlayState → Type 0) (before after : Option (List ℕ)) : Type 0 where
  pub written : List ℕ
  pub rest : List ℕ
  pub new : PlayState
  pub prints : Prints (written ++ rest) new
  pub appended : Appends before after written
