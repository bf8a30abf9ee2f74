-- What follows from what is left being the same.
use Rattle.std.proofs.Common.{◌≡◌, true, List, subst}
use Rattle.std.specs.List.{list_all}
use Rattle.ada_standing.specs.Renaming.{Renaming}
use Rattle.ada_script.specs.declared.script.Line.{Line}
use Rattle.ada_schedules.specs.Schedules.{State, Reaches}
use Rattle.ada_explore.specs.declared.turns.Freedom.{Freedom}
use Rattle.ada_explore.specs.Scripts.{Rest, scripted}
use Rattle.ada_explore.specs.Sameness.{SameRest, says_alike_at}
use Rattle.ada_explore.proofs.Shapes.{declared_alike}

-- the same lines say the same after two schedules, so the same is left
pub same_rest : (freedom : Freedom) (script lines : List Line) (old new : State Rest) (names : Renaming) → lines ≡ script → old.rest.left ≡ new.rest.left
    → list_all (says_alike_at lines names old.rest.names new.rest.names) old.rest.left ≡ true
    → Reaches (scripted freedom script) old → Reaches (scripted freedom script) new → SameRest script names old.rest new.rest
same_rest freedom script lines old new names same left alike (turns, comes) (others, too) = record {
  left = left;
  declared = declared_alike freedom script turns others old new comes too;
  alike = subst (λ (ls : List Line). list_all (says_alike_at ls names old.rest.names new.rest.names) old.rest.left ≡ true) same alike;
}
