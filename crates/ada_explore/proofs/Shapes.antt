-- What a name is declared as never changes.
use Rattle.std.proofs.Common.{◌≡◌, ℕ, Bool, true, false, cond, Option, Some, None, List, [], ◌∷◌, slice_get, refl, sym, ap, ◌∙◌}
use Rattle.std.specs.Option.{option_map, option_map_or}
use Rattle.std.specs.Map.{lookup}
use Rattle.std.specs.Str.{bytes_eq}
use Rattle.std.proofs.lemmas.Option.{none-some}
use Rattle.ada_events.specs.declared.names.TaskNo.{TaskNo}
use Rattle.ada_statements.specs.declared.meaning.Made.{Made}
use Rattle.ada_statements.specs.declared.meaning.Meaning.{Meaning}
use Rattle.ada_statements.specs.declared.meaning.Meaning.TheVariants.{Task, Block}
use Rattle.ada_statements.specs.declared.statement.Statement.{Statement}
use Rattle.ada_statements.specs.declared.statement.Statement.TheVariants.{Open, Create}
use Rattle.ada_statements.specs.Scope.{Scope, meaning_of}
use Rattle.ada_statements.specs.Binding.{with_meaning, with_made, with_opened, bind}
use Rattle.ada_script.specs.declared.script.Line.{Line}
use Rattle.ada_script.specs.Script.{scope_of}
use Rattle.ada_schedules.specs.Schedules.{State, Acts, Comes}
use Rattle.ada_explore.specs.declared.turns.Turn.{Turn}
use Rattle.ada_explore.specs.declared.turns.Turn.TheVariants.{Line as Say, Time as Pass}
use Rattle.ada_explore.specs.declared.turns.Freedom.{Freedom}
use Rattle.ada_explore.specs.Scripts.{Rest, scripted, bound_so}
use Rattle.ada_explore.specs.Sameness.{shape}

-- what a name is declared as, if it is declared
abbrev pub shape_in : Scope → List ℕ → Option (Option (List (List ℕ)))
shape_in names name = option_map shape (meaning_of names name)

-- another meaning of the same shape
changed : (names : Scope) (name other : List ℕ) (change : Meaning → Meaning) → ((m : Meaning) → shape (change m) ≡ shape m)
    → shape_in (with_meaning names name change) other ≡ shape_in names other
changed [] name other change keeps = refl
changed (entry ∷ names) name other change keeps = by (bytes_eq name entry.0) (changed names name other change keeps)
  where
    here : (b : Bool) → option_map shape (cond b (Some (change entry.1)) (lookup (bytes_eq other) names))
        ≡ option_map shape (cond b (Some entry.1) (lookup (bytes_eq other) names))
    here true = ap Some (keeps entry.1)
    here false = refl

    behind : (b : Bool) → shape_in (with_meaning names name change) other ≡ shape_in names other
        → option_map shape (cond b (Some entry.1) (lookup (bytes_eq other) (with_meaning names name change)))
        ≡ option_map shape (cond b (Some entry.1) (lookup (bytes_eq other) names))
    behind true more = refl
    behind false more = more

    by : (b : Bool) → shape_in (with_meaning names name change) other ≡ shape_in names other
        → shape_in (cond b ((entry.0, change entry.1) ∷ names) (entry ∷ with_meaning names name change)) other ≡ shape_in (entry ∷ names) other
    by true more = here (bytes_eq other entry.0)
    by false more = behind (bytes_eq other entry.0) more

made_keeps : (made : Made) (m : Meaning) → shape (with_made made m) ≡ shape m
made_keeps made (Task entries old) = refl
made_keeps made (Block old) = refl

opened_keeps : (at : ℕ) (m : Meaning) → shape (with_opened at m) ≡ shape m
opened_keeps at (Task entries old) = refl
opened_keeps at (Block old) = refl

bind_keeps : (names : Scope) (statement : Statement) (at : ℕ) (made : TaskNo) (name : List ℕ)
    → shape_in (bind names statement at made) name ≡ shape_in names name
bind_keeps names (Open by block) at made name = changed names block name (with_opened at) (opened_keeps at)
bind_keeps names (Create by task under families) at made name =
    changed names task name (with_made (record { task = made; at = at })) (made_keeps (record { task = made; at = at }))
bind_keeps names _ at made name = refl

bound_keeps : (script : List Line) (names : Scope) (place at : ℕ) (made : TaskNo) (name : List ℕ)
    → shape_in (bound_so script names place at made) name ≡ shape_in names name
bound_keeps script names place at made name = by (slice_get script place)
  where
    by : (o : Option Line) → shape_in (option_map_or (λ (line : Line). bind names line.statement at made) o names) name ≡ shape_in names name
    by (Some line) = bind_keeps names line.statement at made name
    by None = refl

act_keeps : (freedom : Freedom) (script : List Line) (turn : Turn) (from to : State Rest) (name : List ℕ) → Acts (scripted freedom script) turn from to
    → shape_in to.rest.names name ≡ shape_in from.rest.names name
act_keeps freedom script (Say place pick) from _ name (Acts.accepted request journal asks accepted after) =
    bound_keeps script from.rest.names place _ _ name
act_keeps freedom script Pass from _ name (Acts.accepted request journal asks accepted after) = refl
act_keeps freedom script turn from _ name (Acts.refused request cause asks refused) = refl
act_keeps freedom script turn from _ name (Acts.alone rest none leaves) = absurd (none-some rest leaves)

-- a schedule changes none
comes_keeps : (freedom : Freedom) (script : List Line) (turns : List Turn) (to : State Rest) (name : List ℕ) → Comes (scripted freedom script) turns to
    → shape_in to.rest.names name ≡ shape_in (scope_of script) name
comes_keeps freedom script turns to name (Comes.begun) = refl
comes_keeps freedom script turns to name (Comes.one_more {choices = before} {from} {to = end} turn comes acts) =
    act_keeps freedom script turn from end name acts ∙ comes_keeps freedom script before from name comes

-- so names are declared alike after any two
pub declared_alike : (freedom : Freedom) (script : List Line) (turns others : List Turn) (old new : State Rest) → Comes (scripted freedom script) turns old
    → Comes (scripted freedom script) others new → (name : List ℕ) → shape_in old.rest.names name ≡ shape_in new.rest.names name
declared_alike freedom script turns others old new comes too name =
    comes_keeps freedom script turns old name comes ∙ sym (comes_keeps freedom script others new name too)
