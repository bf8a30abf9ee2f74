-- Following lines one after the other, as a loop does.
use Rattle.std.proofs.Common.{◌≡◌, ℕ, ◌+◌, List, [], ◌∷◌, false, refl, sym, subst, inl, inr, ◌≤◌, length, true, if◌then◌else◌, ◌==◌, arith}
use Rattle.ada_statements.specs.declared.fault.Cause.TheVariants as causes
use Rattle.ada_statements.specs.declared.statement.Statement.{Statement}
use Rattle.ada_statements.specs.Scope.{MayStand}
use Rattle.ada_statements.specs.Text.{words_in, lines_of, parts_of, with_first}
use Rattle.ada_script.specs.Script.{IsPlain, is_skipped}
use Rattle.ada_script.specs.Spelling.{words_of}
use Rattle.ada_replay.specs.Play.{PlayState, Refuses}
use Rattle.ada_replay.specs.declared.judgement.Judgement.{Judgement}
use Rattle.ada_replay.specs.declared.judgement.Stop.{Stop}
use Rattle.ada_replay.specs.declared.judgement.Stop.TheVariants as stops
use Rattle.ada_replay.specs.Lines.{Says, Passes, declared}
use Rattle.ada_replay.specs.Courses.{IsCourse, ManyConform}
use Rattle.ada_replay.specs.internal.Stopping.{IsStop, IsTurnedDown, judged}

-- what was read is what a line says
pub says_it : (line : List ℕ) (old : PlayState) (statement : Statement) → IsPlain line → is_skipped (words_in line) ≡ false
    → MayStand old.names statement → words_of statement ≡ words_in line → Says old.names line statement
says_it line old statement plain unskipped stands spelled =
    record { plain = plain; unskipped = unskipped; stands = stands; spelled = spelled }

-- a statement that is turned down stops its line
pub stops_line : (line : List ℕ) (old new : PlayState) (statement : Statement) (stop : Stop) → Says old.names line statement
    → IsTurnedDown statement old stop new → IsStop line old stop new
stops_line line old new statement (stops.Refused said cause) says (same, refused, unchanged) =
    record {
      says = subst (λ s. Says old.names line s) (sym same) says;
      refused = subst (λ s. Refuses s new cause) (sym same) refused;
      unchanged = subst (λ s. new ≡ declared old s) (sym same) unchanged;
    }
stops_line line old new statement (stops.Faulty cause) says memory = inl memory

-- the first of the lines stops a log
pub stops_here : (number : ℕ) (line : List ℕ) (lines behind : List (List ℕ)) (old new : PlayState) (stop : Stop) → lines ≡ line ∷ behind
    → (stop ≡ stops.Faulty causes.OutOfMemory → ⊥) → IsStop line old stop new → IsCourse number lines old (judged number stop) new
stops_here number line lines behind old new (stops.Refused statement cause) first found stopped =
    subst (λ (ls : List (List ℕ)). IsCourse number ls old (judged number (stops.Refused statement cause)) new) (sym first) (inl (refl, stopped))
stops_here number line lines behind old new (stops.Faulty cause) first found (inl memory) =
    absurd (found (subst (λ c. stops.Faulty c ≡ stops.Faulty causes.OutOfMemory) (sym memory) refl))
stops_here number line lines behind old new (stops.Faulty cause) first found (inr (faulty, same)) =
    subst (λ (ls : List (List ℕ)). IsCourse number ls old (judged number (stops.Faulty cause)) new) (sym first) (inl (refl, faulty, same))

-- so many lines come before the next one, if that stops a log
pub stops_after : (number all : ℕ) (stop : Stop) → ManyConform (judged (number + 1) stop) all number
stops_after number all (stops.Refused statement cause) = refl
stops_after number all (stops.Faulty cause) = refl

-- the first of the lines passes, and the others lead on
pub leads_on : (number : ℕ) (line : List ℕ) (lines behind : List (List ℕ)) (old between : PlayState) → lines ≡ line ∷ behind
    → Passes line old between → (judgement : Judgement) (new : PlayState) → IsCourse (number + 1) behind between judgement new
    → IsCourse number lines old judgement new
leads_on number line lines behind old between first passes judgement new others =
    subst (λ (ls : List (List ℕ)). IsCourse number ls old judgement new) (sym first) (inr (between, passes, others))

-- a text has no more lines than bytes
with_first_few : (b : ℕ) (parts : List (List ℕ)) (n : ℕ) → length parts ≤ n → length (with_first b parts) ≤ n + 1
with_first_few b [] n few = omega arith
with_first_few b (part ∷ parts) n few = omega (arith, few)

parts_few : (separator : ℕ) (bytes : List ℕ) → length (parts_of separator bytes) ≤ length bytes
parts_few separator [] = omega arith
parts_few separator (b ∷ bytes) =
    elim (b == separator) as (λ t. length (if t then [] ∷ parts_of separator bytes else with_first b (parts_of separator bytes)) ≤ length (b ∷ bytes)) [
      | true ↦ omega (arith, parts_few separator bytes)
      | false ↦ omega (arith, with_first_few b (parts_of separator bytes) (length bytes) (parts_few separator bytes))
    ]

pub lines_few : (text : List ℕ) → length (lines_of text) ≤ length text
lines_few text = parts_few 10 text
