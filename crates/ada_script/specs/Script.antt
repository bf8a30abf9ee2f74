-- Which texts are scripts, and what they say.
use Rattle.std.specs.Prelude.{◌≡◌, ℕ, ◌+◌, ◌≤◌, ◌<◌, ◌⊎◌, Bool, true, false, ◌==◌, IsTrue, List, [], ◌∷◌, ◌++◌, length, fold, All}
use Rattle.ada_statements.specs.declared.fault.Cause.{Cause}
use Rattle.ada_statements.specs.declared.fault.Cause.TheVariants.{NotAscii, LineTooLong, BadStatement, BadNumber, UnknownName, DoubleName, TooManyLines}
use Rattle.ada_statements.specs.declared.fault.ScriptFault.{ScriptFault}
use Rattle.ada_script.specs.declared.script.Line.{Line}
use Rattle.ada_statements.specs.declared.statement.Statement.{Statement}
use Rattle.ada_statements.specs.Text.{lines_of, words_in, number_sign}
use Rattle.ada_script.specs.Spelling.{words_of}
use Rattle.ada_statements.specs.Scope.{Scope, main_alone, declare, MayStand}

-- the names that are declared behind some lines
abbrev pub scope_of : List Line → Scope
scope_of lines = fold (λ names line. declare names line.statement) main_alone lines

-- a line's length and bytes are in their ranges
abbrev pub IsPrintable : List ℕ → Type 0
IsPrintable line = All (λ b. (32 ≤ b) × (b ≤ 126)) line

abbrev pub IsPlain : List ℕ → Type 0
IsPlain line = (length line ≤ 200) × IsPrintable line

-- and so is its number, where so many lines are allowed
abbrev pub IsPlainAt : ℕ → ℕ → List ℕ → Type 0
IsPlainAt most number line = (number ≤ most) × IsPlain line

-- why a line's length and bytes aren't in their ranges
abbrev pub IsUnplain : List ℕ → Cause → Type 0
IsUnplain line LineTooLong = 200 < length line
IsUnplain line NotAscii = (length line ≤ 200) × ¬ IsPrintable line
IsUnplain _ _ = ⊥

-- why its number isn't, or else these
abbrev pub IsUnplainAt : ℕ → ℕ → List ℕ → Cause → Type 0
IsUnplainAt most number line cause = ((cause ≡ TooManyLines) × (most < number)) ⊎ ((number ≤ most) × IsUnplain line cause)

-- a line without words, or one whose first word begins with a number sign
abbrev pub begins_comment : List ℕ → Bool
begins_comment [] = false
begins_comment (b ∷ bytes) = b == number_sign

abbrev pub is_skipped : List (List ℕ) → Bool
is_skipped [] = true
is_skipped (word ∷ words) = begins_comment word

-- the words are those of a statement that may stand behind these lines
pub record SpellsStatement (before : List Line) (words : List (List ℕ)) (statement : Statement) : Type 0 where
  pub stands : MayStand (scope_of before) statement
  pub spelled : words_of statement ≡ words

-- what an acceptable line adds to the lines before it: nothing, or its statement
abbrev pub AddsLine : ℕ → List Line → ℕ → List ℕ → List Line → Type 0
AddsLine most before number line added = IsPlainAt most number line
    × ((IsTrue (is_skipped (words_in line)) × (added ≡ []))
    ⊎ ((statement : Statement) × SpellsStatement before (words_in line) statement × (added ≡ record { line = number; statement = statement } ∷ [])))

-- lines, of which the first has this number, add to the lines before them what makes all of these
abbrev pub AddsLines : ℕ → List Line → ℕ → List (List ℕ) → List Line → Type 0
AddsLines most before number [] all = all ≡ before
AddsLines most before number (line ∷ lines) all =
    (added : List Line) × AddsLine most before number line added × AddsLines most (before ++ added) (number + 1) lines all

-- a text of so many lines at most is a script of these
abbrev pub IsScriptWithin : ℕ → List ℕ → List Line → Type 0
IsScriptWithin most text all = AddsLines most [] 1 (lines_of text) all

-- the most lines that a script has
abbrev pub most_lines : ℕ
most_lines = 4096

-- a text is a script of these lines
abbrev pub IsScript : List ℕ → List Line → Type 0
IsScript text all = IsScriptWithin most_lines text all

-- ---- texts that aren't scripts

-- the causes that a line's words may be at fault for
abbrev pub IsOfWords : Cause → Type 0
IsOfWords BadStatement = Unit {0}
IsOfWords BadNumber = Unit {0}
IsOfWords UnknownName = Unit {0}
IsOfWords DoubleName = Unit {0}
IsOfWords _ = ⊥

-- the words are those of no statement that may stand where these names are declared
abbrev pub IsOfNoWords : Scope → List (List ℕ) → Type 0
IsOfNoWords names words = (statement : Statement) → MayStand names statement → words_of statement ≡ words → ⊥

-- the words are neither skipped nor those of a statement that may stand behind these lines
abbrev pub SpellsNothing : List Line → List (List ℕ) → Type 0
SpellsNothing before words = (is_skipped words ≡ false) × ((statement : Statement) → SpellsStatement before words statement → ⊥)

-- why a line behind these isn't acceptable: its number, its length or its bytes, and else its words
abbrev pub IsFault : ℕ → List Line → ℕ → List ℕ → Cause → Type 0
IsFault most before number line cause =
    IsUnplainAt most number line cause ⊎ (IsOfWords cause × IsPlainAt most number line × SpellsNothing before (words_in line))

-- of lines behind others, of which the first has this number, the first that isn't acceptable
abbrev pub Stops : ℕ → List Line → ℕ → List (List ℕ) → ScriptFault → Type 0
Stops most before number [] fault = ⊥
Stops most before number (line ∷ lines) fault = ((fault.line ≡ number) × IsFault most before number line fault.cause)
    ⊎ ((added : List Line) × AddsLine most before number line added × Stops most (before ++ added) (number + 1) lines fault)

-- the first line of a text that isn't acceptable, where so many lines are allowed
abbrev pub IsFirstFaultWithin : ℕ → List ℕ → ScriptFault → Type 0
IsFirstFaultWithin most text fault = Stops most [] 1 (lines_of text) fault

-- and in a script
abbrev pub IsFirstFault : List ℕ → ScriptFault → Type 0
IsFirstFault text fault = IsFirstFaultWithin most_lines text fault
