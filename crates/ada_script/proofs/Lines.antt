-- Reading lines one after the other, as a loop does.
use Rattle.std.proofs.Common.{◌≡◌, ◌⊎◌, ℕ, ◌+◌, List, ◌∷◌, ◌++◌, false, Ok, Err, refl, sym, ap, subst, ◌∙◌, inl, inr}
use Rattle.ada_statements.specs.declared.fault.Cause.{Cause}
use Rattle.ada_statements.specs.declared.fault.Cause.TheVariants as causes
use Rattle.ada_script.specs.declared.fault.Fault.{Fault}
use Rattle.ada_script.specs.declared.fault.Fault.TheVariants.{BadStatement, BadNumber, UnknownName, DoubleName, OutOfMemory}
use Rattle.ada_script.specs.declared.script.Line.{Line}
use Rattle.ada_statements.specs.declared.statement.Statement.{Statement}
use Rattle.ada_statements.specs.Scope.{Scope, MayStand}
use Rattle.ada_statements.specs.Text.{words_in}
use Rattle.ada_script.specs.Script.{AddsLine, AddsLines, SpellsStatement, SpellsNothing, IsPlainAt, IsFault}
use Rattle.ada_script.specs.Script.{IsOfWords, IsOfNoWords, Stops, is_skipped, scope_of}
use Rattle.ada_script.specs.internal.Reading.{statement_of}
use Rattle.ada_script.specs.internal.Fault.{cause_of}
use Rattle.ada_script.proofs.TakenStatements.{statement_reads}
use Rattle.ada_script.proofs.AgainStatements.{statement_again}

-- a statement that was read is what the line says
pub says : (names : Scope) (before : List Line) (words : List (List ℕ)) (statement : Statement) → names ≡ scope_of before
    → statement_of names words ≡ Ok statement → SpellsStatement before words statement
says names before words statement known read =
    let r = statement_reads names words statement read in
    record { stands = subst (λ (n : Scope). MayStand n statement) known r.0; spelled = r.1 }

-- what a line adds
abbrev pub AddsTo : ℕ → List Line → ℕ → List ℕ → List Line → Type 0
AddsTo most before number line after = (added : List Line) × AddsLine most before number line added × (after ≡ before ++ added)

-- one line, and then the others
pub reads_on : (most : ℕ) (before after : List Line) (number : ℕ) (line : List ℕ) (lines behind : List (List ℕ)) → lines ≡ line ∷ behind
    → AddsTo most before number line after
    → (all : List Line) → AddsLines most after (number + 1) behind all → AddsLines most before number lines all
reads_on most before after number line lines behind first adds all others =
    subst (λ (ls : List (List ℕ)). AddsLines most before number ls all) (sym first)
    (adds.0, adds.1, subst (λ (a : List Line). AddsLines most a (number + 1) behind all) adds.2 others)

-- ---- faults

-- a fault of the words, which are skipped for no reason
pub says_nothing : (names : Scope) (before : List Line) (words : List (List ℕ)) (fault : Fault) → names ≡ scope_of before → statement_of names words ≡ Err fault
    → is_skipped words ≡ false → SpellsNothing before words
says_nothing names before words fault known read skipped = (
  skipped,
  λ statement said.
      let stands : MayStand names statement = subst (λ (n : Scope). MayStand n statement) (sym known) said.stands in
      let again : statement_of names words ≡ Ok statement = ap (statement_of names) (sym said.spelled) ∙ statement_again names statement stands in
      let both : Err fault ≡ Ok statement = sym read ∙ again in
      absurd cc,
)

of_words : (fault : Fault) → (fault ≡ OutOfMemory) ⊎ IsOfWords (cause_of fault)
of_words BadStatement = inr tt
of_words BadNumber = inr tt
of_words UnknownName = inr tt
of_words DoubleName = inr tt
of_words OutOfMemory = inl refl

-- words that weren't read are those of the line
pub of_these : (names : Scope) (fault : Fault) {words these : List (List ℕ)} → words ≡ these → (fault ≡ OutOfMemory) ⊎ (statement_of names words ≡ Err fault)
    → (fault ≡ OutOfMemory) ⊎ (statement_of names these ≡ Err fault)
of_these names fault same fails = subst (λ (ws : List (List ℕ)). (fault ≡ OutOfMemory) ⊎ (statement_of names ws ≡ Err fault)) same fails

-- words that weren't read: memory was refused, or they are at fault
pub words_fail : (most : ℕ) (names : Scope) (before : List Line) (number : ℕ) (line : List ℕ) (fault : Fault) → names ≡ scope_of before
    → IsPlainAt most number line
    → is_skipped (words_in line) ≡ false → (fault ≡ OutOfMemory) ⊎ (statement_of names (words_in line) ≡ Err fault)
    → (cause_of fault ≡ causes.OutOfMemory) ⊎ IsFault most before number line (cause_of fault)
words_fail most names before number line fault known plain skipped fails = elim fails [
  | inl memory ↦ inl (ap cause_of memory)
  | inr read ↦ elim (of_words fault) [
    | inl memory ↦ inl (ap cause_of memory)
    | inr words ↦ inr (inr (words, plain, says_nothing names before (words_in line) fault known read skipped))
  ]
]

-- words that weren't read, whatever names are declared
pub nothing_reads : (names : Scope) (words : List (List ℕ)) (fault : Fault) → (fault ≡ OutOfMemory) ⊎ (statement_of names words ≡ Err fault)
    → (cause_of fault ≡ causes.OutOfMemory) ⊎ (IsOfWords (cause_of fault) × IsOfNoWords names words)
nothing_reads names words fault fails = elim fails [
  | inl memory ↦ inl (ap cause_of memory)
  | inr read ↦ elim (of_words fault) [
    | inl memory ↦ inl (ap cause_of memory)
    | inr of ↦ inr (
      of,
      λ statement stands spelled.
          let again : statement_of names words ≡ Ok statement = ap (statement_of names) (sym spelled) ∙ statement_again names statement stands in
          let both : Err fault ≡ Ok statement = sym read ∙ again in
          absurd cc,
    )
  ]
]

-- the first of the lines is at fault
pub stops_here : (most : ℕ) (before : List Line) (number : ℕ) (line : List ℕ) (lines behind : List (List ℕ)) (cause : Cause) → lines ≡ line ∷ behind
    → IsFault most before number line cause
    → Stops most before number lines (record { line = number; cause = cause })
stops_here most before number line lines behind cause first fault =
    subst (λ (ls : List (List ℕ)). Stops most before number ls (record { line = number; cause = cause })) (sym first) (inl (refl, fault))
