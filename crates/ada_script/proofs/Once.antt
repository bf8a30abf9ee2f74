-- A line says one thing, so a text is read in one way.
use Rattle.std.proofs.Common.{◌≡◌, ℕ, ◌+◌, false, List, [], ◌∷◌, ◌++◌, Ok, refl, sym, ap, subst, ◌∙◌, inl, inr, arith}
use Rattle.std.specs.Prelude.{IsTrue}
use Rattle.std.proofs.lemmas.Bool.{ne_eqb, true≢false}
use Rattle.ada_statements.specs.declared.fault.Cause.{Cause}
use Rattle.ada_statements.specs.declared.fault.Cause.TheVariants as causes
use Rattle.ada_statements.specs.declared.fault.ScriptFault.{ScriptFault}
use Rattle.ada_script.specs.declared.script.Line.{Line}
use Rattle.ada_statements.specs.declared.statement.Statement.{Statement}
use Rattle.ada_statements.specs.declared.statement.Statement.TheVariants.{Tick, Open, Create, Activate, Up, Fail, Call, CallWithin, Try, Accept, Select, End}
use Rattle.ada_statements.specs.declared.statement.Statement.TheVariants.{Raise, Close, Delay, Complete, Abort, ShowCallable, ShowTerminated, ShowCount}
use Rattle.ada_statements.specs.Text.{words_in, is_name}
use Rattle.ada_script.specs.Spelling.{speaker, words_of}
use Rattle.ada_statements.specs.Scope.{Scope, MayStand}
use Rattle.ada_script.specs.Script.{IsPlain, IsPlainAt, IsUnplain, IsUnplainAt}
use Rattle.ada_script.specs.Script.{begins_comment, is_skipped, SpellsStatement, AddsLine, AddsLines, IsFault, Stops, scope_of}
use Rattle.ada_script.specs.internal.Reading.{statement_of}
use Rattle.ada_script.proofs.AgainParts.{name_letter}
use Rattle.ada_script.proofs.AgainStatements.{statement_again}

-- ---- one line

no_comment : (by : List ℕ) → IsTrue (is_name by) → begins_comment (speaker by) ≡ false
no_comment [] form = absurd cc
no_comment (b ∷ name) form = ne_eqb b 35 (λ e. omega (arith, name_letter b name form))

-- a statement's words aren't skipped
unskipped : (names : Scope) (statement : Statement) → MayStand names statement → is_skipped (words_of statement) ≡ false
unskipped names (Tick now) stands = refl
unskipped names (Open by block) stands = no_comment by stands.0.0
unskipped names (Create by task under families) stands = no_comment by stands.0.0
unskipped names (Activate by tasks) stands = no_comment by stands.0.0
unskipped names (Up by) stands = no_comment by stands.0
unskipped names (Fail by) stands = no_comment by stands.0
unskipped names (Call by callee entry) stands = no_comment by stands.0.0
unskipped names (CallWithin by callee entry duration) stands = no_comment by stands.0.0
unskipped names (Try by callee entry) stands = no_comment by stands.0.0
unskipped names (Accept by entry) stands = no_comment by stands.0.0
unskipped names (Select by pick choices tail) stands = no_comment by stands.0.0
unskipped names (End by) stands = no_comment by stands.0
unskipped names (Raise by) stands = no_comment by stands.0
unskipped names (Close by) stands = no_comment by stands.0
unskipped names (Delay by duration) stands = no_comment by stands.0.0
unskipped names (Complete by) stands = no_comment by stands.0
unskipped names (Abort by tasks) stands = no_comment by stands.0.0
unskipped names (ShowCallable by task) stands = no_comment by stands.0.0
unskipped names (ShowTerminated by task) stands = no_comment by stands.0.0
unskipped names (ShowCount by entry) stands = no_comment by stands.0.0

said_unskipped : (before : List Line) (words : List (List ℕ)) (statement : Statement) → SpellsStatement before words statement → is_skipped words ≡ false
said_unskipped before words statement said =
    subst (λ (w : List (List ℕ)). is_skipped w ≡ false) said.spelled (unskipped (scope_of before) statement said.stands)

said_once : (before : List Line) (words : List (List ℕ)) (one other : Statement) → SpellsStatement before words one → SpellsStatement before words other
    → one ≡ other
said_once before words one other first second =
    let names = scope_of before in
    let a : statement_of names words ≡ Ok one = ap (statement_of names) (sym first.spelled) ∙ statement_again names one first.stands in
    let b : statement_of names words ≡ Ok other = ap (statement_of names) (sym second.spelled) ∙ statement_again names other second.stands in
    cc

pub adds_once : (most : ℕ) (before : List Line) (number : ℕ) (line : List ℕ) (one other : List Line) → AddsLine most before number line one
    → AddsLine most before number line other
    → one ≡ other
adds_once most before number line one other (plain, inl first) (plain', inl second) = first.1 ∙ sym second.1
adds_once most before number line one other (plain, inl first) (plain', inr second) =
    absurd (true≢false (sym first.0 ∙ said_unskipped before (words_in line) second.0 second.1))
adds_once most before number line one other (plain, inr first) (plain', inl second) =
    absurd (true≢false (sym second.0 ∙ said_unskipped before (words_in line) first.0 first.1))
adds_once most before number line one other (plain, inr first) (plain', inr second) =
    let same = said_once before (words_in line) first.0 second.0 first.1 second.1 in
    let made : Statement → List Line = λ s. record { line = number; statement = s } ∷ [] in
    first.2 ∙ ap made same ∙ sym second.2

-- a line at fault adds nothing
unplain : (line : List ℕ) (cause : Cause) → IsUnplain line cause → IsPlain line → ⊥
unplain line causes.NotAscii fault plain = fault.1 plain.1
unplain line causes.LineTooLong fault plain = omega (arith, fault, plain.0)
unplain line causes.BadStatement fault plain = fault
unplain line causes.BadNumber fault plain = fault
unplain line causes.UnknownName fault plain = fault
unplain line causes.DoubleName fault plain = fault
unplain line causes.TooManyLines fault plain = fault
unplain line causes.OutOfMemory fault plain = fault

unplain_there : (most : ℕ) (number : ℕ) (line : List ℕ) (cause : Cause) → IsUnplainAt most number line cause → IsPlainAt most number line → ⊥
unplain_there most number line cause (inl many) plain = omega (arith, many.1, plain.0)
unplain_there most number line cause (inr fault) plain = unplain line cause fault.1 plain.1

pub fault_adds_nothing : (most : ℕ) (before : List Line) (number : ℕ) (line : List ℕ) (cause : Cause) (added : List Line)
    → IsFault most before number line cause
    → AddsLine most before number line added → ⊥
fault_adds_nothing most before number line cause added (inl fault) adds = unplain_there most number line cause fault adds.0
fault_adds_nothing most before number line cause added (inr fault) (plain, inl skipped) = true≢false (sym skipped.0 ∙ fault.2.0)
fault_adds_nothing most before number line cause added (inr fault) (plain, inr said) = fault.2.1 said.0 said.1

-- ---- all lines

pub reads_once : (most : ℕ) (before : List Line) (number : ℕ) (lines : List (List ℕ)) (one other : List Line) → AddsLines most before number lines one
    → AddsLines most before number lines other → one ≡ other
reads_once most before number [] one other first second = first ∙ sym second
reads_once most before number (line ∷ lines) one other first second =
    let same = adds_once most before number line first.0 second.0 first.1 second.1 in
    reads_once most (before ++ second.0) (number + 1) lines one other
    (subst (λ (a : List Line). AddsLines most (before ++ a) (number + 1) lines one) same first.2) second.2

pub stops_unread : (most : ℕ) (before : List Line) (number : ℕ) (lines : List (List ℕ)) (fault : ScriptFault) (all : List Line)
    → Stops most before number lines fault
    → AddsLines most before number lines all → ⊥
stops_unread most before number [] fault all stops reads = stops
stops_unread most before number (line ∷ lines) fault all (inl here) reads = fault_adds_nothing most before number line fault.cause reads.0 here.1 reads.1
stops_unread most before number (line ∷ lines) fault all (inr behind) reads =
    let same = adds_once most before number line behind.0 reads.0 behind.1 reads.1 in
    stops_unread most (before ++ reads.0) (number + 1) lines fault all
    (subst (λ (a : List Line). Stops most (before ++ a) (number + 1) lines fault) same behind.2) reads.2

pub stops_once : (most : ℕ) (before : List Line) (number : ℕ) (lines : List (List ℕ)) (fault other : ScriptFault) → Stops most before number lines fault
    → Stops most before number lines other → fault.line ≡ other.line
stops_once most before number [] fault other first second = absurd first
stops_once most before number (line ∷ lines) fault other (inl here) (inl there) = here.0 ∙ sym there.0
stops_once most before number (line ∷ lines) fault other (inl here) (inr behind) =
    absurd (fault_adds_nothing most before number line fault.cause behind.0 here.1 behind.1)
stops_once most before number (line ∷ lines) fault other (inr behind) (inl there) =
    absurd (fault_adds_nothing most before number line other.cause behind.0 there.1 behind.1)
stops_once most before number (line ∷ lines) fault other (inr first) (inr second) =
    let same = adds_once most before number line first.0 second.0 first.1 second.1 in
    stops_once most (before ++ second.0) (number + 1) lines fault other
    (subst (λ (a : List Line). Stops most (before ++ a) (number + 1) lines fault) same first.2) second.2
