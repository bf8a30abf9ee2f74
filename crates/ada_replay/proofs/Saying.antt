-- What a line says, by what it asks.
use Rattle.std.proofs.Common.{◌≡◌, true, Option, Some, None, Result, Ok, Err, List, ℕ, length, refl, sym, ap, subst, inl, inr, MatchOption}
use Rattle.std.specs.Prelude.{IsOk}
use Rattle.std.proofs.lemmas.Bool.{false≢true}
use Rattle.ada_events.specs.declared.request.Request.{Request}
use Rattle.ada_events.specs.declared.refusal.Refusal.{Refusal}
use Rattle.ada_events.specs.Refusals.{refusal}
use Rattle.ada_script.specs.declared.script.Line.{Line}
use Rattle.ada_statements.specs.Scope.{Scope}
use Rattle.ada_statements.specs.Binding.{is_show, request_of}
use Rattle.ada_statements.specs.declared.statement.Statement.{Statement}
use Rattle.ada_statements.specs.declared.statement.Statement.TheVariants.{Tick, Open, Create, Activate, Up, Fail, Call, CallWithin, Try, Accept, Select, End}
use Rattle.ada_statements.specs.declared.statement.Statement.TheVariants.{Raise, Close, Delay, Complete, Abort, ShowCallable, ShowTerminated, ShowCount}
use Rattle.ada_printing.specs.declared.value.Value.{Value}
use Rattle.ada_printing.specs.Texts.{refusal_text}
use Rattle.ada_replay.specs.Play.{PlayState, group_text, shown, LeadsOn, show_text, accepted_text, SaysLine}

-- a statement that shows an attribute asks the kernel for nothing
pub asks_nothing : (names : Scope) (statement : Statement) → is_show statement ≡ true → request_of names statement ≡ None
asks_nothing names (Tick now) shows = absurd (false≢true shows)
asks_nothing names (Open by block) shows = absurd (false≢true shows)
asks_nothing names (Create by task under families) shows = absurd (false≢true shows)
asks_nothing names (Activate by tasks) shows = absurd (false≢true shows)
asks_nothing names (Up by) shows = absurd (false≢true shows)
asks_nothing names (Fail by) shows = absurd (false≢true shows)
asks_nothing names (Call by callee entry) shows = absurd (false≢true shows)
asks_nothing names (CallWithin by callee entry duration) shows = absurd (false≢true shows)
asks_nothing names (Try by callee entry) shows = absurd (false≢true shows)
asks_nothing names (Accept by entry) shows = absurd (false≢true shows)
asks_nothing names (Select by pick choices tail) shows = absurd (false≢true shows)
asks_nothing names (End by) shows = absurd (false≢true shows)
asks_nothing names (Raise by) shows = absurd (false≢true shows)
asks_nothing names (Close by) shows = absurd (false≢true shows)
asks_nothing names (Delay by duration) shows = absurd (false≢true shows)
asks_nothing names (Complete by) shows = absurd (false≢true shows)
asks_nothing names (Abort by tasks) shows = absurd (false≢true shows)
asks_nothing names (ShowCallable by task) shows = refl
asks_nothing names (ShowTerminated by task) shows = refl
asks_nothing names (ShowCount by entry) shows = refl

-- that a statement is accepted, or refused for a cause, by what it asks

abbrev pub AcceptsAsked : Statement → PlayState → PlayState → Option Request → Type 0
AcceptsAsked statement old new asked =
    MatchOption asked (IsOk (shown old.names old.journal statement) × (new ≡ old)) (λ request. LeadsOn statement request old new)

abbrev pub RefusesAsked : Statement → PlayState → Refusal → Option Request → Type 0
RefusesAsked statement old cause asked =
    MatchOption asked (shown old.names old.journal statement ≡ Err cause) (λ request. refusal old.journal request ≡ Some cause)

-- what a line says

pub says_group : (line : Line) (request : Request) (old new : PlayState) (text : List ℕ) → Some request ≡ request_of old.names line.statement
    → LeadsOn line.statement request old new → text ≡ group_text new.names (length old.journal) new.journal → SaysLine line old text new
says_group line request old new text asks leads printed =
    inl (subst (λ (o : Option Request). AcceptsAsked line.statement old new o × (text ≡ accepted_text line old new o)) asks (leads, printed))

pub says_refusal : (line : Line) (request : Request) (old : PlayState) (cause : Refusal) → Some request ≡ request_of old.names line.statement
    → refusal old.journal request ≡ Some cause → SaysLine line old (refusal_text line.line cause) old
says_refusal line request old cause asks refused = inr (cause, subst (RefusesAsked line.statement old cause) asks refused, refl, refl)

pub says_shown : (line : Line) (old : PlayState) → request_of old.names line.statement ≡ None → (value : Result Value Refusal)
    → shown old.names old.journal line.statement ≡ value → SaysLine line old (show_text line.line value) old
says_shown line old asks (Ok value) is =
    inl (subst (λ (o : Option Request). AcceptsAsked line.statement old old o × (show_text line.line (Ok value) ≡ accepted_text line old old o)) (sym asks)
    ((rw is refl, refl), ap (show_text line.line) (sym is)))
says_shown line old asks (Err cause) is = inr (cause, subst (RefusesAsked line.statement old cause) (sym asks) is, refl, refl)
