-- Plays of some lines: one more line, some more lines, and that there is one.
use Rattle.std.proofs.Common.{◌≡◌, ℕ, ◌+◌, Option, Some, None, List, [], ◌∷◌, ◌++◌, refl, sym, subst, append_assoc, append-nil, inl, inr, length}
use Rattle.ada_events.specs.declared.request.Request.{Request}
use Rattle.ada_events.specs.declared.refusal.Refusal.{Refusal}
use Rattle.ada_events.specs.Tasks.{task_count}
use Rattle.ada_events.specs.Forced.{task_no}
use Rattle.ada_events.specs.Refusals.{refusal}
use Rattle.ada_events.specs.Lawful.{IsLawful, IsSettled}
use Rattle.ada_laws.proofs.asking.LimitLaws.{leads_to_a_journal}
use Rattle.ada_laws.proofs.asking.RequestLaws.{stays_lawful}
use Rattle.ada_script.specs.declared.script.Line.{Line}
use Rattle.ada_statements.specs.declared.statement.Statement.{Statement}
use Rattle.ada_statements.specs.Binding.{bind, request_of}
use Rattle.ada_printing.specs.Texts.{refusal_text}
use Rattle.ada_replay.specs.Play.{PlayState, group_text, shown, show_text, SaysLine, Plays}
use Rattle.ada_replay.specs.Play.Plays.{no_more, one_more}
use Rattle.ada_replay.proofs.Saying.{AcceptsAsked, says_group, says_refusal, says_shown}

-- the journal of a state is lawful and settled
pub record IsAtRest (state : PlayState) : Type 0 where
  pub lawful : IsLawful state.journal
  pub settled : IsSettled state.journal

-- one more line at the end
pub plays-push : (lines : List Line) (line : Line) (old mid new : PlayState) (text said : List ℕ) → Plays lines old text mid → SaysLine line mid said new
    → Plays (lines ++ line ∷ []) old (text ++ said) new
plays-push lines line old mid new text said no_more says = subst (λ t. Plays (line ∷ []) old t new) (append-nil said) (one_more said says no_more)
plays-push lines line old mid new text said (one_more {line = first} {others = others} {between = next} {rest = b} a first_says plays) says =
    subst (λ t. Plays (first ∷ (others ++ line ∷ [])) old t new) (sym (append_assoc a b said))
    (one_more a first_says (plays-push others line next mid new b said plays says))

-- some more lines at the end
pub plays-append : (lines more : List Line) (old mid new : PlayState) (text rest : List ℕ) → Plays lines old text mid → Plays more mid rest new
    → Plays (lines ++ more) old (text ++ rest) new
plays-append lines more old mid new text rest no_more plays = plays
plays-append lines more old mid new text rest (one_more {line = first} {others = others} {between = next} {rest = b} a first_says plays) more_plays =
    subst (λ t. Plays (first ∷ (others ++ more)) old t new) (sym (append_assoc a b rest))
    (one_more a first_says (plays-append others more next mid new b rest plays more_plays))

accepted_at_rest : (statement : Statement) (asked : Option Request) (old new : PlayState) → IsAtRest old
    → AcceptsAsked statement old new asked → IsAtRest new
accepted_at_rest statement None old new rest shows = subst IsAtRest (sym shows.1) rest
accepted_at_rest statement (Some request) old new rest leads = record {
  lawful = stays_lawful old.journal request new.journal rest.lawful rest.settled leads.unrefused leads.after;
  settled = leads.after.settled;
}

-- what a line says leaves a state at rest
pub says_at_rest : (line : Line) (old new : PlayState) (text : List ℕ) → IsAtRest old → SaysLine line old text new → IsAtRest new
says_at_rest line old new text rest (inl accepted) =
    accepted_at_rest line.statement (request_of old.names line.statement) old new rest accepted.0
says_at_rest line old new text rest (inr (cause, refused, same, printed)) = subst IsAtRest (sym same) rest

-- what a line may say
pub record Said (line : Line) (old : PlayState) : Type 0 where
  pub text : List ℕ
  pub new : PlayState
  pub says : SaysLine line old text new

refused_or_not : (line : Line) (request : Request) (old : PlayState) → IsAtRest old → Some request ≡ request_of old.names line.statement
    → (answer : Option Refusal) → refusal old.journal request ≡ answer → Said line old
refused_or_not line request old rest asks (Some cause) is = record {
  text = refusal_text line.line cause;
  new = old;
  says = says_refusal line request old cause asks is;
}
refused_or_not line request old rest asks None is =
    let (journal, after) = leads_to_a_journal old.journal request rest.lawful rest.settled is in
    let names = bind old.names line.statement (length old.journal + 1) (task_no (task_count old.journal)) in
    let new : PlayState = record { journal = journal; names = names } in
    record {
      text = group_text names (length old.journal) journal;
      new = new;
      says = says_group line request old new (group_text names (length old.journal) journal) asks
          (record { unrefused = is; after = after; bound = refl }) refl;
    }

said : (line : Line) (asked : Option Request) (old : PlayState) → IsAtRest old → asked ≡ request_of old.names line.statement → Said line old
said line None old rest asks = record {
  text = show_text line.line (shown old.names old.journal line.statement);
  new = old;
  says = says_shown line old (sym asks) (shown old.names old.journal line.statement) refl;
}
said line (Some request) old rest asks = refused_or_not line request old rest asks (refusal old.journal request) refl

-- each line says something
pub each_line_says : (line : Line) (old : PlayState) → IsAtRest old → Said line old
each_line_says line old rest = said line (request_of old.names line.statement) old rest refl

-- a play of some lines
pub record Played (lines : List Line) (old : PlayState) : Type 0 where
  pub text : List ℕ
  pub new : PlayState
  pub plays : Plays lines old text new

-- there is one
pub lines_play : (lines : List Line) (old : PlayState) → IsAtRest old → Played lines old
lines_play [] old rest = record { text = []; new = old; plays = no_more }
lines_play (line ∷ lines) old rest =
    let first = each_line_says line old rest in
    let others = lines_play lines first.new (says_at_rest line old first.new first.text rest first.says) in
    record {
      text = first.text ++ others.text;
      new = others.new;
      plays = one_more first.text first.says others.plays;
    }
