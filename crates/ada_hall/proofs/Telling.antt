-- The history of a hall: what goes on, and one more answer.
use Rattle.std.proofs.Common.{◌≡◌, ℕ, true, Option, Some, List, [], ◌∷◌, ◌++◌, length}
use Rattle.std.proofs.Common.{refl, sym, ap, subst, ◌∙◌, append_assoc, append-nil, inl, inr, MatchOption}
use Rattle.std.specs.Prelude.{slice_get}
use Rattle.ada_events.specs.declared.event.Event.{Event}
use Rattle.ada_events.specs.declared.names.TaskNo.{TaskNo}
use Rattle.ada_events.specs.declared.request.Request.{Request}
use Rattle.ada_events.specs.declared.refusal.Refusal.{Refusal}
use Rattle.ada_events.specs.declared.refusal.Refusal.TheVariants.{OutOfMemory}
use Rattle.ada_events.specs.Asks.{asked_event}
use Rattle.ada_events.specs.Forced.{task_no}
use Rattle.ada_events.specs.Lawful.{IsLawful, IsSettled}
use Rattle.ada_events.specs.Steps.{IsAccepted, IsRefused}
use Rattle.ada_events.specs.Tasks.{task_count}
use Rattle.ada_laws.proofs.forced.Forcing.{forces_keeps}
use Rattle.ada_script.specs.declared.script.Line.{Line}
use Rattle.ada_statements.specs.Scope.{Scope}
use Rattle.ada_statements.specs.Binding.{bind, is_show, request_of}
use Rattle.ada_printing.specs.Texts.{refusal_text, shown_text}
use Rattle.ada_replay.specs.Play.{PlayState, group_text}
use Rattle.ada_replay.specs.Replay.{beginning}
use Rattle.ada_replay.proofs.Saying.{asks_nothing}
use Rattle.ada_replay.specs.declared.answer.Answer.{Answer}
use Rattle.ada_replay.specs.declared.answer.Answer.TheVariants.{Group, Refused, Shown}
use Rattle.ada_hall.specs.declared.answer.KeptAnswer.{KeptAnswer}
use Rattle.ada_hall.specs.History.{IsAnswerTo, AnswersRequest, AnswersShow, GoesOn, IsGiven, AreGiven}
use Rattle.ada_hall.specs.History.AreGiven.{no_more, one_more}
use Rattle.ada_hall.specs.Halls.{IsHistory}
use Rattle.ada_hall.specs.internal.Halls.{IsOfShow}

-- ---- going on

pub stays : (state : PlayState) → GoesOn state state
stays state = record { names = refl; journal = ([], refl) }

pub goes_further : (a b c : PlayState) → GoesOn a b → GoesOn b c → GoesOn a c
goes_further a b c first second = record {
  names = second.names ∙ first.names;
  journal = (
    second.journal.0 ++ first.journal.0,
    second.journal.1 ∙ ap (λ j. second.journal.0 ++ j) first.journal.1 ∙ sym (append_assoc second.journal.0 first.journal.0 a.journal),
  );
}

pub accepted_goes_on : (old new : List Event) (names : Scope) (request : Request) (at : ℕ) → IsAccepted old request at new
    → GoesOn (record { journal = old; names = names }) (record { journal = new; names = names })
accepted_goes_on old new names request at accepted =
    let steps = forces_keeps (asked_event old request ∷ old) new accepted.after.forces in
    record { names = refl; journal = (steps.0 ++ asked_event old request ∷ [], steps.1 ∙ sym (append_assoc steps.0 (asked_event old request ∷ []) old)) }

-- ---- one more answer

given_push : (script : List Line) (answers : List KeptAnswer) (kept : KeptAnswer) (old last before after : PlayState) (text said : List ℕ)
    → AreGiven script answers old text last
    → GoesOn last before → IsGiven script kept before said after → AreGiven script (answers ++ kept ∷ []) old (text ++ said) after
given_push script answers kept old last before after text said no_more on given =
    subst (λ t. AreGiven script (kept ∷ []) old t after) (append-nil said) (one_more on given no_more)
given_push script answers kept old last before after text said
    (one_more {kept = first} {others = others} {after = next} {said = s} {rest = rest} first_on first_given others_given) on given =
    subst (λ t. AreGiven script (first ∷ (others ++ kept ∷ [])) old t after) (sym (append_assoc s rest said))
    (one_more first_on first_given (given_push script others kept next last before after rest said others_given on given))

pub history_begins : (script : List Line) → IsHistory script [] (beginning script)
history_begins script = record { text = []; last = beginning script; given = no_more; goes_on = stays (beginning script) }

pub history_goes_on : (script : List Line) (answers : List KeptAnswer) (now next : PlayState) → IsHistory script answers now → GoesOn now next
    → IsHistory script answers next
history_goes_on script answers now next history on =
    record { text = history.text; last = history.last; given = history.given; goes_on = goes_further history.last now next history.goes_on on }

pub history_push : (script : List Line) (answers : List KeptAnswer) (kept : KeptAnswer) (now next : PlayState) (said : List ℕ) → IsHistory script answers now
    → IsGiven script kept now said next → IsHistory script (answers ++ kept ∷ []) next
history_push script answers kept now next said history given = record {
  text = history.text ++ said;
  last = next;
  given = given_push script answers kept (beginning script) history.last now next history.text said history.given history.goes_on given;
  goes_on = stays next;
}

-- ---- what a line is answered

asks_it : (line : Line) (request : Request) (old : PlayState) (answer : Answer) (text : List ℕ) (new : PlayState)
    → request_of old.names line.statement ≡ Some request
    → AnswersRequest line old answer text new request → IsAnswerTo line old answer text new
asks_it line request old answer text new asks answers =
    subst (λ (o : Option Request). MatchOption o (AnswersShow line old answer text new) (AnswersRequest line old answer text new)) (sym asks) answers

pub answers_group : (line : Line) (request : Request) (old new : PlayState) (first last : ℕ) (made : TaskNo)
    → request_of old.names line.statement ≡ Some request
    → IsAccepted old.journal request first new.journal → made.0 ≡ task_count old.journal → new.names ≡ bind old.names line.statement first made
    → last ≡ length new.journal → (text : List ℕ) × IsAnswerTo line old (Group first last) text new
answers_group line request old new first last made asks accepted number bound last_is = (
  group_text new.names (length old.journal) new.journal,
  asks_it line request old (Group first last) (group_text new.names (length old.journal) new.journal) new asks (record {
    leads = record {
      unrefused = accepted.unrefused;
      after = accepted.after;
      bound = bound ∙ ap (λ (n : ℕ). bind old.names line.statement first (task_no n)) number
          ∙ ap (λ (n : ℕ). bind old.names line.statement n (task_no (task_count old.journal))) accepted.position;
    };
    printed = refl;
    first_is = accepted.position;
    last_is = last_is;
  }),
)

pub answers_refusal : (line : Line) (request : Request) (old new : PlayState) (cause : Refusal) → request_of old.names line.statement ≡ Some request
    → IsRefused old.journal request cause new.journal → ¬ (cause ≡ OutOfMemory) → new.names ≡ old.names
    → (text : List ℕ) × IsAnswerTo line old (Refused cause) text new
answers_refusal line request old new cause asks refused other names = (
  refusal_text line.line cause,
  asks_it line request old (Refused cause) (refusal_text line.line cause) new asks (record {
    refused = elim refused.named [ inl named ↦ named | inr short ↦ absurd (other short.1) ];
    unchanged = ap (λ j. record { journal = j; names = new.names }) refused.unchanged ∙ ap (λ n. record { journal = old.journal; names = n }) names;
    printed = refl;
  }),
)

shows_it : (line : Line) (old : PlayState) (answer : Answer) → IsOfShow answer → (text : List ℕ) × AnswersShow line old answer text old
shows_it line old (Group first last) of_show = absurd of_show
shows_it line old (Refused cause) of_show = (refusal_text line.line cause, (refl, refl))
shows_it line old (Shown value) of_show = (shown_text line.line value, (refl, refl))

pub gives_answer : (script : List Line) (line : Line) (kept : KeptAnswer) (old new : PlayState) (said : List ℕ) → slice_get script kept.place ≡ Some line
    → IsLawful old.journal
    → IsSettled old.journal → kept.events ≡ length old.journal → kept.tasks ≡ task_count old.journal → IsAnswerTo line old kept.answer said new
    → IsGiven script kept old said new
gives_answer script line kept old new said stands lawful settled long many answers =
    record { line = line; stands = stands; lawful = lawful; settled = settled; events = long; tasks = many; answers = answers }

-- the answer to a line that shows an attribute is given where it is kept
pub gives_value : (script : List Line) (line : Line) (place events tasks : ℕ) (answer : Answer) (now : PlayState) → slice_get script place ≡ Some line
    → is_show line.statement ≡ true
    → IsOfShow answer → IsLawful now.journal → IsSettled now.journal → events ≡ length now.journal → tasks ≡ task_count now.journal
    → (said : List ℕ) × IsGiven script (record { place = place; events = events; tasks = tasks; answer = answer }) now said now
gives_value script line place events tasks answer now stands shows of_show lawful settled long many =
    let shown = shows_it line now answer of_show in (
      shown.0,
      gives_answer script line (record { place = place; events = events; tasks = tasks; answer = answer }) now now shown.0 stands lawful settled long many
          (subst (λ (o : Option Request). MatchOption o (AnswersShow line now answer shown.0 now) (AnswersRequest line now answer shown.0 now))
          (sym (asks_nothing now.names line.statement shows)) shown.1),
    )
