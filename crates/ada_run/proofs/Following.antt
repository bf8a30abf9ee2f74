-- Answers that were given one after another, with nothing between them, are a run.
use Rattle.std.proofs.Common.{◌≡◌, ℕ, Option, Some, None, List, [], ◌∷◌, ◌++◌, length, sym, ap, subst, ◌∙◌, arith, MatchOption, inl, inr, length-append}
use Rattle.ada_events.specs.declared.event.Event.{Event}
use Rattle.ada_events.specs.declared.request.Request.{Request}
use Rattle.ada_statements.specs.Binding.{request_of}
use Rattle.ada_script.specs.declared.script.Line.{Line}
use Rattle.ada_replay.specs.declared.fault.RunFault.{RunFault}
use Rattle.ada_replay.specs.Play.{PlayState}
use Rattle.ada_replay.specs.Ends.{state, IsShortage, IsWritten, IsCutShort}
use Rattle.ada_replay.specs.Replay.{beginning}
use Rattle.ada_replay.specs.declared.answer.Answer.{Answer}
use Rattle.ada_replay.specs.declared.answer.Answer.TheVariants.{Group, Refused, Shown}
use Rattle.ada_hall.specs.declared.answer.KeptAnswer.{KeptAnswer}
use Rattle.ada_hall.specs.Answers.{AreJoined, end_of}
use Rattle.ada_hall.specs.History.{GoesOn, AnswersRequest, AnswersShow, IsGiven, AreGiven}
use Rattle.ada_hall.specs.Printing.{Continues, ArePrinted}
use Rattle.ada_replay.proofs.Breaking.{keeps_same}
use Rattle.ada_run.specs.Opening.{IsOpeningFault}
use Rattle.ada_run.specs.Running.{Follow, IsRun, BreaksRun}
use Rattle.ada_run.specs.internal.Running.{AreWhole}

-- a journal that went on by nothing is the same
same_journal : (old new : List Event) → Continues old new → length old ≡ length new → new ≡ old
same_journal old new ([], is) long = is
same_journal old new (step ∷ steps, is) long = absurd (omega (arith, ap length is, length-append (step ∷ steps) old))

same_state : (old new : PlayState) → GoesOn old new → length old.journal ≡ length new.journal → new ≡ old
same_state old new on long =
    ap (λ j. state j new.names) (same_journal old.journal new.journal on.journal long) ∙ ap (λ n. state old.journal n) on.names

-- an answer ends at the end of the journal that it leads to
ends_there : (line : Line) (old new : PlayState) (answer : Answer) (said : List ℕ) (asked : Option Request) (events : ℕ)
    → MatchOption asked (AnswersShow line old answer said new) (AnswersRequest line old answer said new) → events ≡ length old.journal
    → end_of answer events ≡ length new.journal
ends_there line old new (Group first last) said None events answers from = absurd answers
ends_there line old new (Refused cause) said None events answers from = from ∙ ap (λ (s : PlayState). length s.journal) (sym answers.0)
ends_there line old new (Shown value) said None events answers from = from ∙ ap (λ (s : PlayState). length s.journal) (sym answers.0)
ends_there line old new (Group first last) said (Some request) events answers from = answers.last_is
ends_there line old new (Refused cause) said (Some request) events answers from = from ∙ ap (λ (s : PlayState). length s.journal) (sym answers.unchanged)
ends_there line old new (Shown value) said (Some request) events answers from = absurd answers

follow_given : (script : List Line) (answers : List KeptAnswer) (old last : PlayState) (text : List ℕ) (journal : List Event)
    → AreGiven script answers old text last
    → Continues last.journal journal → AreJoined answers (length old.journal) (length journal) → Follow script answers old text last × (journal ≡ last.journal)
follow_given script answers old last text journal AreGiven.no_more goes_on joined = (Follow.no_more, same_journal last.journal journal goes_on joined)
follow_given script answers old last text journal
    (AreGiven.one_more {kept = kept} {others = others} {before = before} {after = after} {said = said} {rest = rest} on given others_given) goes_on
    (starts, others_joined) =
    let same : before ≡ old = same_state old before on (sym starts ∙ given.events) in
    let ends : end_of kept.answer kept.events ≡ length after.journal =
    ends_there given.line before after kept.answer said (request_of before.names given.line.statement) kept.events given.answers given.events in
    let others_follow =
    follow_given script others after last rest journal others_given goes_on (subst (λ n. AreJoined others n (length journal)) ends others_joined) in
    (Follow.one_more (subst (λ s. IsGiven script kept s said after) same given) others_follow.0, others_follow.1)

-- what is printed of answers without a gap is a run
run_of : (script : List Line) (answers : List KeptAnswer) (journal : List Event) → AreWhole script answers (length journal)
    → (text : List ℕ) (last : PlayState) → ArePrinted script answers journal text last → IsRun script text last × (journal ≡ last.journal)
run_of script answers journal whole text last printed =
    let follow = follow_given script answers (beginning script) last text journal printed.0 printed.1 whole.joined in
    (record { answers = answers; all = whole.all; apart = whole.apart; follow = follow.0 }, follow.1)

pub run_written : (script : List Line) (answers : List KeptAnswer) (journal : List Event) (before after : Option (List ℕ))
    → AreWhole script answers (length journal)
    → (written : (last : PlayState) × IsWritten (ArePrinted script answers journal) before after last)
    → (last : PlayState) × IsWritten (IsRun script) before after last × (journal ≡ last.journal)
run_written script answers journal before after whole (last, written) =
    let run = run_of script answers journal whole written.text last written.prints in
    (last, record { text = written.text; prints = run.0; appended = written.appended }, run.1)

pub run_cut : (script : List Line) (answers : List KeptAnswer) (journal : List Event) (before after : Option (List ℕ)) (fault : RunFault)
    → AreWhole script answers (length journal) → IsShortage fault → IsCutShort (ArePrinted script answers journal) before after
    → BreaksRun fault script before after
run_cut script answers journal before after fault whole short cut =
    let run = run_of script answers journal whole (cut.written ++ cut.rest) cut.new cut.prints in
    let broken : IsCutShort (IsRun script) before after =
    record { written = cut.written; rest = cut.rest; new = cut.new; prints = run.0; appended = cut.appended } in
    elim short [
      | inl is ↦ subst (λ f. BreaksRun f script before after) (sym is) (inr broken)
      | inr is ↦ subst (λ f. BreaksRun f script before after) (sym is) broken
    ]

-- where nothing was written yet
pub nothing_run : (script : List Line) (bytes : Option (List ℕ)) (fault : RunFault) → IsOpeningFault fault → BreaksRun fault script bytes bytes
nothing_run script bytes fault (inl is) = subst (λ f. BreaksRun f script bytes bytes) (sym is) (inl (keeps_same bytes))
nothing_run script bytes fault (inr is) = subst (λ f. BreaksRun f script bytes bytes) (sym is) (keeps_same bytes)
