-- What every hall keeps, at first and through its calls.
use Rattle.std.proofs.Common.{◌≡◌, ℕ, ◌+◌, ◌<◌, ◌≤◌, Bool, true, false, Option, Some, None, List, [], ◌∷◌, ◌++◌, length, sym, ap, subst, ◌∙◌, arith}
use Rattle.std.specs.Prelude.{slice_get, is_some, if◌then◌else◌}
use Rattle.std.proofs.lemmas.Option.{none-some, slice_get_within}
use Rattle.ada_events.specs.declared.event.Event.{Event}
use Rattle.ada_events.specs.declared.request.Request.{Request}
use Rattle.ada_events.specs.Lawful.{IsLawful, IsSettled}
use Rattle.ada_events.specs.Tasks.{task_count}
use Rattle.ada_events.specs.Steps.{IsAccepted}
use Rattle.ada_laws.proofs.asking.LimitLaws.{events_are_few}
use Rattle.ada_script.specs.declared.script.Line.{Line}
use Rattle.ada_script.specs.Script.{scope_of}
use Rattle.ada_statements.specs.Scope.{Scope}
use Rattle.ada_statements.specs.Binding.{is_show}
use Rattle.ada_replay.specs.Ends.{state}
use Rattle.ada_replay.specs.declared.answer.Answer.{Answer}
use Rattle.ada_hall.specs.declared.answer.KeptAnswer.{KeptAnswer}
use Rattle.ada_hall.specs.Answers.{answer_at}
use Rattle.ada_hall.specs.Counting.{asked_count}
use Rattle.ada_hall.specs.History.{IsAnswerTo}
use Rattle.ada_hall.specs.PublishedKernels.{Showing}
use Rattle.ada_hall.specs.Halls.{IsHistory, open_line, gained}
use Rattle.ada_hall.specs.internal.Halls.{IsHall, IsOfShow}
use Rattle.ada_hall.proofs.Counts.{accepted_counts, count_within, nothing_counted}
use Rattle.ada_hall.proofs.Telling.{history_begins, history_goes_on, history_push, accepted_goes_on, gives_value, gives_answer}

pub hall_opens : (script : List Line) (places total : ℕ) (showing : Showing) (names : Scope) (answers : List KeptAnswer) → places ≡ length script → total ≡ 0
    → showing ≡ record { journal = []; published = []; behind = false } → names ≡ scope_of script → answers ≡ []
    → IsHall script places total showing names answers
hall_opens script places total showing names answers places_are none opening names_are empty =
    let state_is : state showing.journal names ≡ state [] (scope_of script) = ap (λ (w : Showing). state w.journal names) opening ∙ ap (state []) names_are in
    record {
      places_are = places_are;
      history = subst (λ a. IsHistory script a (state showing.journal names)) (sym empty)
          (subst (λ s. IsHistory script [] s) (sym state_is) (history_begins script));
      counted = none ∙ sym (ap (λ (w : Showing). asked_count w.journal) opening ∙ nothing_counted);
    }

pub hall_steps : (script : List Line) (places total next : ℕ) (old new : Showing) (names : Scope) (answers : List KeptAnswer) (request : Request) (at : ℕ)
    → IsHall script places total old names answers → IsAccepted old.journal request at new.journal → next ≡ total + 1
    → IsHall script places next new names answers
hall_steps script places total next old new names answers request at hall accepted more = record {
  places_are = hall.places_are;
  history = history_goes_on script answers (state old.journal names) (state new.journal names) hall.history
      (accepted_goes_on old.journal new.journal names request at accepted);
  counted = more ∙ ap (λ n. n + 1) hall.counted ∙ sym (accepted_counts old.journal request new.journal accepted.after);
}

-- the total is below the number of events of the next lawful journal, which is 65,536 at most
pub total_fits : (total more : ℕ) (old new : List Event) → total ≡ asked_count old → asked_count new ≡ asked_count old + more → IsLawful new
    → total + more ≤ 65536
total_fits total more old new counted gains lawful =
    let few : length new ≤ 65536 = events_are_few new lawful in
    let within : asked_count new ≤ length new = count_within new in
    omega arith

pub accepted_fits : (total : ℕ) (old new : List Event) (request : Request) (at : ℕ) → total ≡ asked_count old → IsAccepted old request at new
    → IsLawful new → total < 65536
accepted_fits total old new request at counted accepted lawful =
    let fits : total + 1 ≤ 65536 = total_fits total 1 old new counted (accepted_counts old request new accepted.after) lawful in
    omega arith

then_stands : (b : Bool) (o : Option Line) (line : Line) → (if b then None else o) ≡ Some line → o ≡ Some line
then_stands true o line is = absurd (none-some line is)
then_stands false o line is = is

-- a place without an answer has a line
pub open_stands : (script : List Line) (answers : List KeptAnswer) (place : ℕ) (line : Line) → open_line script answers place ≡ Some line
    → slice_get script place ≡ Some line
open_stands script answers place line is = then_stands (is_some (answer_at answers place)) (slice_get script place) line is

pub open_within : (script : List Line) (places total : ℕ) (showing : Showing) (names : Scope) (answers : List KeptAnswer) (place : ℕ) (line : Line)
    → IsHall script places total showing names answers → open_line script answers place ≡ Some line → place < places
open_within script places total showing names answers place line hall is =
    let within : place < length script = slice_get_within script place line (open_stands script answers place line is) in
    let same : places ≡ length script = hall.places_are in
    omega arith

pub hall_notes : (script : List Line) (places total : ℕ) (showing : Showing) (names : Scope) (answers : List KeptAnswer) (place events tasks : ℕ)
    (answer : Answer) (line : Line) → IsHall script places total showing names answers
    → open_line script answers place ≡ Some line → is_show line.statement ≡ true → IsOfShow answer
    → IsLawful showing.journal → IsSettled showing.journal → events ≡ length showing.journal → tasks ≡ task_count showing.journal
    → IsHall script places total showing names (answers ++ record { place = place; events = events; tasks = tasks; answer = answer } ∷ [])
hall_notes script places total showing names answers place events tasks answer line hall is shows of_show lawful settled long many =
    let given =
    gives_value script line place events tasks answer (state showing.journal names) (open_stands script answers place line is) shows of_show
    lawful settled long many in
    record {
      places_are = hall.places_are;
      history = history_push script answers (record { place = place; events = events; tasks = tasks; answer = answer })
          (state showing.journal names) (state showing.journal names) given.0 hall.history given.1;
      counted = hall.counted;
    }

pub hall_says : (script : List Line) (places total next : ℕ) (old new : Showing) (names bound : Scope) (answers : List KeptAnswer)
    (place events tasks : ℕ) (answer : Answer) (line : Line)
    → IsHall script places total old names answers → open_line script answers place ≡ Some line → IsLawful old.journal → IsSettled old.journal
    → ((text : List ℕ) × IsAnswerTo line (state old.journal names) answer text (state new.journal bound))
    → asked_count new.journal ≡ asked_count old.journal + gained answer → next ≡ total + gained answer → events ≡ length old.journal
    → tasks ≡ task_count old.journal
    → IsHall script places next new bound (answers ++ record { place = place; events = events; tasks = tasks; answer = answer } ∷ [])
hall_says script places total next old new names bound answers place events tasks answer line hall is lawful settled said gains more long many =
    let kept : KeptAnswer = record { place = place; events = events; tasks = tasks; answer = answer } in
    record {
      places_are = hall.places_are;
      history = history_push script answers kept (state old.journal names) (state new.journal bound) said.0 hall.history
          (gives_answer script line kept (state old.journal names) (state new.journal bound) said.0
          (open_stands script answers place line is) lawful settled long many said.1);
      counted = more ∙ ap (λ n. n + gained answer) hall.counted ∙ sym gains;
    }
