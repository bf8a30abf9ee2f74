-- What the answers of a hall print, proved answer by answer.
use Rattle.std.proofs.Common.{◌≡◌, ℕ, ◌+◌, ◌<◌, ◌≤◌, Option, Some, None, List, [], ◌∷◌, ◌++◌, length, reverse, take, drop, get_or}
use Rattle.std.proofs.Common.{refl, sym, ap, subst, ◌∙◌, append_assoc, append-nil, arith, MatchOption, Result, Ok, Err, IfErr, OnOk, inr}
use Rattle.std.specs.Prelude.{slice_get}
use Rattle.std.specs.Io.KnownBytes.{Appends}
use Rattle.std.proofs.lemmas.List.{reverse-append, reverse-reverse, length-reverse, take-append-le, take_all, drop_more, take-append-drop, length-append}
use Rattle.std.proofs.lemmas.Option.{slice_get_within}
use Rattle.ada_events.specs.declared.event.Event.{Event}
use Rattle.ada_events.specs.declared.names.TaskNo.{TaskNo}
use Rattle.ada_events.specs.declared.request.Request.{Request}
use Rattle.ada_events.specs.Asks.{asked_event}
use Rattle.ada_events.specs.Forced.{task_no}
use Rattle.ada_events.specs.Tasks.{task_count}
use Rattle.ada_laws.proofs.forced.Forcing.{forces_keeps}
use Rattle.ada_script.specs.declared.script.Line.{Line}
use Rattle.ada_statements.specs.Scope.{Scope}
use Rattle.ada_statements.specs.Binding.{bind, request_of}
use Rattle.ada_replay.specs.Play.{PlayState, group_text}
use Rattle.ada_replay.specs.declared.fault.RunFault.{RunFault}
use Rattle.ada_replay.specs.declared.fault.RunFault.TheVariants.{Write}
use Rattle.ada_replay.specs.Ends.{IsShortage, IsWritten, IsCutShort}
use Rattle.ada_replay.proofs.Bytes.{appends_both}
use Rattle.ada_replay.proofs.Cuts.{appends_nothing}
use Rattle.ada_replay.specs.declared.answer.Answer.{Answer}
use Rattle.ada_replay.specs.declared.answer.Answer.TheVariants.{Group, Refused, Shown}
use Rattle.ada_hall.specs.declared.answer.KeptAnswer.{KeptAnswer}
use Rattle.ada_hall.specs.History.{IsGroupOf, AnswersRequest, AnswersShow, IsAnswerTo, IsGiven, AreGiven}
use Rattle.ada_hall.specs.History.AreGiven.{no_more, one_more}
use Rattle.ada_hall.specs.Printing.{Continues, ArePrinted}
use Rattle.ada_hall.specs.internal.Printing.{EndsWithin, PrintsOne}

-- ---- journals that go on

further : (a b c : List Event) → Continues a b → Continues b c → Continues a c
further a b c (first, is) (second, then_is) = (second ++ first, then_is ∙ ap (λ j. second ++ j) is ∙ sym (append_assoc second first a))

grows_by : (line : Line) (old new : PlayState) (answer : Answer) (said : List ℕ) (asked : Option Request)
    → MatchOption asked (AnswersShow line old answer said new) (AnswersRequest line old answer said new) → Continues old.journal new.journal
grows_by line old new (Group first last) said None answers = absurd answers
grows_by line old new (Refused cause) said None answers = ([], ap (λ (s : PlayState). s.journal) answers.0)
grows_by line old new (Shown value) said None answers = ([], ap (λ (s : PlayState). s.journal) answers.0)
grows_by line old new (Group first last) said (Some request) answers =
    let asked : Event = asked_event old.journal request in
    let (steps, is) = forces_keeps (asked ∷ old.journal) new.journal answers.leads.after.forces in
    (steps ++ asked ∷ [], is ∙ sym (append_assoc steps (asked ∷ []) old.journal))
grows_by line old new (Refused cause) said (Some request) answers = ([], ap (λ (s : PlayState). s.journal) answers.unchanged)
grows_by line old new (Shown value) said (Some request) answers = absurd answers

one_grows : (script : List Line) (kept : KeptAnswer) (old new : PlayState) (said : List ℕ) → IsGiven script kept old said new
    → Continues old.journal new.journal
one_grows script kept old new said given = grows_by given.line old new kept.answer said (request_of old.names given.line.statement) given.answers

-- the journal of the last state went on from that of each before it
pub given_grows : (script : List Line) (answers : List KeptAnswer) (old last : PlayState) (said : List ℕ) → AreGiven script answers old said last
    → Continues old.journal last.journal
given_grows script answers old last said no_more = ([], refl)
given_grows script answers old last said
    (one_more {kept = kept} {others = others} {before = before} {after = after} {said = first} {rest = rest} on given others_given) =
    further old.journal before.journal last.journal on.journal
    (further before.journal after.journal last.journal (one_grows script kept before after first given)
    (given_grows script others after last rest others_given))

-- ---- one answer

first_of : (events journal : List Event) (n : ℕ) → Continues journal (reverse events) → n ≡ length journal → reverse (take n events) ≡ journal
first_of events journal n (steps, is) long =
    let whole : events ≡ reverse journal ++ reverse steps = sym (reverse-reverse events) ∙ ap reverse is ∙ reverse-append steps journal in
    let front : take n (reverse journal ++ reverse steps) ≡ reverse journal =
    take-append-le n (reverse journal) (reverse steps) (omega (arith, length-reverse journal))
    ∙ take_all n (reverse journal) (omega (arith, length-reverse journal)) in
    ap reverse (ap (take n) whole ∙ front) ∙ reverse-reverse journal

group_of : (line : Line) (old new : PlayState) (first last : ℕ) (said : List ℕ) (asked : Option Request)
    → MatchOption asked (AnswersShow line old (Group first last) said new) (AnswersRequest line old (Group first last) said new)
    → (request : Request) × IsGroupOf line request first last old said new
group_of line old new first last said None answers = absurd answers
group_of line old new first last said (Some request) answers = (request, answers)

pub prints_group : (line : Line) (events : List Event) (kept : KeptAnswer) (names bound : Scope) (text more : List ℕ) (first last : ℕ) (made : TaskNo)
    → kept.answer ≡ Group first last → bound ≡ bind names line.statement first made → made.0 ≡ kept.tasks
    → more ≡ text ++ group_text bound kept.events (reverse (take last events)) → PrintsOne line events kept names bound text more
prints_group line events kept names bound text more first last made answer bound_is number printed script old new said given same named continues =
    let answers : IsAnswerTo given.line old (Group first last) said new = subst (λ a. IsAnswerTo given.line old a said new) answer given.answers in
    let (request, group) = group_of given.line old new first last said (request_of old.names given.line.statement) answers in
    let made_is : made ≡ task_no (task_count old.journal) = ap task_no (number ∙ given.tasks) in
    let names_are : bound ≡ new.names =
    bound_is ∙ ap (λ n. bind n line.statement first made) (sym named) ∙ ap (λ (l : Line). bind old.names l.statement first made) (sym same)
    ∙ ap (λ k. bind old.names given.line.statement k made) group.first_is
    ∙ ap (λ t. bind old.names given.line.statement (length old.journal + 1) t) made_is ∙ sym group.leads.bound in
    let journal_is : reverse (take last events) ≡ new.journal = first_of events new.journal last continues group.last_is in
    let said_is : group_text bound kept.events (reverse (take last events)) ≡ said =
    ap (λ n. group_text n kept.events (reverse (take last events))) names_are ∙ ap (λ k. group_text new.names k (reverse (take last events))) given.events
    ∙ ap (λ j. group_text new.names (length old.journal) j) journal_is ∙ sym group.printed in
    (printed ∙ ap (λ t. text ++ t) said_is, names_are)

-- ---- one answer after another

-- some of the answers were printed: of their texts some was written, and the rest is pending
pub record IsLeft (script : List Line) (answers left : List KeptAnswer) (events : List Event) (names : Scope) (old new : Option (List ℕ))
    (pending : List ℕ) : Type 0 where
  pub written : List ℕ
  pub rest : List ℕ
  pub now : PlayState
  pub last : PlayState
  pub printed : ArePrinted script answers (reverse events) ((written ++ pending) ++ rest) last
  pub given : AreGiven script left now rest last
  pub named : now.names ≡ names
  pub appended : Appends old new written

-- the next of the answers that are left
pub record Next (script : List Line) (kept : KeptAnswer) (events : List Event) : Type 0 where
  pub old : PlayState
  pub new : PlayState
  pub said : List ℕ
  pub given : IsGiven script kept old said new
  pub goes_on : Continues new.journal (reverse events)

next_of : (script : List Line) (kept : KeptAnswer) (others : List KeptAnswer) (events : List Event) (now last : PlayState) (text : List ℕ)
    → AreGiven script (kept ∷ others) now text last → Continues last.journal (reverse events) → Next script kept events
next_of script kept others events now last text (one_more {before = before} {after = after} {said = said} {rest = rest} on given others_given)
    goes_on = record {
      old = before;
      new = after;
      said = said;
      given = given;
      goes_on = further after.journal last.journal (reverse events) (given_grows script others after last rest others_given) goes_on;
    }

pub next_left : (script : List Line) (answers : List KeptAnswer) (i : ℕ) (d : KeptAnswer) (events : List Event) (names : Scope) (old new : Option (List ℕ))
    (pending : List ℕ)
    → i < length answers → IsLeft script answers (drop i answers) events names old new pending → Next script (get_or answers i d) events
next_left script answers i d events names old new pending below left =
    next_of script (get_or answers i d) (drop (i + 1) answers) events left.now left.last left.rest
    (subst (λ ks. AreGiven script ks left.now left.rest left.last) (drop_more answers i d below) left.given) left.printed.1

-- its place has a line
pub next_place : (script : List Line) (kept : KeptAnswer) (events : List Event) → Next script kept events → kept.place < length script
next_place script kept events next = slice_get_within script kept.place next.given.line next.given.stands

-- and its events are among those of the journal
ends_within : (line : Line) (old new : PlayState) (answer : Answer) (said : List ℕ) (asked : Option Request) (many : ℕ)
    → MatchOption asked (AnswersShow line old answer said new) (AnswersRequest line old answer said new) → length old.journal ≤ length new.journal
    → length new.journal ≤ many → EndsWithin answer (length old.journal) many
ends_within line old new (Group first last) said None many answers grows within = absurd answers
ends_within line old new (Refused cause) said None many answers grows within = tt
ends_within line old new (Shown value) said None many answers grows within = tt
ends_within line old new (Group first last) said (Some request) many answers grows within = let end = answers.last_is in (omega arith, omega arith)
ends_within line old new (Refused cause) said (Some request) many answers grows within = tt
ends_within line old new (Shown value) said (Some request) many answers grows within = tt

no_shorter : (old new : List Event) → Continues old new → length old ≤ length new
no_shorter old new (steps, is) = omega (arith, ap length is, length-append steps old)

pub next_within : (script : List Line) (kept : KeptAnswer) (events : List Event) → Next script kept events → EndsWithin kept.answer kept.events (length events)
next_within script kept events next =
    let grows : length next.old.journal ≤ length next.new.journal =
    no_shorter next.old.journal next.new.journal (one_grows script kept next.old next.new next.said next.given) in
    let within : length next.new.journal ≤ length events =
    let all = no_shorter next.new.journal (reverse events) next.goes_on in omega (arith, length-reverse events) in
    subst (λ n. EndsWithin kept.answer n (length events)) (sym next.given.events)
    (ends_within next.given.line next.old next.new kept.answer next.said (request_of next.old.names next.given.line.statement) (length events)
    next.given.answers grows within)

same_line : (script : List Line) (place : ℕ) (one other : Line) → slice_get script place ≡ Some one → slice_get script place ≡ Some other → one ≡ other
same_line script place one other first second = cc

push_left : (script : List Line) (answers : List KeptAnswer) (kept : KeptAnswer) (others : List KeptAnswer) (line : Line) (events : List Event)
    (names bound : Scope)
    (old new : Option (List ℕ)) (written pending more : List ℕ) (now last : PlayState) (text : List ℕ)
    → ArePrinted script answers (reverse events) ((written ++ pending) ++ text) last → AreGiven script (kept ∷ others) now text last → now.names ≡ names
    → Appends old new written → slice_get script kept.place ≡ Some line → PrintsOne line events kept names bound pending more
    → IsLeft script answers others events bound old new more
push_left script answers kept others line events names bound old new written pending more now last text
    printed (one_more {before = before} {after = after} {said = said} {rest = rest} on given others_given) named appended stands prints =
    let goes_on = further after.journal last.journal (reverse events) (given_grows script others after last rest others_given) printed.1 in
    let one = prints script before after said given (same_line script kept.place given.line line given.stands stands) (on.names ∙ named) goes_on in
    record {
      written = written;
      rest = rest;
      now = after;
      last = last;
      printed = subst (λ t. ArePrinted script answers (reverse events) t last)
          (sym (append_assoc (written ++ pending) said rest)
          ∙ ap (λ t. t ++ rest) (append_assoc written pending said ∙ ap (λ t. written ++ t) (sym one.0))) printed;
      given = others_given;
      named = sym one.1;
      appended = appended;
    }

was_fine : (answer : Result (Unit {0}) RunFault) → ((fault : RunFault) → answer ≡ Err fault → ⊥) → (P : Type 0) → OnOk answer P → P
was_fine (Ok done) fine P is = is
was_fine (Err fault) fine P is = absurd (fine fault refl)

-- one more answer was printed
pub left_one : (script : List Line) (answers : List KeptAnswer) (i : ℕ) (d : KeptAnswer) (line : Line) (events : List Event) (names bound : Scope)
    (old new : Option (List ℕ)) (pending more : List ℕ) (answer : Result (Unit {0}) RunFault)
    → i < length answers → slice_get script (get_or answers i d).place ≡ Some line → IsLeft script answers (drop i answers) events names old new pending
    → ((fault : RunFault) → answer ≡ Err fault → ⊥) → OnOk answer (PrintsOne line events (get_or answers i d) names bound pending more)
    → IsLeft script answers (drop (i + 1) answers) events bound old new more
left_one script answers i d line events names bound old new pending more answer below stands left fine prints =
    push_left script answers (get_or answers i d) (drop (i + 1) answers) line events names bound old new left.written pending more left.now left.last left.rest
    left.printed (subst (λ ks. AreGiven script ks left.now left.rest left.last) (drop_more answers i d below) left.given) left.named left.appended stands
    (was_fine answer fine (PrintsOne line events (get_or answers i d) names bound pending more) prints)

-- a piece of what is pending was written
pub left_piece : (script : List Line) (answers others : List KeptAnswer) (events : List Event) (names : Scope) (old between new : Option (List ℕ))
    (pending more : List ℕ)
    → IsLeft script answers others events names old between pending → (piece : List ℕ) × Appends between new piece × (pending ≡ piece ++ more)
    → IsLeft script answers others events names old new more
left_piece script answers others events names old between new pending more left (piece, appended, cut) = record {
  written = left.written ++ piece;
  rest = left.rest;
  now = left.now;
  last = left.last;
  printed = subst (λ t. ArePrinted script answers (reverse events) (t ++ left.rest) left.last)
      (ap (λ t. left.written ++ t) cut ∙ sym (append_assoc left.written piece more)) left.printed;
  given = left.given;
  named = left.named;
  appended = appends_both old between new left.written piece left.appended appended;
}

-- a beginning of what is pending was written
pub left_cut : (script : List Line) (answers others : List KeptAnswer) (events : List Event) (names : Scope) (old between new : Option (List ℕ))
    (pending : List ℕ)
    → IsLeft script answers others events names old between pending → (n : ℕ) × Appends between new (take n pending)
    → IsCutShort (ArePrinted script answers (reverse events)) old new
left_cut script answers others events names old between new pending left (n, appended) =
    let front = left.written ++ take n pending in
    record {
      written = front;
      rest = drop n pending ++ left.rest;
      new = left.last;
      prints = subst (λ t. ArePrinted script answers (reverse events) t left.last)
          (ap (λ t. t ++ left.rest) (ap (λ t. left.written ++ t) (sym (take-append-drop n pending))
          ∙ sym (append_assoc left.written (take n pending) (drop n pending)))
          ∙ append_assoc front (drop n pending) left.rest) left.printed;
      appended = appends_both old between new left.written (take n pending) left.appended appended;
    }

-- no answers print nothing
nothing_given : (script : List Line) (now last : PlayState) (text : List ℕ) → AreGiven script [] now text last → text ≡ []
nothing_given script now last text no_more = refl

-- all that was pending behind the last answer was written
pub all_written : (script : List Line) (answers others : List KeptAnswer) (events : List Event) (names : Scope) (old between new : Option (List ℕ))
    (pending : List ℕ)
    → others ≡ [] → IsLeft script answers others events names old between pending → Appends between new pending
    → (last : PlayState) × IsWritten (ArePrinted script answers (reverse events)) old new last
all_written script answers others events names old between new pending none left appended =
    let ended : AreGiven script [] left.now left.rest left.last = subst (λ ks. AreGiven script ks left.now left.rest left.last) none left.given in (
      left.last,
      record {
        text = left.written ++ pending;
        prints = subst (λ t. ArePrinted script answers (reverse events) t left.last)
            (ap (λ t. (left.written ++ pending) ++ t) (nothing_given script left.now left.last left.rest ended) ∙ append-nil (left.written ++ pending))
            left.printed;
        appended = appends_both old between new left.written pending left.appended appended;
      },
    )

-- the last write, of all that is pending
pub texts_end : (script : List Line) (answers others : List KeptAnswer) (events : List Event) (names : Scope) (old between new : Option (List ℕ))
    (pending bytes : List ℕ)
    (result : Result (Unit {0}) RunFault) → others ≡ [] → IsLeft script answers others events names old between pending → bytes ≡ pending
    → OnOk result (Appends between new bytes) → OnOk result ((last : PlayState) × IsWritten (ArePrinted script answers (reverse events)) old new last)
texts_end script answers others events names old between new pending bytes (Ok done) none left same all =
    all_written script answers others events names old between new pending none left (subst (Appends between new) same all)
texts_end script answers others events names old between new pending bytes (Err fault) none left same all = tt

pub texts_are_cut : (script : List Line) (answers others : List KeptAnswer) (events : List Event) (names : Scope) (old between new : Option (List ℕ))
    (pending bytes : List ℕ)
    (result : Result (Unit {0}) RunFault) → IsLeft script answers others events names old between pending → bytes ≡ pending
    → IfErr result (λ fault. (fault ≡ Write) × (n : ℕ) × Appends between new (take n bytes))
    → IfErr result (λ fault. IsShortage fault × IsCutShort (ArePrinted script answers (reverse events)) old new)
texts_are_cut script answers others events names old between new pending bytes (Ok done) left same cut = tt
texts_are_cut script answers others events names old between new pending bytes (Err fault) left same (is, n, appended) =
    (inr is, left_cut script answers others events names old between new pending left (n, subst (λ bs. Appends between new (take n bs)) same appended))

-- nothing was written yet
pub nothing_cut : (script : List Line) (answers : List KeptAnswer) (journal : List Event) (bytes : Option (List ℕ)) (text : List ℕ) (last : PlayState)
    → ArePrinted script answers journal text last → IsCutShort (ArePrinted script answers journal) bytes bytes
nothing_cut script answers journal bytes text last printed =
    record { written = []; rest = text; new = last; prints = printed; appended = appends_nothing bytes }

pub still_fine : (answer : Result (Unit {0}) RunFault) (P Q : Type 0) → (P → Q) → OnOk answer P → OnOk answer Q
still_fine (Ok done) P Q step is = step is
still_fine (Err fault) P Q step is = tt
