-- Journals that a line leaves, and those before its end.
use Rattle.std.proofs.Common.{◌≡◌, ℕ, ◌+◌, ◌-◌, ◌<◌, ◌≤◌, Option, Some, None, List, [], ◌∷◌, ◌++◌, length, take, drop, reverse, get_or, slice_get}
use Rattle.std.proofs.Common.{◌⊎◌, inl, inr, refl, sym, ap, ◌∙◌, subst, arith, length-append, append_assoc}
use Rattle.std.specs.Prelude.{IsOk, MatchOption, Vec}
use Rattle.std.specs.Global.{Global}
use Rattle.std.proofs.Math.Seq.{drop-append_seam}
use Rattle.std.proofs.lemmas.Option.{slice_get_read, slice_get_within}
use Rattle.std.proofs.lemmas.List.{take-append-drop, reverse-append, length-reverse}
use Rattle.ada_events.specs.declared.event.Event.{Event}
use Rattle.ada_events.specs.declared.request.Request.{Request}
use Rattle.ada_events.specs.Asks.{asked_event}
use Rattle.ada_events.specs.Boards.{first_events}
use Rattle.ada_events.specs.Lawful.{IsLawful}
use Rattle.ada_events.proofs.Beginnings.{journal_more, length_journal}
use Rattle.ada_laws.proofs.asking.RequestLaws.{keeps_the_old_journal}
use Rattle.ada_script.specs.declared.script.Line.{Line}
use Rattle.ada_statements.specs.Binding.{request_of}
use Rattle.ada_replay.specs.Play.{PlayState, SaysLine, LeadsOn, shown}
use Rattle.ada_page.specs.Standing.{AreQueued, AreQueuedSince}
use Rattle.ada_page.proofs.Lists.{last_or_earlier}

-- ---- the first events of a journal

-- of a journal that begins with another one
pub first_of_both : (steps old : List Event) → first_events (length old) (steps ++ old) ≡ old
first_of_both steps old =
    ap (λ n. drop n (steps ++ old)) (let e : length (steps ++ old) - length old ≡ length steps = omega (arith, length-append steps old) in e)
    ∙ drop-append_seam steps old

-- of a list in the order of arrival
parted : (events : List Event) (n : ℕ) → reverse events ≡ reverse (drop n events) ++ reverse (take n events)
parted events n = ap reverse (sym (take-append-drop n events)) ∙ reverse-append (take n events) (drop n events)

pub first_taken : (events : List Event) (n : ℕ) → n ≤ length events → first_events n (reverse events) ≡ reverse (take n events)
first_taken events n within =
    subst (λ (m : ℕ). first_events m (reverse events) ≡ reverse (take n events)) (length_journal events n within)
    (ap (first_events (length (reverse (take n events)))) (parted events n)
    ∙ first_of_both (reverse (drop n events)) (reverse (take n events)))

-- the first events of a lawful journal are one
lawful_first : (steps old : List Event) → IsLawful (steps ++ old) → IsLawful old
lawful_first [] old lawful = lawful
lawful_first (event ∷ steps) old lawful = lawful_first steps old lawful.0

pub lawful_taken : (events : List Event) (n : ℕ) → IsLawful (reverse events) → IsLawful (reverse (take n events))
lawful_taken events n lawful =
    lawful_first (reverse (drop n events)) (reverse (take n events)) (subst IsLawful (parted events n) lawful)

-- ---- what a line leaves

accepted_keeps : (line : Line) (old new : PlayState) (asked : Option Request)
    → MatchOption asked (IsOk (shown old.names old.journal line.statement) × (new ≡ old)) (λ request. LeadsOn line.statement request old new)
    → (steps : List Event) × (new.journal ≡ steps ++ old.journal)
accepted_keeps line old new None (is, same) = ([], ap (λ (s : PlayState). s.journal) same)
accepted_keeps line old new (Some request) leads =
    let (steps, whole) = keeps_the_old_journal old.journal request new.journal leads.after in
    (steps ++ asked_event old.journal request ∷ [], whole ∙ sym (append_assoc steps (asked_event old.journal request ∷ []) old.journal))

-- a line leaves the journal before it, with what it adds
pub line_keeps : (line : Line) (old new : PlayState) (said : List ℕ) → SaysLine line old said new → (steps : List Event) × (new.journal ≡ steps ++ old.journal)
line_keeps line old new said (inl (accepts, text)) = accepted_keeps line old new (request_of old.names line.statement) accepts
line_keeps line old new said (inr (cause, refuses, same, text)) = ([], ap (λ (s : PlayState). s.journal) same)

pub line_grows : (line : Line) (old new : PlayState) (said : List ℕ) → SaysLine line old said new → length old.journal ≤ length new.journal
line_grows line old new said says =
    let (steps, whole) = line_keeps line old new said says in
    omega (arith, ap length whole, length-append steps old.journal)

pub line_begins : (line : Line) (old new : PlayState) (said : List ℕ) → SaysLine line old said new
    → first_events (length old.journal) new.journal ≡ old.journal
line_begins line old new said says =
    let (steps, whole) = line_keeps line old new said says in
    ap (first_events (length old.journal)) whole ∙ first_of_both steps old.journal

-- ---- one more event of a line

-- what stood in queues after so many events and after each of the next, of a list in the order of arrival
abbrev pub StoodSince : ℕ → List Event → List (Vec ℕ Global) → Type 0
StoodSince known events queues =
    (k : ℕ) (calls : Vec ℕ Global) → slice_get queues k ≡ Some calls → AreQueued (reverse (take (known + k) events)) calls.items

pub stood_more : (known : ℕ) (events : List Event) (queues more : List (Vec ℕ Global)) (last : Vec ℕ Global) → StoodSince known events queues
    → AreQueued (reverse (take (known + length queues) events)) last.items → more ≡ queues ++ last ∷ [] → StoodSince known events more
stood_more known events queues more last stood are grown k calls at =
    either (last_or_earlier queues last k calls (subst (λ xs. slice_get xs k ≡ Some calls) grown at))
  where
    either : (slice_get queues k ≡ Some calls) ⊎ ((k ≡ length queues) × (last ≡ calls)) → AreQueued (reverse (take (known + k) events)) calls.items
    either (inl there) = stood k calls there
    either (inr (place, same)) =
        subst (λ (v : Vec ℕ Global). AreQueued (reverse (take (known + k) events)) v.items) same
        (subst (λ (n : ℕ). AreQueued (reverse (take (known + n) events)) last.items) (sym place) are)

-- the next event, at which there is a list of what stood in queues before it
pub lawful_next : (events : List Event) (at : ℕ) (event : Event) → at < length events → event ≡ get_or events at event → IsLawful (reverse events)
    → IsLawful (event ∷ reverse (take at events))
lawful_next events at event below is lawful =
    subst IsLawful (journal_more events at event below ∙ ap (λ e. e ∷ reverse (take at events)) (sym is)) (lawful_taken events (at + 1) lawful)

pub stood_before : (known at : ℕ) (events : List Event) (queues : List (Vec ℕ Global)) (last : Vec ℕ Global) → known ≤ at → length queues ≡ at - known + 1
    → StoodSince known events queues → last ≡ get_or queues (at - known) last → AreQueued (reverse (take at events)) last.items
stood_before known at events queues last within long stood is =
    subst (λ (n : ℕ). AreQueued (reverse (take n events)) last.items) (let e : known + (at - known) ≡ at = omega (arith, within) in e)
    (stood (at - known) last (slice_get_read queues (length queues) (at - known) last refl (omega (arith, within, long)) is))

pub stood_next : (known at : ℕ) (events : List Event) (event : Event) (queues more : List (Vec ℕ Global)) (next : Vec ℕ Global) → known ≤ at
    → at < length events → event ≡ get_or events at event → (length queues ≡ at - known + 1) × StoodSince known events queues
    → AreQueued (event ∷ reverse (take at events)) next.items → more ≡ queues ++ next ∷ []
    → (length more ≡ at + 1 - known + 1) × StoodSince known events more
stood_next known at events event queues more next within below is (long, stood) are grown = (
  omega (arith, ap length grown, length-append queues (next ∷ []), long, within),
  stood_more known events queues more next stood
      (subst (λ (n : ℕ). AreQueued (reverse (take n events)) next.items) (let e : at + 1 ≡ known + length queues = omega (arith, long, within) in e)
      (subst (λ (journal : List Event). AreQueued journal next.items)
      (ap (λ e. e ∷ reverse (take at events)) is ∙ sym (journal_more events at event below)) are))
      grown,
)

-- all events were taken
pub stood_all : (known at : ℕ) (events : List Event) (queues : List (Vec ℕ Global)) → known ≤ length events → length queues ≡ at - known + 1
    → at ≡ length events → StoodSince known events queues → AreQueuedSince known (reverse events) queues
stood_all known at events queues within long end stood = record {
  all = omega (arith, long, end, length-reverse events);
  each = λ k calls there.
      let below : k < length queues = slice_get_within queues k calls there in
      subst (λ (journal : List Event). AreQueued journal calls.items)
      (sym (first_taken events (known + k) (omega (arith, below, long, end, within)))) (stood k calls there);
}
