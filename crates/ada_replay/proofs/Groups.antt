-- The text of a group, event by event.
use Rattle.std.proofs.Common.{◌≡◌, ℕ, suc, ◌+◌, ◌<◌, ◌≤◌, false, List, [], ◌∷◌, ◌++◌, length, reverse, take, get_or, refl, ap, sym, ◌∙◌, arith, append_assoc}
use Rattle.std.proofs.Common.{append-nil, Result, Ok, Err, OnOk, true≢false}
use Rattle.std.specs.Result.{is_err}
use Rattle.std.proofs.lemmas.Bool.{lt-ltb, le-ltb}
use Rattle.ada_events.specs.declared.event.Event.{Event}
use Rattle.ada_events.proofs.Beginnings.{journal_more, length_journal}
use Rattle.ada_statements.specs.Scope.{Scope}
use Rattle.ada_printing.specs.Texts.{event_line}
use Rattle.ada_replay.specs.Play.{group_text}

behind : (names : Scope) (from : ℕ) (event : Event) (before : List Event) → from ≤ length before
    → group_text names from (event ∷ before) ≡ group_text names from before ++ event_line names (suc (length before)) event
unfolding group_text
behind names from event before within = rw (le-ltb (length before) from within) refl

none_behind : (names : Scope) (from : ℕ) (journal : List Event) → length journal ≤ from → group_text names from journal ≡ []
unfolding group_text
none_behind names from [] within = refl
none_behind names from (event ∷ before) within = rw (lt-ltb (length before) from within) refl

group_text_none : (names : Scope) (events : List Event) (from : ℕ) → from ≤ length events → group_text names from (reverse (take from events)) ≡ []
group_text_none names events from within = none_behind names from (reverse (take from events)) (omega (arith, length_journal events from within))

group_text_more : (names : Scope) (from : ℕ) (events : List Event) (i : ℕ) (d : Event) → i < length events → from ≤ i
    → group_text names from (reverse (take (i + 1) events)) ≡ group_text names from (reverse (take i events)) ++ event_line names (i + 1) (get_or events i d)
group_text_more names from events i d below within =
    let count : length (reverse (take i events)) ≡ i = length_journal events i (omega arith) in
    ap (group_text names from) (journal_more events i d below)
    ∙ behind names from (get_or events i d) (reverse (take i events)) (omega arith)
    ∙ ap (λ k. group_text names from (reverse (take i events)) ++ event_line names k (get_or events i d))
    (let e : suc (length (reverse (take i events))) ≡ i + 1 = omega arith in e)

-- behind a text, no event appends nothing
pub group_begins : (names : Scope) (text : List ℕ) (events : List Event) (from : ℕ) → from ≤ length events
    → text ≡ text ++ group_text names from (reverse (take from events))
group_begins names text events from within = sym (ap (λ t. text ++ t) (group_text_none names events from within) ∙ append-nil text)

holds : {T E : Type 0} (answer : Result T E) (P : Type 0) → OnOk answer P → is_err answer ≡ false → P
holds (Ok done) P is fine = is
holds (Err fault) P is fine = absurd (true≢false fine)

-- and one more event, where it is printed, its line
pub group_grows : {T E : Type 0} (names : Scope) (from : ℕ) (old text more : List ℕ) (events : List Event) (i : ℕ) (event : Event) (answer : Result T E)
    → i < length events → from ≤ i → text ≡ old ++ group_text names from (reverse (take i events)) → event ≡ get_or events i event
    → is_err answer ≡ false → OnOk answer (more ≡ text ++ event_line names (i + 1) event)
    → more ≡ old ++ group_text names from (reverse (take (i + 1) events))
group_grows names from old text more events i event answer below within so_far is fine printed =
    let said : List ℕ = event_line names (i + 1) event in
    let whole : group_text names from (reverse (take i events)) ++ said ≡ group_text names from (reverse (take (i + 1) events)) =
    ap (λ e. group_text names from (reverse (take i events)) ++ event_line names (i + 1) e) is ∙ sym (group_text_more names from events i event below within) in
    holds answer (more ≡ text ++ said) printed fine
    ∙ ap (λ t. t ++ said) so_far
    ∙ append_assoc old (group_text names from (reverse (take i events))) said
    ∙ ap (λ t. old ++ t) whole
