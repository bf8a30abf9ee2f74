-- The last request, and the steps that it forced.
use Rattle.std.proofs.Common.{◌≡◌, ℕ, ◌+◌, ◌-◌, ◌<◌, ◌≤◌, true, false, List, [], ◌∷◌, ◌++◌, length, reverse, take, drop, get_or}
use Rattle.std.proofs.Common.{refl, sym, ap, ◌∙◌, arith, inl, inr}
use Rattle.std.proofs.lemmas.Bool.{cases_Bool}
use Rattle.std.proofs.lemmas.List.{reverse-append, reverse-reverse, length-reverse, take_at, drop_at}
use Rattle.ada_events.specs.declared.event.Event.{Event}
use Rattle.ada_events.proofs.Beginnings.{journal_more, length_journal}
use Rattle.ada_waiting.specs.Runnable.{is_step, before_last}
use Rattle.ada_waiting.specs.internal.Going.{last_group}

-- going down a journal over the steps
pub before_last_less : (events : List Event) (n : ℕ) (d : Event) → 0 < n → n ≤ length events → is_step (get_or events (n - 1) d) ≡ true
    → before_last (reverse (take n events)) ≡ before_last (reverse (take (n - 1) events))
unfolding before_last
before_last_less events n d low high is =
    let e : n ≡ n - 1 + 1 = omega arith in
    let step : reverse (take n events) ≡ get_or events (n - 1) d ∷ reverse (take (n - 1) events) =
    ap (λ k. reverse (take k events)) e ∙ journal_more events (n - 1) d (omega arith) in
    rw (step, is) refl

-- to the event of the request
pub before_last_at : (events : List Event) (n : ℕ) (d : Event) → 0 < n → n ≤ length events → is_step (get_or events (n - 1) d) ≡ false
    → length (before_last (reverse (take n events))) ≡ n - 1
unfolding before_last
before_last_at events n d low high is =
    let e : n ≡ n - 1 + 1 = omega arith in
    let step : reverse (take n events) ≡ get_or events (n - 1) d ∷ reverse (take (n - 1) events) =
    ap (λ k. reverse (take k events)) e ∙ journal_more events (n - 1) d (omega arith) in
    rw (step, is) (length_journal events (n - 1) (omega arith))

-- group and what was before make up the journal
pub group_and_before : (journal : List Event) → last_group journal ++ before_last journal ≡ journal
unfolding last_group before_last
group_and_before [] = refl
group_and_before (event ∷ before) =
    elim (cases_Bool (is_step event)) [
      | inl step ↦ rw step (ap (λ l. event ∷ l) (group_and_before before))
      | inr asked ↦ rw asked refl
    ]

-- and so they do in the order of arrival
parts : (journal : List Event) → reverse (before_last journal) ++ reverse (last_group journal) ≡ reverse journal
parts journal =
    sym (reverse-append (last_group journal) (before_last journal)) ∙ ap reverse (group_and_before journal)

-- the first so many events in the order of arrival are the journal before the last request, and the rest its group
pub first_part : (events : List Event) (n : ℕ) → n ≡ length (before_last (reverse events)) → reverse (take n events) ≡ before_last (reverse events)
first_part events n many =
    ap reverse (ap (take n) (sym (parts (reverse events) ∙ reverse-reverse events))
    ∙ take_at (reverse (before_last (reverse events))) (reverse (last_group (reverse events))) n (length-reverse (before_last (reverse events)) ∙ sym many))
    ∙ reverse-reverse (before_last (reverse events))

pub last_part : (events : List Event) (n : ℕ) → n ≡ length (before_last (reverse events)) → reverse (drop n events) ≡ last_group (reverse events)
last_part events n many =
    ap reverse (ap (drop n) (sym (parts (reverse events) ∙ reverse-reverse events))
    ∙ drop_at (reverse (before_last (reverse events))) (reverse (last_group (reverse events))) n (length-reverse (before_last (reverse events)) ∙ sym many))
    ∙ reverse-reverse (last_group (reverse events))
