-- One event more, or one less, in a loop that looks for the latest of what events give.
use Rattle.std.proofs.Common.{◌≡◌, ℕ, suc, ◌+◌, ◌-◌, ◌<◌, ◌≤◌, List, ◌∷◌, Option, Some, None, length, reverse, take, get_or, refl, ap, ◌∙◌, arith}
use Rattle.std.specs.Prelude.{if◌then◌else◌}
use Rattle.std.specs.Option.{option_or}
use Rattle.ada_events.specs.declared.event.Event.{Event}
use Rattle.ada_events.specs.Search.{is_number}
use Rattle.ada_events.specs.Says.{released_in}
use Rattle.ada_events.specs.Outcomes.{released_to, became, last_given}
use Rattle.ada_events.proofs.Beginnings.{journal_more, length_journal}

pub became_more : (position : ℕ) (events : List Event) (i : ℕ) (d : Event) → i < length events
    → became (reverse (take (i + 1) events)) position
    ≡ (if is_number position (released_in (get_or events i d)) then released_to (reverse (take i events)) (get_or events i d)
    else became (reverse (take i events)) position)
unfolding became
became_more position events i d below = rw (journal_more events i d below) refl

option_or-assoc : {A : Type 0} (a b c : Option A) → option_or a (option_or b c) ≡ option_or (option_or a b) c
option_or-assoc None b c = refl
option_or-assoc (Some x) b c = refl

-- going down a journal: what a later event gave, or this one, or what is found further down
pub last_given_less : {A : Type 0} (later : Option A) (give : ℕ → Event → Option A) (events : List Event) (n : ℕ) (d : Event) → 0 < n → n ≤ length events
    → option_or later (last_given give (reverse (take n events)))
    ≡ option_or (option_or later (give n (get_or events (n - 1) d))) (last_given give (reverse (take (n - 1) events)))
unfolding last_given
last_given_less later give events n d low high =
    let e : n ≡ n - 1 + 1 = omega arith in
    let step : reverse (take n events) ≡ get_or events (n - 1) d ∷ reverse (take (n - 1) events) =
    ap (λ k. reverse (take k events)) e ∙ journal_more events (n - 1) d (omega arith) in
    let there : suc (length (reverse (take (n - 1) events))) ≡ n = omega (arith, length_journal events (n - 1) (omega arith)) in
    rw (step, there) (option_or-assoc later (give n (get_or events (n - 1) d)) (last_given give (reverse (take (n - 1) events))))
