-- Keys that are put into an agenda.
use Rattle.std.proofs.Common.{◌≡◌, ℕ, ◌+◌, ◌≤◌, Bool, true, List, sym, ap, ◌∙◌, subst, arith, inl, inr}
use Rattle.std.proofs.lemmas.Bool.{cases_lt}
use Rattle.ada_events.specs.declared.event.Event.{Event}
use Rattle.ada_events.specs.Search.{is_some_and, event_at}
use Rattle.ada_events.specs.Says.{Call}
use Rattle.ada_events.specs.Lawful.{IsLawful}
use Rattle.ada_laws.specs.Calls.{IsCallAt}
use Rattle.ada_step_laws.specs.declared.row.Row.{Row}
use Rattle.ada_step_laws.specs.declared.row.Row.TheVariants.{Failing}
use Rattle.ada_step_laws.specs.Held.{IsHeldAt}
use Rattle.ada_agenda.specs.Keeping.{Puts, AsKey, When}
use Rattle.ada_agenda.proofs.Noting.{grows_same, grows_on, held_there}
use Rattle.ada_triggers.specs.internal.Keys.{OfFirst, AsHeld, AsCaller, is_of_row, calls}
use Rattle.ada_agenda.specs.Keeping.AsKey.{itself}
use Rattle.ada_triggers.specs.internal.Keys.AsHeld.{held}
use Rattle.ada_triggers.specs.internal.Keys.AsCaller.{fails}
use Rattle.ada_agenda.specs.Keeping.When.{holds_so}

pub puts_none : (old : List (List ℕ)) (Key : ℕ → Row → ℕ → Type 0) → Puts old old (OfFirst Key 0)
puts_none old Key = record { grows = grows_same old; here = λ row key first. absurd (omega (arith, first.among)) }

-- those of one more task
pub puts_more : (old mid new : List (List ℕ)) (Key : ℕ → Row → ℕ → Type 0) (n : ℕ) → Puts old mid (OfFirst Key n) → Puts mid new (Key n)
    → Puts old new (OfFirst Key (n + 1))
puts_more old mid new Key n so_far one = record {
  grows = grows_on old mid new so_far.grows one.grows;
  here = λ row key first.
      elim (cases_lt first.task n) [
        | inl older ↦ one.grows.kept row key (so_far.here row key (record { task = first.task; among = older; of = first.of }))
        | inr newest ↦
            let same : first.task ≡ n = omega (arith, first.among, newest) in
            one.here row key (subst (λ t. Key t row key) same first.of)
      ];
}

-- those of all
pub puts_all : (old new : List (List ℕ)) (Key : ℕ → Row → ℕ → Type 0) (n many : ℕ) → Puts old new (OfFirst Key n) → many ≤ n
    → Puts old new (OfFirst Key many)
puts_all old new Key n many puts enough = record {
  grows = puts.grows;
  here = λ row key first. puts.here row key (record { task = first.task; among = omega (arith, first.among, enough); of = first.of });
}

-- keys are put where all of others are put that cover them
pub covered_put : (old new : List (List ℕ)) (Key Wider : Row → ℕ → Type 0) → Puts old new Wider → ((row : Row) (key : ℕ) → Key row key → Wider row key)
    → Puts old new Key
covered_put old new Key Wider puts covers = record { grows = puts.grows; here = λ row key of. puts.here row key (covers row key of) }

held_key : (journal : List Event) (at : Row) (task p : ℕ) (so : Bool) (row : Row) (key : ℕ) → IsLawful journal → IsHeldAt journal task p
    → so ≡ is_some_and (event_at journal p) (is_of_row at) → AsHeld journal at task row key → When so (AsKey at p) row key
held_key journal at task p so row key lawful is so_is (held event q stands fits suspended) =
    let there = held_there journal task p q lawful is suspended in
    let here_fits : is_some_and (event_at journal q) (is_of_row at) ≡ true = rw stands fits in
    holds_so (so_is ∙ ap (λ n. is_some_and (event_at journal n) (is_of_row at)) (sym there.1) ∙ here_fits) (rw there.1 itself)

pub held_put : (journal : List Event) (old new : List (List ℕ)) (at : Row) (task p : ℕ) (so : Bool) → IsLawful journal → IsHeldAt journal task p
    → so ≡ is_some_and (event_at journal p) (is_of_row at) → Puts old new (When so (AsKey at p)) → Puts old new (AsHeld journal at task)
held_put journal old new at task p so lawful is so_is puts =
    covered_put old new (AsHeld journal at task) (When so (AsKey at p)) puts (λ row key of. held_key journal at task p so row key lawful is so_is of)

-- a call to one of those tasks at a position
is_called : (journal : List Event) (those : ℕ → Bool) (p : ℕ) (call : Call) → IsCallAt journal call p → those call.callee ≡ true
    → is_some_and (event_at journal p) (calls those) ≡ true
is_called journal those p call at to = rw (at.stands, at.says) to

caller_key : (journal : List Event) (those : ℕ → Bool) (task p : ℕ) (so : Bool) (row : Row) (key : ℕ) → IsLawful journal → IsHeldAt journal task p
    → so ≡ is_some_and (event_at journal p) (calls those) → AsCaller journal those task row key → When so (AsKey Failing p) row key
caller_key journal those task p so row key lawful is so_is (fails call q at suspended to) =
    let there = held_there journal task p q lawful is suspended in
    holds_so (so_is ∙ ap (λ n. is_some_and (event_at journal n) (calls those)) (sym there.1) ∙ is_called journal those q call at to) (rw there.1 itself)

pub caller_put : (journal : List Event) (old new : List (List ℕ)) (those : ℕ → Bool) (task p : ℕ) (so : Bool) → IsLawful journal → IsHeldAt journal task p
    → so ≡ is_some_and (event_at journal p) (calls those) → Puts old new (When so (AsKey Failing p)) → Puts old new (AsCaller journal those task)
caller_put journal old new those task p so lawful is so_is puts =
    covered_put old new (AsCaller journal those task) (When so (AsKey Failing p)) puts (λ row key of.
    caller_key journal those task p so row key lawful is so_is of)
