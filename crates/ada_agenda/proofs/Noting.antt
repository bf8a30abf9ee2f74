-- Agendas that are kept up with their journal.
use Rattle.std.proofs.Common.{◌≡◌, ◌≢◌, ℕ, ◌+◌, ◌<◌, ◌≤◌, Bool, true, false, not, ◌==◌, Some, List, ◌∷◌, length, sym, ap, ◌∙◌, subst, arith, ◌⊎◌, inl, inr}
use Rattle.std.specs.Option.{is_some}
use Rattle.std.proofs.lemmas.Bool.{cases_eq, cases_lt, true≢false, false≢true, both_ways, not_from_false, ne_eqb}
use Rattle.std.proofs.lemmas.Option.{none-some, same_Some}
use Rattle.ada_events.specs.declared.event.Event.{Event}
use Rattle.ada_events.specs.declared.event.Event.TheVariants.{Opened, Created, Started, Called, Paused}
use Rattle.ada_events.specs.declared.limits.TheConstants.{MOST_EVENTS}
use Rattle.ada_events.specs.Says.{Call, call_in, start_in, delay_in, creation_in}
use Rattle.ada_events.specs.Tasks.{task_count}
use Rattle.ada_events.specs.Phases.{is_suspended}
use Rattle.ada_events.specs.Lawful.{IsLawful}
use Rattle.ada_laws.specs.Suspension.{IsSuspendedAt}
use Rattle.ada_laws.proofs.asking.LimitLaws.{events_are_few}
use Rattle.ada_laws.proofs.searching.Searching.{event_at-within}
use Rattle.ada_laws.proofs.held.Suspending.{is_suspended-from, suspended_once}
use Rattle.ada_step_laws.specs.declared.row.Row.{Row}
use Rattle.ada_step_laws.specs.declared.row.Row.TheVariants.{Failing, Meeting, Cancelling, Waking, Activating, Terminating}
use Rattle.ada_step_laws.specs.CalledTasks.{IsCallOf}
use Rattle.ada_step_laws.specs.Rows.{rank, step_at}
use Rattle.ada_agenda.specs.declared.numbers.TheConstants.{MOST_KEYS}
use Rattle.ada_agenda.specs.Rows.{keeps}
use Rattle.ada_agenda.specs.Keeping.{has_key, IsAgendaOf, Grows, Puts, AsKey, When}
use Rattle.ada_agenda.specs.Keeping.{KeepsUpWithStart, KeepsUpWithDelay, KeepsUpWithCreation, KeepsUpWithCall}
use Rattle.ada_agenda.specs.internal.Keeping.{Both}
use Rattle.ada_agenda.specs.Keeping.AsKey.{itself as that_key}
use Rattle.ada_agenda.specs.Keeping.When.{holds_so}
use Rattle.ada_step_laws.specs.TouchedKeys.{is_uncallable}
use Rattle.ada_step_laws.specs.Kinds.{itself, is_immediate, is_immediate_call, OfCreation, OfStart, OfCall, OfDelay, Adds}
use Rattle.ada_step_laws.specs.Kinds.OfCreation.{goes}
use Rattle.ada_step_laws.specs.Kinds.OfStart.{is_over}
use Rattle.ada_step_laws.specs.Kinds.OfCall.{fails, is_cancelled, is_taken}
use Rattle.ada_step_laws.specs.Kinds.OfDelay.{wakes}
use Rattle.ada_step_laws.proofs.newly.Adding.{agendas_grow}
use Rattle.ada_step_laws.specs.Held.{IsHeldAt}

-- the position of the next event finds room in a row
pub next_fits : (before : List Event) → IsLawful before → length before + 1 < MOST_KEYS
next_fits before lawful = omega (arith, events_are_few before lawful)

-- and so does where a task is suspended, or 0 where it isn't
pub held_fits : (before : List Event) (task at : ℕ) → IsLawful before → IsHeldAt before task at → at < MOST_KEYS
held_fits before task at lawful held = elim (cases_lt 0 at) [
  | inl some ↦
      let h = held.held some in
      let within : at ≤ length before = event_at-within before at h.event h.stands in
      let few : length before ≤ MOST_EVENTS = events_are_few before lawful in
      omega arith
  | inr none ↦ omega arith
]

-- what is put in is there, and all that was
has_this : (new : List (List ℕ)) (at : Row) (k : ℕ) (row : Row) (key : ℕ) → has_key new at k ≡ true → AsKey at k row key → has_key new row key ≡ true
has_this new at k row key here that_key = here

pub key_put : (old new : List (List ℕ)) (row : Row) (key : ℕ) → has_key new row key ≡ true
    → ((other : Row) (k : ℕ) → (other ≢ row) ⊎ (k ≢ key) → has_key new other k ≡ has_key old other k) → Puts old new (AsKey row key)
key_put old new row key here others = record {
  grows = record {
    kept = λ other k was.
        elim (cases_eq (rank other) (rank row)) [
          | inr apart ↦ others other k (inl (λ same. apart (ap rank same))) ∙ was
          | inl same ↦
              elim (cases_eq k key) [
                | inr apart ↦ others other k (inr apart) ∙ was
                | inl one ↦ ap (λ (r : ℕ). keeps new r k) same ∙ (ap (keeps new (rank row)) one ∙ here)
              ]
        ];
  };
  here = λ other k of. has_this new row key other k here of;
}

pub grows_same : (old : List (List ℕ)) → Grows old old
grows_same old = record { kept = λ row key was. was }

pub grows_on : (old mid new : List (List ℕ)) → Grows old mid → Grows mid new → Grows old new
grows_on old mid new first second = record { kept = λ row key was. second.kept row key (first.kept row key was) }

-- keys that are put where that is so
so_key : (so : Bool) (Key : Row → ℕ → Type 0) (row : Row) (key : ℕ) → When so Key row key → Key row key
so_key so Key row key (holds_so is of) = of

pub so_put : (old new : List (List ℕ)) (so : Bool) (Key : Row → ℕ → Type 0) → Puts old new Key → Puts old new (When so Key)
so_put old new so Key puts = record { grows = puts.grows; here = λ row key of. puts.here row key (so_key so Key row key of) }

not_key : (new : List (List ℕ)) (so : Bool) (Key : Row → ℕ → Type 0) (row : Row) (key : ℕ) → so ≡ false → When so Key row key → has_key new row key ≡ true
not_key new so Key row key not_so (holds_so is of) = absurd (true≢false (sym is ∙ not_so))

pub not_put : (old : List (List ℕ)) (so : Bool) (Key : Row → ℕ → Type 0) → so ≡ false → Puts old old (When so Key)
not_put old so Key not_so = record { grows = grows_same old; here = λ row key of. not_key old so Key row key not_so of }

-- what was put stays, and more is put
pub both_put : (old mid new : List (List ℕ)) (One Other : Row → ℕ → Type 0) → Puts old mid One → Puts mid new Other → Puts old new (Both One Other)
both_put old mid new One Other one other = record {
  grows = grows_on old mid new one.grows other.grows;
  here = λ row key of.
      elim of [
        | inl first ↦ other.grows.kept row key (one.here row key first)
        | inr second ↦ other.here row key second
      ];
}

-- an agenda into which all was put that the event adds
pub noted : (event : Event) (before : List Event) (old new : List (List ℕ)) (Key : Row → ℕ → Type 0) → IsLawful (event ∷ before) → IsAgendaOf old before
    → Puts old new Key → ((row : Row) (key : ℕ) → Adds before event row key → Key row key) → IsAgendaOf new (event ∷ before)
noted event before old new Key lawful agenda puts all = record {
  covers =
      agendas_grow event before (has_key old) (has_key new) lawful agenda.covers puts.grows.kept
      (λ row key step added gives. puts.here row key (all row key added));
}

-- the same, where those of its keys were put at which a step is given
pub noted_giving : (event : Event) (before : List Event) (old new : List (List ℕ)) (Key : Row → ℕ → Type 0) → IsLawful (event ∷ before)
    → IsAgendaOf old before → Puts old new Key
    → ((row : Row) (key : ℕ) (step : Event) → Adds before event row key → step_at (event ∷ before) row key ≡ Some step → Key row key)
    → IsAgendaOf new (event ∷ before)
noted_giving event before old new Key lawful agenda puts all = record {
  covers =
      agendas_grow event before (has_key old) (has_key new) lawful agenda.covers puts.grows.kept
      (λ row key step added gives. puts.here row key (all row key step added gives));
}

pub own_is : (before : List Event) (own : ℕ) → own ≡ length before + 1 → own ≡ itself before
own_is before own same = omega (arith, same)

-- a start
of_start : (event : Event) (before : List Event) (row : Row) (key : ℕ) → is_some (start_in event) ≡ true → Adds before event row key → OfStart before row key
unfolding start_in
of_start (Started by tasks) before row key starts added = added
of_start (Opened by under) before row key starts added = absurd (false≢true starts)
of_start _ before row key starts added = absurd (false≢true starts)

start_key : (before : List Event) (own : ℕ) (row : Row) (key : ℕ) → own ≡ itself before → OfStart before row key → AsKey Activating own row key
start_key before own row key same is_over = rw same that_key

pub start_noted : (old new : List (List ℕ)) (own : ℕ) → Puts old new (AsKey Activating own) → KeepsUpWithStart own old new
start_noted old new own puts event before starts same lawful agenda =
    noted event before old new (AsKey Activating own) lawful agenda puts
    (λ row key added. start_key before own row key (own_is before own same) (of_start event before row key starts added))

-- a delay
of_delay : (event : Event) (before : List Event) (row : Row) (key : ℕ) → is_some (delay_in event) ≡ true → Adds before event row key → OfDelay before row key
unfolding delay_in
of_delay (Paused by due) before row key delays added = added
of_delay _ before row key delays added = absurd (false≢true delays)

delay_key : (before : List Event) (own : ℕ) (row : Row) (key : ℕ) → own ≡ itself before → OfDelay before row key → AsKey Waking own row key
delay_key before own row key same wakes = rw same that_key

pub delay_noted : (old new : List (List ℕ)) (own : ℕ) → Puts old new (AsKey Waking own) → KeepsUpWithDelay own old new
delay_noted old new own puts event before delays same lawful agenda =
    noted event before old new (AsKey Waking own) lawful agenda puts
    (λ row key added. delay_key before own row key (own_is before own same) (of_delay event before row key delays added))

-- a creation
of_creation : (event : Event) (before : List Event) (row : Row) (key : ℕ) → is_some (creation_in event) ≡ true → Adds before event row key
    → OfCreation before row key
unfolding creation_in
of_creation (Created by under master families) before row key creates added = added
of_creation _ before row key creates added = absurd (false≢true creates)

creation_key : (before : List Event) (task : ℕ) (row : Row) (key : ℕ) → task ≡ task_count before → OfCreation before row key
    → AsKey Terminating task row key
creation_key before task row key same goes = rw same that_key

pub creation_noted : (old new : List (List ℕ)) (task : ℕ) → Puts old new (AsKey Terminating task) → KeepsUpWithCreation task old new
creation_noted old new task puts event before creates same lawful agenda =
    noted event before old new (AsKey Terminating task) lawful agenda puts
    (λ row key added. creation_key before task row key same (of_creation event before row key creates added))

-- a call
of_call : (event : Event) (before : List Event) (callee : ℕ) (row : Row) (key : ℕ) → IsCallOf event callee → Adds before event row key
    → OfCall before callee (is_immediate_call before event) row key
unfolding call_in
of_call (Called by task entry patience due) before callee row key calls added =
    let same : task.0 ≡ callee = ap (λ (c : Call). c.callee) (same_Some _ calls.call calls.says) ∙ calls.of in
    subst (λ (n : ℕ). OfCall before n (is_immediate before patience due) row key) same added
of_call _ before callee row key calls added = absurd (none-some calls.call calls.says)

-- where a task is suspended, if it is
pub held_there : (before : List Event) (task at p : ℕ) → IsLawful before → IsHeldAt before task at → IsSuspendedAt before task p → (0 < at) × (p ≡ at)
held_there before task at p lawful held suspended =
    elim (cases_lt 0 at) [
      | inl some ↦ (some, suspended_once before task p at lawful suspended (held.held some))
      | inr none ↦ absurd (both_ways (is_suspended before task) (held.free (omega arith)) (is_suspended-from before task p suspended))
    ]

-- a position isn't 0
not_none : (at : ℕ) → 0 < at → not (at == 0) ≡ true
not_none at some = not_from_false (at == 0) (ne_eqb at 0 (λ none. omega (arith, some, none)))

-- all that is put for a call, where that is so
abbrev pub CallKeys : ℕ → ℕ → Bool → Bool → Row → ℕ → Type 0
CallKeys own at lost immediate =
    Both (Both (When lost (AsKey Failing own)) (When immediate (AsKey Cancelling own))) (When (not (at == 0)) (AsKey Meeting at))

call_key : (before : List Event) (callee at own : ℕ) (lost immediate : Bool) (row : Row) (key : ℕ) → IsLawful before → IsHeldAt before callee at
    → own ≡ itself before → lost ≡ is_uncallable before callee → OfCall before callee immediate row key → CallKeys own at lost immediate row key
call_key before callee at own lost immediate row key lawful held same is (fails so) = inl (inl (holds_so (is ∙ so) (rw same that_key)))
call_key before callee at own lost immediate row key lawful held same is (is_cancelled gives) = inl (inr (holds_so gives (rw same that_key)))
call_key before callee at own lost immediate row key lawful held same is (is_taken p suspended) =
    let there = held_there before callee at p lawful held suspended in
    inr (holds_so (not_none at there.0) (rw there.1 that_key))

pub call_noted : (old new : List (List ℕ)) (own at : ℕ) (lost immediate : Bool) → Puts old new (CallKeys own at lost immediate)
    → KeepsUpWithCall own at lost immediate old new
call_noted old new own at lost immediate puts event before callee calls same held is_lost gives lawful agenda =
    noted event before old new (CallKeys own at lost immediate) lawful agenda puts (λ row key added.
    call_key before callee at own lost immediate row key lawful.0 held (own_is before own same) is_lost
    (subst (λ so. OfCall before callee so row key) (sym gives) (of_call event before callee row key calls added)))
