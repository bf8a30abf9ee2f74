-- Why the kernel refuses: what its present journal refuses is refused for the same cause by the journal that is followed, or
-- for want of room.
use Rattle.std.proofs.Common.{◌≡◌, ◌⊎◌, Bool, true, false, Option, Some, None, List, [], ◌∷◌, refl, sym, ap, ◌∙◌, inl, inr}
use Rattle.std.specs.Prelude.{is_some}
use Rattle.std.specs.Option.{option_or}
use Rattle.std.specs.List.{list_any}
use Rattle.std.proofs.lemmas.Bool.{cases_Bool, or_left, or_right, true≢false}
use Rattle.std.proofs.lemmas.Option.{none-some, same_Some}
use Rattle.ada_events.specs.declared.event.Event.{Event}
use Rattle.ada_events.specs.declared.request.Request.{Request}
use Rattle.ada_events.specs.declared.request.Request.TheVariants.{Create}
use Rattle.ada_events.specs.declared.refusal.Refusal.{Refusal}
use Rattle.ada_events.specs.declared.refusal.Refusal.TheVariants.{TooManyTasks, TooManySlots, JournalFull, OutOfMemory}
use Rattle.ada_events.specs.Limits.{makes_too_many_tasks, makes_too_many_slots, is_full}
use Rattle.ada_events.specs.Refusals.{Cause, causes, refusal, first_cause}
use Rattle.ada_laws.specs.Unlimited.{refusal_but_limits, causes_but_limits, limit_refusal}
use Rattle.ada_laws.proofs.asking.Limitless.{limits_refuse_at_last}
use Rattle.ada_standing.specs.Renaming.{Renaming}
use Rattle.ada_standing.specs.Asking.{renamed_request}
use Rattle.ada_lasting.specs.declared.failure.NotDone.{NotDone}
use Rattle.ada_lasting.specs.declared.failure.NotDone.TheVariants.{Refused, GivenUp, NotTerminated, NotCompacted, NoMoreNames}
use Rattle.ada_lasting.specs.declared.requests.LastingMaster.{LastingMaster}
use Rattle.ada_lasting.specs.Following.{Long}
use Rattle.ada_lasting.specs.Refusing.{IsCause, creates}
use Rattle.ada_lasting.specs.internal.Causes.{named_cause, IsRoomless, IsUnnamed}

-- the limit that the cause names is reached, that of the journal's length too
pub data IsReached (tasks slots full : Bool) (cause : Refusal) : Type 0 where
  of_tasks : cause ≡ TooManyTasks → tasks ≡ true → IsReached tasks slots full cause
  of_slots : cause ≡ TooManySlots → slots ≡ true → IsReached tasks slots full cause
  of_events : cause ≡ JournalFull → full ≡ true → IsReached tasks slots full cause

of_limits : (t s f : Bool) (cause : Refusal)
    → first_cause (record { applies = t; name = TooManyTasks } ∷ record { applies = s; name = TooManySlots } ∷ record { applies = f; name = JournalFull } ∷ [])
    ≡ Some cause
    → IsReached t s f cause
unfolding first_cause
of_limits true s f cause is = IsReached.of_tasks (sym (same_Some TooManyTasks cause is)) refl
of_limits false true f cause is = IsReached.of_slots (sym (same_Some TooManySlots cause is)) refl
of_limits false false true cause is = IsReached.of_events (sym (same_Some JournalFull cause is)) refl
of_limits false false false cause is = absurd (none-some cause is)

-- the limit that the cause names is reached by a request to a journal
abbrev pub IsReachedBy : List Event → Request → Refusal → Type 0
IsReachedBy journal request = IsReached (makes_too_many_tasks journal request) (makes_too_many_slots journal request) (is_full journal)

limit_named : (journal : List Event) (request : Request) (cause : Refusal) → limit_refusal journal request ≡ Some cause → IsReachedBy journal request cause
unfolding limit_refusal causes
limit_named journal request cause is = of_limits (makes_too_many_tasks journal request) (makes_too_many_slots journal request) (is_full journal) cause is

-- what a kernel answers when it refuses, told by the causes that have to do with no limit
pub data IsNamed (present : List Event) (asked : Request) (o : Option Refusal) (cause : Refusal) : Type 0 where
  by_cause : o ≡ Some cause → IsNamed present asked o cause
  by_limit : o ≡ None → IsReachedBy present asked cause → IsNamed present asked o cause
  by_memory : o ≡ None → cause ≡ OutOfMemory → IsNamed present asked o cause

pub named_by_limits : (journal : List Event) (request : Request) (cause : Refusal)
    → (refusal journal request ≡ Some cause) ⊎ ((refusal journal request ≡ None) × (cause ≡ OutOfMemory))
    → IsNamed journal request (refusal_but_limits journal request) cause
named_by_limits journal request cause named =
    by (refusal_but_limits journal request) (limit_refusal journal request) refl (limits_refuse_at_last journal request) named
  where
    by : (o l : Option Refusal) → l ≡ limit_refusal journal request → refusal journal request ≡ option_or o l
        → (refusal journal request ≡ Some cause) ⊎ ((refusal journal request ≡ None) × (cause ≡ OutOfMemory)) → IsNamed journal request o cause
    by (Some c) l limit is (inl refuses) = IsNamed.by_cause (sym is ∙ refuses)
    by (Some c) l limit is (inr (none, memory)) = absurd (none-some c (sym none ∙ is))
    by None l limit is (inl refuses) = IsNamed.by_limit refl (limit_named journal request cause (sym limit ∙ (sym is ∙ refuses)))
    by None l limit is (inr (none, memory)) = IsNamed.by_memory refl memory

-- where tasks, slots and events have no limit, no journal is full

found_by_name : (test : Refusal → Bool) (causes : List Cause) (name : Refusal) → first_cause causes ≡ Some name → test name ≡ true
    → list_any (λ (c : Cause). test c.name) causes ≡ true
unfolding first_cause
found_by_name test [] name is passes = absurd (none-some name is)
found_by_name test (c ∷ rest) name is passes = elim (cases_Bool c.applies) [
  | inl applies ↦ or_left (test c.name) (list_any (λ (d : Cause). test d.name) rest) (ap test (same_Some c.name name (rw applies at is)) ∙ passes)
  | inr passed ↦ or_right (test c.name) (list_any (λ (d : Cause). test d.name) rest) (found_by_name test rest name (rw passed at is) passes)
]

abbrev is_journal_full : Refusal → Bool
is_journal_full JournalFull = true
is_journal_full _ = false

never_full : (journal : List Event) (request : Request) → refusal_but_limits journal request ≡ Some JournalFull → ⊥
unfolding refusal_but_limits causes_but_limits causes
never_full journal request is =
    let named : list_any (λ (c : Cause). is_journal_full c.name) (causes_but_limits journal request) ≡ true =
    found_by_name is_journal_full (causes_but_limits journal request) JournalFull is refl in
    true≢false (sym named)

-- a request that is asked under other names makes as many tasks and slots

tasks_alike : (present : List Event) (names : Renaming) (request : Request)
    → makes_too_many_tasks present (renamed_request names request) ≡ makes_too_many_tasks present request
unfolding makes_too_many_tasks renamed_request
tasks_alike present names (Create by master families) = refl
tasks_alike present names request = refl

slots_alike : (present : List Event) (names : Renaming) (request : Request)
    → makes_too_many_slots present (renamed_request names request) ≡ makes_too_many_slots present request
unfolding makes_too_many_slots renamed_request
slots_alike present names (Create by master families) = refl
slots_alike present names request = refl

-- the kernel's answer names the cause of the journal that is followed
module _ (journal : List Event) (request : Request) (kernel : Long) (names : Renaming) where
  limit_is_cause : (cause : Refusal) → refusal_but_limits journal request ≡ None → IsReachedBy kernel.present (renamed_request names request) cause
      → IsCause journal request kernel (named_cause cause)
  limit_is_cause TooManyTasks none (IsReached.of_tasks same reached) = inr (inl (none, sym (tasks_alike kernel.present names request) ∙ reached))
  limit_is_cause TooManySlots none (IsReached.of_slots same reached) = inr (inl (none, sym (slots_alike kernel.present names request) ∙ reached))
  limit_is_cause JournalFull none (IsReached.of_events same reached) = reached
  limit_is_cause cause none (IsReached.of_tasks same reached) = absurd cc
  limit_is_cause cause none (IsReached.of_slots same reached) = absurd cc
  limit_is_cause cause none (IsReached.of_events same reached) = absurd cc

  pub is_cause : (cause : Refusal) → IsNamed kernel.present (renamed_request names request) (refusal_but_limits journal request) cause
      → IsCause journal request kernel (named_cause cause)
  is_cause JournalFull (IsNamed.by_cause is) = absurd (never_full journal request is)
  is_cause JournalFull (IsNamed.by_memory none memory) = absurd cc
  is_cause cause (IsNamed.by_cause is) = inl is
  is_cause cause (IsNamed.by_limit none reached) = limit_is_cause cause none reached
  is_cause cause (IsNamed.by_memory none memory) = inr (inr (memory, inl none))

-- where there is no room for a request, that is its cause
pub roomless_is_cause : (journal : List Event) (request : Request) (kernel : Long) (cause : NotDone) → IsRoomless kernel cause
    → IsCause journal request kernel cause
roomless_is_cause journal request kernel (NotCompacted why) want = want
roomless_is_cause journal request kernel NoMoreNames want = inl want
roomless_is_cause journal request kernel (Refused cause) want = absurd want
roomless_is_cause journal request kernel (GivenUp task) want = absurd want
roomless_is_cause journal request kernel (NotTerminated task) want = absurd want

-- and so where there is no name for the task that it makes
pub unnamed_is_cause : (journal : List Event) (request : Request) (kernel : Long) (master : Option LastingMaster) → is_some master ≡ creates request
    → (cause : NotDone) → IsUnnamed master kernel.names cause → IsCause journal request kernel cause
unnamed_is_cause journal request kernel master makes (Refused cause) (memory, some) = inr (inr (memory, inr (sym makes ∙ some)))
unnamed_is_cause journal request kernel master makes NoMoreNames (some, last) = inr (sym makes ∙ some, last)
unnamed_is_cause journal request kernel master makes (GivenUp task) want = absurd want
unnamed_is_cause journal request kernel master makes (NotTerminated task) want = absurd want
unnamed_is_cause journal request kernel master makes (NotCompacted why) want = absurd want
