-- What one more event changes in the queue of an entry.
use Rattle.std.proofs.Common.{◌≡◌, ℕ, suc, Bool, true, false, cond, not, ◌&&◌, ◌||◌, Option, Some, None, List, [], ◌∷◌, ◌++◌, length, sym, refl, ap, eqb}
use Rattle.std.specs.Option.{option_map_or, option_to_list}
use Rattle.std.specs.Bool.{then_some}
use Rattle.std.specs.List.{list_any, filter}
use Rattle.std.proofs.lemmas.List.Elements.{filter-append}
use Rattle.std.proofs.Math.Bool.{and-false}
use Rattle.ada_events.specs.declared.event.Event.{Event}
use Rattle.ada_events.specs.declared.names.Entry.{Entry}
use Rattle.ada_events.specs.Search.{is_number, gathered, event_at, is_some_and}
use Rattle.ada_events.specs.Says.{Call, Meeting, call_in, meeting_in, released_in, completed_in, gone_in, quit_in}
use Rattle.ada_events.specs.Masters.{depends_on}
use Rattle.ada_events.specs.Phases.{is_released, is_completed, is_terminated, has_ended}
use Rattle.ada_events.specs.Calls.{is_met, is_open_at, is_queued_at, is_call_of, queue, is_pending}
use Rattle.ada_laws.proofs.searching.Searching.{then_some-some, event_at-older, event_at-newest}

-- a search that keeps some of what another one gives
none_kept : (b : Bool) → option_to_list (cond b (let o : Option ℕ = None in o) None) ≡ []
none_kept true = refl
none_kept false = refl

one_kept : (b : Bool) (p : ℕ) → option_to_list (cond b (Some p) None) ≡ cond b (p ∷ []) []
one_kept true p = refl
one_kept false p = refl

filter_one : (keep : ℕ → Bool) (p : ℕ) (o : Option ℕ) → ((q : ℕ) → o ≡ Some q → q ≡ p) → option_to_list (cond (keep p) o None) ≡ filter keep (option_to_list o)
filter_one keep p None itself = none_kept (keep p)
filter_one keep p (Some q) itself = rw (itself q refl) (one_kept (keep p) p)

pub gathered-kept : (give more : ℕ → Event → Option ℕ) (keep : ℕ → Bool) (journal : List Event) → ((p q : ℕ) (e : Event) → give p e ≡ Some q → q ≡ p)
    → ((p : ℕ) (e : Event) → event_at journal p ≡ Some e → more p e ≡ cond (keep p) (give p e) None)
    → gathered more journal ≡ filter keep (gathered give journal)
unfolding gathered
gathered-kept give more keep [] itself same = refl
gathered-kept give more keep (event ∷ before) itself same =
    let older = gathered-kept give more keep before itself (λ p e at. same p e (event_at-older event before p e at)) in
    let newest = same (suc (length before)) event (event_at-newest event before) in
    rw (older, newest, filter-append keep (gathered give before) (option_to_list (give (suc (length before)) event)))
    (ap (λ xs. filter keep (gathered give before) ++ xs)
    (filter_one keep (suc (length before)) (give (suc (length before)) event) (λ q gives. itself (suc (length before)) q event gives)))

abbrev gives_call : List Event → ℕ → Entry → ℕ → Event → Option ℕ
gives_call journal task entry p e = then_some (is_call_of task entry e && is_queued_at journal p e) p

gives_itself : (journal : List Event) (task : ℕ) (entry : Entry) (p q : ℕ) (e : Event) → gives_call journal task entry p e ≡ Some q → q ≡ p
gives_itself journal task entry p q e gives = sym (then_some-some (is_call_of task entry e && is_queued_at journal p e) p q gives).1

kept_call : (k : Bool) (c q : Bool) (p : ℕ) → then_some (c && (q && k)) p ≡ cond k (then_some (c && q) p) None
kept_call true true true p = refl
kept_call true true false p = refl
kept_call true false q p = refl
kept_call false true true p = refl
kept_call false true false p = refl
kept_call false false q p = refl

-- the newest call, where it is one of an entry
abbrev pub newest_call : Event → List Event → ℕ → Entry → List ℕ
newest_call event before task entry = option_to_list (gives_call (event ∷ before) task entry (suc (length before)) event)

-- the queue of an entry after one more event: what stays of it, and the newest call where it is one of that
-- entry
pub queue_more : (event : Event) (before : List Event) (task : ℕ) (entry : Entry) (keep : ℕ → Bool)
    → ((p : ℕ) (e : Event) → event_at before p ≡ Some e → is_queued_at (event ∷ before) p e ≡ (is_queued_at before p e && keep p))
    → queue (event ∷ before) task entry ≡ filter keep (queue before task entry) ++ newest_call event before task entry
unfolding queue gathered
queue_more event before task entry keep stays =
    rw (gathered-kept (gives_call before task entry) (gives_call (event ∷ before) task entry) keep before (gives_itself before task entry)
    (λ p e at. rw (stays p e at) (kept_call (keep p) (is_call_of task entry e) (is_queued_at before p e) p)))
    refl

pub filter_all : (xs : List ℕ) → filter (λ _. true) xs ≡ xs
filter_all [] = refl
filter_all (x ∷ xs) = ap (λ rest. x ∷ rest) (filter_all xs)

-- what stays of a call: neither is it released, nor a rendezvous begun with it, nor has its caller ended
both_kept : (r h m a b c : Bool) → ((not (a || r) && not (b || h)) && not (c || m)) ≡ (((not r && not h) && not m) && (not a && not b && not c))
both_kept r h m true b c = sym (and-false ((not r && not h) && not m))
both_kept true h m false b c = refl
both_kept false true m false true c = refl
both_kept false true m false false c = refl
both_kept false false true false true c = refl
both_kept false false false false true c = refl
both_kept false false true false false true = refl
both_kept false false true false false false = refl
both_kept false false false false false true = refl
both_kept false false false false false false = refl

-- what an event ends
abbrev pub ends : Event → List Event → ℕ → Bool
ends event before task =
    is_number task (completed_in event) || (is_number task (gone_in event) || option_map_or (depends_on before task) (quit_in event) false)

pub or_swap : (a b c d : Bool) → ((a || b) || (c || d)) ≡ ((a || c) || (b || d))
or_swap true b c d = refl
or_swap false true true d = refl
or_swap false true false d = refl
or_swap false false c d = refl

pub has_ended-more : (event : Event) (before : List Event) (task : ℕ) → has_ended (event ∷ before) task ≡ (ends event before task || has_ended before task)
unfolding has_ended is_completed is_terminated
has_ended-more event before task =
    or_swap (is_number task (completed_in event)) (list_any (λ (e : Event). is_number task (completed_in e)) before)
    (is_number task (gone_in event) || option_map_or (depends_on before task) (quit_in event) false) (is_terminated before task)

abbrev pub meets : Event → ℕ → Bool
meets event p = is_some_and (meeting_in event) (λ (m : Meeting). eqb m.call p)

-- who made the call, if it is one
abbrev pub ends_caller : Event → List Event → Option Call → Bool
ends_caller event before None = false
ends_caller event before (Some c) = ends event before c.by

queued_by : (event : Event) (before : List Event) (p : ℕ) (o : Option Call)
    → (option_map_or (λ (c : Call). not (is_released (event ∷ before) p) && not (has_ended (event ∷ before) c.by)) o false && not (is_met (event ∷ before) p))
    ≡ ((option_map_or (λ (c : Call). not (is_released before p) && not (has_ended before c.by)) o false && not (is_met before p))
    && (not (is_number p (released_in event)) && not (ends_caller event before o) && not (meets event p)))
unfolding is_released is_met
queued_by event before p None = refl
queued_by event before p (Some c) =
    rw (has_ended-more event before c.by)
    (both_kept (list_any (λ (e : Event). is_number p (released_in e)) before) (has_ended before c.by)
    (list_any (λ (e : Event). is_some_and (meeting_in e) (λ (m : Meeting). eqb m.call p)) before)
    (is_number p (released_in event)) (ends event before c.by) (meets event p))

-- an older call stays queued unless the event releases it, meets it or ends its caller
pub queued-more : (event : Event) (before : List Event) (p : ℕ) (e : Event)
    → is_queued_at (event ∷ before) p e ≡ (is_queued_at before p e
    && (not (is_number p (released_in event)) && not (ends_caller event before (call_in e)) && not (meets event p)))
unfolding is_queued_at is_open_at is_pending
queued-more event before p e = queued_by event before p (call_in e)
