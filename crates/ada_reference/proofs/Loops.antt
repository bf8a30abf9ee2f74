-- One more event in a loop over a journal's events, for each kind of search.
use Rattle.std.proofs.Common.{◌≡◌, ℕ, ◌+◌, ◌-◌, ◌<◌, ◌≤◌, Bool, true, false, not, ◌||◌, ◌&&◌, List, [], ◌∷◌, ◌++◌, Option, Some, None, length, reverse, take}
use Rattle.std.proofs.Common.{get_or, refl, ap, sym, ◌∙◌, arith, add-one}
use Rattle.std.specs.Prelude.{slice_get, ◌==◌, if◌then◌else◌, nat_lt}
use Rattle.std.specs.Option.{option_or, option_to_list, option_len, option_map_or, unwrap_or}
use Rattle.std.specs.List.{list_any}
use Rattle.std.proofs.lemmas.List.{length-reverse}
use Rattle.ada_events.specs.declared.event.Event.{Event}
use Rattle.ada_events.specs.declared.names.Master.{Master}
use Rattle.ada_events.specs.declared.names.Master.TheVariants.{Body}
use Rattle.ada_events.specs.declared.names.TaskNo.{TaskNo}
use Rattle.ada_events.specs.Phases.{lists_task, is_terminated, has_ended, is_abnormal, is_started}
use Rattle.ada_events.specs.Search.{is_number, any_event, first_given, gathered}
use Rattle.ada_events.specs.Says.{Creation, creation_in, moment_in, gone_in, quit_in, aborted_in, started_in}
use Rattle.ada_events.specs.Tasks.{task_count, creation_of, moment}
use Rattle.ada_events.specs.Masters.{same_master, parent_in, reaches, depends_on}
use Rattle.ada_events.proofs.Beginnings.{journal_more, length_journal}

pub any_event_more : (test : ℕ → Event → Bool) (events : List Event) (i : ℕ) (d : Event) → i < length events
    → any_event test (reverse (take (i + 1) events)) ≡ (test (i + 1) (get_or events i d) || any_event test (reverse (take i events)))
unfolding any_event
any_event_more test events i d below =
    rw (journal_more events i d below, length_journal events i (omega arith), add-one i) refl

pub length_reversed : (events : List Event) → length (reverse events) ≡ length events
length_reversed events = length-reverse events

pub task_count_more : (events : List Event) (i : ℕ) (d : Event) → i < length events
    → task_count (reverse (take (i + 1) events)) ≡ option_len (creation_in (get_or events i d)) + task_count (reverse (take i events))
unfolding task_count
task_count_more events i d below = rw (journal_more events i d below) refl

pub creation_of_more : (task : ℕ) (events : List Event) (i : ℕ) (d : Event) → i < length events
    → creation_of (reverse (take (i + 1) events)) task
    ≡ option_or (if task == task_count (reverse (take i events)) then creation_in (get_or events i d) else None) (creation_of (reverse (take i events)) task)
unfolding creation_of
creation_of_more task events i d below = rw (journal_more events i d below) refl

pub moment_more : (events : List Event) (i : ℕ) (d : Event) → i < length events
    → moment (reverse (take (i + 1) events)) ≡ unwrap_or (moment_in (get_or events i d)) (moment (reverse (take i events)))
unfolding moment
moment_more events i d below = rw (journal_more events i d below) refl

pub depends_on_more : (task : ℕ) (master : Master) (events : List Event) (i : ℕ) (d : Event) → i < length events
    → depends_on (reverse (take (i + 1) events)) task master
    ≡ (option_map_or (λ (c : Creation). (task == task_count (reverse (take i events))) && reaches (reverse (take i events)) c.master master)
    (creation_in (get_or events i d)) false || depends_on (reverse (take i events)) task master)
unfolding depends_on
depends_on_more task master events i d below = rw (journal_more events i d below) refl

or_swap : (a b c : Bool) → (a || (b || c)) ≡ ((b || a) || c)
or_swap true true c = refl
or_swap true false c = refl
or_swap false true c = refl
or_swap false false c = refl

-- going down a journal: what was found so far, or the master itself, or what is found further down
pub reaches_less : (found : Bool) (from to : Master) (events : List Event) (n : ℕ) (d : Event) → 0 < n → n ≤ length events
    → (found || reaches (reverse (take n events)) from to)
    ≡ ((same_master from to || found) || reaches (reverse (take (n - 1) events)) (parent_in (reverse (take (n - 1) events)) (get_or events (n - 1) d) from) to)
unfolding reaches
reaches_less found from to events n d low high =
    let e : n ≡ n - 1 + 1 = omega arith in
    let step : reverse (take n events) ≡ get_or events (n - 1) d ∷ reverse (take (n - 1) events) =
    ap (λ k. reverse (take k events)) e ∙ journal_more events (n - 1) d (omega arith) in
    rw step (or_swap found (same_master from to) (reaches (reverse (take (n - 1) events))
    (parent_in (reverse (take (n - 1) events)) (get_or events (n - 1) d) from) to))

pub is_terminated_more : (task : ℕ) (events : List Event) (i : ℕ) (d : Event) → i < length events
    → is_terminated (reverse (take (i + 1) events)) task
    ≡ ((is_number task (gone_in (get_or events i d)) || option_map_or (depends_on (reverse (take i events)) task) (quit_in (get_or events i d)) false)
    || is_terminated (reverse (take i events)) task)
unfolding is_terminated
is_terminated_more task events i d below = rw (journal_more events i d below) refl

pub is_abnormal_more : (task : ℕ) (events : List Event) (i : ℕ) (d : Event) → i < length events
    → is_abnormal (reverse (take (i + 1) events)) task
    ≡ ((list_any (λ (t : TaskNo). t.0 == task || depends_on (reverse (take i events)) task (Body t)) (aborted_in (get_or events i d))
    && nat_lt task (task_count (reverse (take i events))) && not (is_terminated (reverse (take i events)) task)) || is_abnormal (reverse (take i events)) task)
unfolding is_abnormal
is_abnormal_more task events i d below = rw (journal_more events i d below) refl

pub is_started_more : (task : ℕ) (events : List Event) (i : ℕ) (d : Event) → i < length events
    → is_started (reverse (take (i + 1) events)) task
    ≡ ((lists_task task (started_in (get_or events i d)) && not (has_ended (reverse (take i events)) task)) || is_started (reverse (take i events)) task)
unfolding is_started
is_started_more task events i d below = rw (journal_more events i d below) refl

pub first_given_more : {A : Type 0} (give : ℕ → Event → Option A) (events : List Event) (i : ℕ) (d : Event) → i < length events
    → first_given give (reverse (take (i + 1) events)) ≡ option_or (first_given give (reverse (take i events))) (give (i + 1) (get_or events i d))
unfolding first_given
first_given_more give events i d below =
    rw (journal_more events i d below, length_journal events i (omega arith), add-one i) refl

pub gathered_more : {A : Type 0} (give : ℕ → Event → Option A) (events : List Event) (i : ℕ) (d : Event) → i < length events
    → gathered give (reverse (take (i + 1) events)) ≡ gathered give (reverse (take i events)) ++ option_to_list (give (i + 1) (get_or events i d))
unfolding gathered
gathered_more give events i d below =
    rw (journal_more events i d below, length_journal events i (omega arith), add-one i) refl

first-append_option : {A : Type 0} (xs : List A) (o : Option A) → slice_get (xs ++ option_to_list o) 0 ≡ option_or (slice_get xs 0) o
first-append_option [] None = refl
first-append_option [] (Some x) = refl
first-append_option (x ∷ xs) o = refl

pub first_gathered_more : {A : Type 0} (give : ℕ → Event → Option A) (events : List Event) (i : ℕ) (d : Event) → i < length events
    → slice_get (gathered give (reverse (take (i + 1) events))) 0
    ≡ option_or (slice_get (gathered give (reverse (take i events))) 0) (give (i + 1) (get_or events i d))
first_gathered_more give events i d below =
    rw (gathered_more give events i d below) (first-append_option (gathered give (reverse (take i events))) (give (i + 1) (get_or events i d)))

-- the step of a loop that keeps the first of what the events give
pub first_gathered_step : {A : Type 0} (give : ℕ → Event → Option A) (events : List Event) (i : ℕ) (event : Event) (first next : Option A) → i < length events
    → event ≡ get_or events i event → first ≡ slice_get (gathered give (reverse (take i events))) 0 → next ≡ option_or first (give (i + 1) event)
    → next ≡ slice_get (gathered give (reverse (take (i + 1) events))) 0
first_gathered_step give events i event first next below is so_far step =
    step ∙ ap (λ f. option_or f (give (i + 1) event)) so_far ∙ ap (λ e. option_or (slice_get (gathered give (reverse (take i events))) 0) (give (i + 1) e)) is
    ∙ sym (first_gathered_more give events i event below)
