-- Whom a request lets go on: those that it ended, and those that began to run.
use Rattle.std.proofs.Common.{◌≡◌, ℕ, zero, suc, ◌+◌, ◌<◌, ◌≤◌, Bool, true, false, not, Option, Some, None, List, [], ◌∷◌, ◌++◌, length, map, take, drop}
use Rattle.std.proofs.Common.{refl, sym, ap, subst, ◌∙◌, inl, inr, arith}
use Rattle.std.specs.Prelude.{◌&&◌, slice_get, slice_index_or}
use Rattle.std.specs.Option.{option_map, unwrap_or}
use Rattle.std.specs.List.{list_any}
use Rattle.std.proofs.lemmas.Bool.{cases_lt, or_from, or_parts, or_left, or_right, and_parts, and_from, ltb-true, lt-ltb, true≢false}
use Rattle.std.proofs.Math.Seq.{drop-append_seam}
use Rattle.std.proofs.lemmas.List.{length-map, take-append-drop}
use Rattle.std.proofs.lemmas.List.Elements.{All-map}
use Rattle.std.proofs.lemmas.List.Sorted.{IsPermutation-reverse, list_any-IsPermutation}
use Rattle.ada_events.specs.declared.event.Event.{Event}
use Rattle.ada_events.specs.declared.event.Event.TheVariants.{Elaborated, Completed, Halted, Gone, Quit}
use Rattle.ada_events.specs.declared.request.Request.{Request}
use Rattle.ada_events.specs.Phases.{has_ended, is_completed, is_running, is_terminated}
use Rattle.ada_events.specs.Says.{completed_in, gone_in, quit_in}
use Rattle.ada_events.specs.Tasks.{has_task, task_count}
use Rattle.ada_standing.specs.Renaming.{renamed_event}
use Rattle.ada_border.specs.Events.{plain_of}
use Rattle.ada_border.specs.declared.events.PlainEvent.{PlainEvent}
use Rattle.ada_lasting.specs.Events.{shown, shown_at}
use Rattle.ada_lasting.specs.Following.{IsStepped, Long, before_shown}
use Rattle.ada_lasting.specs.Naming.{renaming_of}
use Rattle.ada_threads.specs.declared.thread.Thread.{Thread}
use Rattle.ada_threads.specs.Going.{AreHeldRightly, is_held_up}
use Rattle.ada_threads.specs.internal.Settling.{AreUnmarked, ends, has_begun, is_end_at, is_plain_end, marked_anew}

record EndsNobody (e : Event) : Type 0 where
  completes : completed_in e ≡ None
  goes : gone_in e ≡ None
  quits : quit_in e ≡ None

ends_nobody : (e : Event) → ends e ≡ false → EndsNobody e
unfolding completed_in gone_in quit_in
ends_nobody (Elaborated by false) none = absurd (true≢false none)
ends_nobody (Completed by) none = absurd (true≢false none)
ends_nobody (Halted task) none = absurd (true≢false none)
ends_nobody (Gone task) none = absurd (true≢false none)
ends_nobody (Quit master) none = absurd (true≢false none)
ends_nobody _ none = record { completes = refl; goes = refl; quits = refl }

-- an event that ends tasks by its numbers does

plain_ends : (e : Event) → is_plain_end (plain_of e) ≡ ends e
unfolding completed_in gone_in quit_in plain_of
plain_ends (Elaborated by false) = refl
plain_ends (Elaborated by true) = refl
plain_ends _ = refl

pub ends_told : (journal : List Event) (kernel : Long) (at : ℕ) (told : Option PlainEvent)
    → told ≡ option_map plain_of (shown_at journal kernel at)
    → unwrap_or (option_map is_plain_end told) false ≡ is_end_at journal kernel at
ends_told journal kernel at told is = ap (λ (t : Option PlainEvent). unwrap_or (option_map is_plain_end t) false) is ∙ by_event (shown_at journal kernel at)
  where
    by_event : (e : Option Event) → unwrap_or (option_map is_plain_end (option_map plain_of e)) false ≡ unwrap_or (option_map ends e) false
    by_event None = refl
    by_event (Some e) = plain_ends e

-- one of the events ends tasks, or none does, if this is so of what stands at each place

ends_in : List Event → ℕ → Bool
ends_in events at = unwrap_or (option_map ends (slice_get events at)) false

any_at : (events : List Event) (at : ℕ) → ends_in events at ≡ true → list_any ends events ≡ true
unfolding ends_in
any_at [] at so = absurd (true≢false (sym so))
any_at (first ∷ rest) zero so = or_left (ends first) (list_any ends rest) so
any_at (first ∷ rest) (suc at) so = or_right (ends first) (list_any ends rest) (any_at rest at so)

none_at : (events : List Event) → ((at : ℕ) → at < length events → ends_in events at ≡ false) → list_any ends events ≡ false
unfolding ends_in
none_at [] none = refl
none_at (first ∷ rest) none =
    or_from (ends first) (list_any ends rest) (none 0 (omega arith)) (none_at rest (λ at below. none (suc at) (omega (arith, below))))

pub ends_any : (journal : List Event) (kernel : Long) (at : ℕ) → is_end_at journal kernel at ≡ true → true ≡ list_any ends (shown journal kernel)
unfolding ends_in
ends_any journal kernel at so = sym (any_at (shown journal kernel) at so)

pub ends_none : (journal : List Event) (kernel : Long) → ((at : ℕ) → at < length (shown journal kernel) → is_end_at journal kernel at ≡ false)
    → false ≡ list_any ends (shown journal kernel)
unfolding ends_in
ends_none journal kernel none = sym (none_at (shown journal kernel) none)

-- what is so of each number below one and of that is so below the next one
pub below_next : (P : ℕ → Type 0) (n : ℕ) → ((p : ℕ) → p < n → P p) → P n → (p : ℕ) → p < n + 1 → P p
below_next P n all last p below = elim (cases_lt p n) [ inl less ↦ all p less | inr more ↦ subst P (omega (arith, below, more)) last ]

-- who isn't ended by an event of a list has ended after it as before

completed_still : (steps before : List Event) (task : ℕ) → list_any ends steps ≡ false → is_completed (steps ++ before) task ≡ is_completed before task
unfolding is_completed
completed_still [] before task none = refl
completed_still (e ∷ rest) before task none =
    let parts = or_parts (ends e) (list_any ends rest) none in
    rw (ends_nobody e parts.0).completes (completed_still rest before task parts.1)

terminated_still : (steps before : List Event) (task : ℕ) → list_any ends steps ≡ false
    → is_terminated (steps ++ before) task ≡ is_terminated before task
unfolding is_terminated
terminated_still [] before task none = refl
terminated_still (e ∷ rest) before task none =
    let parts = or_parts (ends e) (list_any ends rest) none in
    let nobody = ends_nobody e parts.0 in
    rw (nobody.goes, nobody.quits) (terminated_still rest before task parts.1)

ended_still : (steps before : List Event) (task : ℕ) → list_any ends steps ≡ false → has_ended (steps ++ before) task ≡ has_ended before task
unfolding has_ended
ended_still steps before task none = rw (completed_still steps before task none, terminated_still steps before task none) refl

-- there are no fewer tasks than before

count_grows : (steps before : List Event) → task_count before ≤ task_count (steps ++ before)
unfolding task_count
count_grows [] before = omega arith
count_grows (e ∷ rest) before = omega (arith, count_grows rest before)

has_still : (steps before : List Event) (task : ℕ) → has_task before task ≡ true → has_task (steps ++ before) task ≡ true
has_still steps before task has =
    lt-ltb task (task_count (steps ++ before)) (omega (arith, ltb-true task (task_count before) has, count_grows steps before))

not_begun : (now before : Bool) → (now && not before) ≡ false → not before ≡ true → not now ≡ true
not_begun false before none stood = refl
not_begun true false none stood = absurd (true≢false none)
not_begun true true none stood = stood

-- who was held up, and neither ended nor began to run, is held up
held_after : (steps before : List Event) (task : ℕ) → list_any ends steps ≡ false
    → (has_task (steps ++ before) task && (is_running (steps ++ before) task && not (is_running before task))) ≡ false
    → is_held_up before task ≡ true → is_held_up (steps ++ before) task ≡ true
held_after steps before task none begun held =
    let has = and_parts (has_task before task) (not (is_running before task) && not (has_ended before task)) held in
    let stays = and_parts (not (is_running before task)) (not (has_ended before task)) has.1 in
    let there = has_still steps before task has.0 in
    and_from (has_task (steps ++ before) task) (not (is_running (steps ++ before) task) && not (has_ended (steps ++ before) task))
    there
    (and_from (not (is_running (steps ++ before) task)) (not (has_ended (steps ++ before) task))
    (not_begun (is_running (steps ++ before) task) (is_running before task)
    (sym (ap (λ b. b && (is_running (steps ++ before) task && not (is_running before task))) there) ∙ begun) stays.0)
    (ap not (ended_still steps before task none) ∙ stays.1))

-- the same, by how many events came
pub still_held : (journal : List Event) (n task : ℕ) → list_any ends (take n journal) ≡ false
    → (has_task journal task && (is_running journal task && not (is_running (drop n journal) task))) ≡ false
    → is_held_up (drop n journal) task ≡ true → is_held_up journal task ≡ true
still_held journal n task =
    let whole : take n journal ++ drop n journal ≡ journal = take-append-drop n journal in
    subst (λ (j : List Event). list_any ends (take n journal) ≡ false
    → (has_task j task && (is_running j task && not (is_running (drop n journal) task))) ≡ false
    → is_held_up (drop n journal) task ≡ true → is_held_up j task ≡ true) whole (held_after (take n journal) (drop n journal) task)

-- whoever is marked anew is held up
pub anew_rightly : (journal : List Event) (threads : List Thread) → AreHeldRightly journal (map (marked_anew journal) threads)
anew_rightly journal threads =
    All-map (λ (t : Thread). t.is_held ≡ true → is_held_up journal t.task ≡ true) (marked_anew journal) threads (λ k d within held.
    (and_parts (slice_index_or threads k d).is_held (is_held_up journal (slice_index_or threads k d).task) held).1)

-- whoever is still marked, if nobody was ended, and those that began to run have no marks
pub rightly_after : (journal : List Event) (kernel : Long) (threads : List Thread) → false ≡ list_any ends (shown journal kernel)
    → AreUnmarked (has_begun journal kernel) threads → AreHeldRightly (before_shown journal kernel) threads → AreHeldRightly journal threads
rightly_after journal kernel threads none begun rightly = λ k d within held.
    still_held journal (length kernel.group) (slice_index_or threads k d).task
    (list_any-IsPermutation ends (take (length kernel.group) journal) (shown journal kernel) (IsPermutation-reverse (take (length kernel.group) journal))
    ∙ sym none) (begun k d within held) (rightly k d within held)

-- what the journal was before the request, of which a kernel shows the events
pub before_grown : (journal : List Event) (request : Request) (at : ℕ) (kernel : Long) (stepped : IsStepped journal request at kernel)
    → before_shown stepped.grown kernel ≡ journal
before_grown journal request at kernel stepped =
    let long : length kernel.group ≡ length stepped.steps =
    sym (length-map kernel.group Some) ∙ (ap length stepped.told ∙ length-map stepped.steps (renamed_event (renaming_of kernel.names))) in
    ap (drop (length kernel.group)) stepped.appended ∙ (ap (λ n. drop n (stepped.steps ++ journal)) long ∙ drop-append_seam stepped.steps journal)
