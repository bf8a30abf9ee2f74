-- What is answered to a host about the threads of its tasks: a code, what is written where it is 0, and what becomes of
-- the table.
use Rattle.std.specs.Prelude.{◌≡◌, ◌⊎◌, ℕ, ℤ, pos, Bool, true, false, ◌==◌, if◌then◌else◌, nat_lt}
use Rattle.std.specs.Prelude.{Option, Some, None, Result, Ok, Err, List, ◌∷◌, length, option_map, slice_get}
use Rattle.ada_events.specs.declared.event.Event.{Event}
use Rattle.ada_events.specs.declared.refusal.Refusal.TheVariants.{OutOfMemory}
use Rattle.ada_events.specs.declared.request.Request.{Request}
use Rattle.ada_border.specs.Codes.{bad_code, refusal_code}
use Rattle.ada_border.specs.Events.{flag}
use Rattle.ada_border.specs.declared.bad.Bad.TheVariants.{NoSuchItem, NoSuchKind, NoSuchTask, OutOfRange}
use Rattle.ada_lasting.specs.Following.{Long, Follows, IsStepped, before_shown}
use Rattle.ada_lasting.specs.declared.requests.LastingMaster.{LastingMaster}
use Rattle.ada_lasting.specs.declared.requests.LastingMaster.TheVariants.{Body, Block}
use Rattle.ada_threads.specs.Going.{AllStay, AreHeldRightly, DifferInMarks, IsFreed, is_held_up, may_go_on, stay_of}
use Rattle.ada_threads.specs.Table.{Table, caller_at, dependent_from, innermost_caller, innermost_master, is_by, is_within, master_at}
use Rattle.ada_threads.specs.Table.{thread_of, with_changed, with_thread, without_first}
use Rattle.ada_threads.specs.declared.going.Stay.{Stay}
use Rattle.ada_threads.specs.declared.thread.Thread.{Thread}
use Rattle.ada_embed.specs.declared.host_kernel.HostKernel.{HostKernel}
use Rattle.ada_embed.specs.declared.host_kernel.HostKernel.TheVariants.{Whole, Lasting}
use Rattle.ada_embed.specs.declared.threads.PlainStay.{PlainStay}
use Rattle.ada_embed.specs.Codes.{keeps_all}
use Rattle.ada_embed.specs.Lasting.{IsToldOr, or_code, with_told}

-- ---- what is wrong with numbers

abbrev pub has_place : Table → ℕ → Bool
has_place table place = nat_lt place (length table.threads)

-- what is told of a place, or that there is no such place
abbrev pub of_place : {A : Type 0} → Table → ℕ → A → Result A ℤ
of_place table place told = if has_place table place then Ok told else Err (bad_code NoSuchTask)

-- what was found about the thread at a place, or that there is no such place, or nothing to be found
abbrev pub found_at : {A : Type 0} → Table → ℕ → Option A → Result A ℤ
found_at table place found = with_told (of_place table place found) (λ there. or_code there (bad_code NoSuchItem))

-- a master by its kind and number: a task's body, a block by the position of its opening, or none that the kernel knows
abbrev pub master_in : ℕ → ℕ → Result (Option LastingMaster) ℤ
master_in kind number =
    if kind == 0 then Ok (Some (Body number))
    else if kind == 1 then Ok (Some (Block number))
    else if kind == 2 then Ok None
    else Err (bad_code NoSuchKind)

-- ---- what becomes of the table

-- this becomes of it, unless memory is wanting; or the code says what is wrong with the numbers
abbrev pub IsGrownOr : Result Table ℤ → ℤ → Table → Table → Type 0
IsGrownOr (Ok grown) code old new = ((code ≡ pos 0) × (new ≡ grown)) ⊎ ((code ≡ refusal_code OutOfMemory) × (new ≡ old))
IsGrownOr (Err why) code old new = (code ≡ why) × (new ≡ old)

-- a task is kept at a place, which leaves no place out
abbrev pub with_put : Table → ℕ → ℕ → ℕ → ℕ → Result Table ℤ
with_put table place task kind master =
    if nat_lt (length table.threads) place then Err (bad_code OutOfRange)
    else with_told (master_in kind master) (λ on. Ok (record table { threads = with_thread place (thread_of task on) table.threads }))

-- the thread at a place is changed
abbrev pub with_changed_at : Table → ℕ → (Thread → Thread) → Result Table ℤ
with_changed_at table place change = of_place table place (with_changed place change table)

-- the thread at a place has entered a master (9.4)
abbrev pub with_entered : Table → ℕ → ℕ → ℕ → ℕ → Result Table ℤ
with_entered table place level kind number =
    with_told (of_place table place place) (λ by. with_told (master_in kind number) (λ master.
    Ok (record table { entered = record { by = by; level = level; master = master } ∷ table.entered })))

-- the thread at a place has left the master that it entered last
abbrev pub with_left : Table → ℕ → Result Table ℤ
with_left table place = with_changed_at (record table { entered = without_first (is_within place) table.entered }) place (λ t. record t { leaves = false })

-- the thread of a server is within the accept statement that the call of another task begins (9.5)
abbrev pub with_serving : Table → ℕ → ℕ → Result Table ℤ
with_serving table server caller = with_told (of_place table server server) (λ by. of_place table caller
    (record table { servings = record { server = by; caller = caller } ∷ table.servings }))

-- the thread of a server has left its innermost accept statement
abbrev pub without_serving : Table → ℕ → Result Table ℤ
without_serving table server = with_told (found_at table server (innermost_caller table.servings server)) (λ caller.
    Ok (record table { servings = without_first (is_by server) table.servings }))

-- ---- what is told of it

abbrev pub innermost_told : Table → ℕ → Result ℕ ℤ
innermost_told table server = found_at table server (innermost_caller table.servings server)

abbrev pub caller_told : Table → ℕ → ℕ → Result ℕ ℤ
caller_told table server depth = found_at table server (caller_at table.servings server depth)

-- the first place of a task that depends on the master that the thread at another place is within
abbrev pub dependent_told : Table → ℕ → ℕ → Result ℕ ℤ
dependent_told table place from = found_at table place (dependent_from table.threads (innermost_master table place) from)

-- the kind of a master, and its number
abbrev pub kind_of : Option LastingMaster → ℕ
kind_of (Some (Body task)) = 0
kind_of (Some (Block position)) = 1
kind_of None = 2

abbrev pub number_of : Option LastingMaster → ℕ
number_of (Some (Body task)) = task
number_of (Some (Block position)) = position
number_of None = 0

abbrev pub kind_told : Table → ℕ → ℕ → Result ℕ ℤ
kind_told table place level = of_place table place (kind_of (master_at table place level))

abbrev pub number_told : Table → ℕ → ℕ → Result ℕ ℤ
number_told table place level = of_place table place (number_of (master_at table place level))

-- ---- by a kernel that lives on; another one keeps everything, and nothing is written or changed

-- why another one tells nothing of the thread at a place
abbrev pub untold : Table → ℕ → ℤ
untold table place = if has_place table place then keeps_all else bad_code NoSuchTask

-- what is told of a thread, or that there is none
abbrev pub or_no_task : {A : Type 0} → Option A → Result A ℤ
or_no_task told = or_code told (bad_code NoSuchTask)

-- what the kernel tells of the thread at a place
abbrev pub IsToldOfThread : {A : Type 0} → HostKernel → Table → ℕ → (List Event → Thread → A) → ℤ → A → A → Type 0
IsToldOfThread (Whole journal) table place told code was written = (code ≡ untold table place) × (written ≡ was)
IsToldOfThread (Lasting kernel) table place told code was written =
    (journal : List Event) → Follows journal kernel
    → IsToldOr (or_no_task (option_map (told journal) (slice_get table.threads place))) code was written

-- why a thread stays, each in numbers
abbrev pub plain_stay : Stay → PlainStay
plain_stay stay = record {
  is_held_up = flag stay.is_held_up;
  is_served = flag stay.is_served;
  awaits_threads = flag stay.awaits_threads;
}

-- why the thread at a place stays
abbrev pub why_told : Table → ℕ → List Event → Thread → PlainStay
why_told table place journal thread = plain_stay (stay_of journal table place thread)

-- whether the thread at a place may go on
abbrev pub goes_told : Table → ℕ → List Event → Thread → ℕ
goes_told table place journal thread = flag (may_go_on journal table place thread)

-- the thread at a place waits, unless it may go on
abbrev pub with_parked : Table → ℕ → List Event → Thread → Table
with_parked table place journal thread =
    if may_go_on journal table place thread then table
    else with_changed place (λ t. record t { is_parked = true; is_held = is_held_up journal t.task }) table

-- whoever is marked as held up is held up, if that was so
abbrev pub KeepsMarksBy : HostKernel → Table → Table → Type 0
KeepsMarksBy (Whole journal) old new = new ≡ old
KeepsMarksBy (Lasting kernel) old new =
    (journal : List Event) → Follows journal kernel → AreHeldRightly journal old.threads → AreHeldRightly journal new.threads

-- whoever is marked as held up is held up after the last request, if that was so before it, and only marks differ
abbrev pub AreMarkedAnew : Long → Table → Table → Type 0
AreMarkedAnew kernel old new =
    ((journal : List Event) → Follows journal kernel → AreHeldRightly (before_shown journal kernel) old.threads
    → AreHeldRightly journal new.threads)
    × ((journal : List Event) (request : Request) (at : ℕ) → AreHeldRightly journal old.threads
    → (stepped : IsStepped journal request at kernel) → AreHeldRightly stepped.grown new.threads)
    × DifferInMarks old new

abbrev pub IsSettledBy : HostKernel → ℤ → Table → Table → Type 0
IsSettledBy (Whole journal) code old new = (code ≡ keeps_all) × (new ≡ old)
IsSettledBy (Lasting kernel) code old new = (code ≡ pos 0) × AreMarkedAnew kernel old new

-- a thread that waits and may go on doesn't wait any more, and its place is written; or each thread that waits has to, if
-- whoever is marked as held up is held up
abbrev pub IsNextBy : HostKernel → ℤ → ℕ → ℕ → Table → Table → Type 0
IsNextBy (Whole journal) code was place old new = (code ≡ keeps_all) × (place ≡ was) × (new ≡ old)
IsNextBy (Lasting kernel) code was place old new =
    ((code ≡ pos 0) × ((journal : List Event) → Follows journal kernel → IsFreed journal old place)
    × (new ≡ with_changed place (λ t. record t { is_parked = false }) old))
    ⊎ ((code ≡ bad_code NoSuchItem)
    × ((journal : List Event) → Follows journal kernel → AreHeldRightly journal old.threads → AllStay journal old)
    × (place ≡ was) × (new ≡ old))
