-- Requests in the numbers of the border: what they ask, or what is wrong with them.
use Rattle.std.specs.Prelude.{ℕ, ℤ, ◌^◌, ◌==◌, Bool, true, false, if◌then◌else◌, nat_lt, Result, Ok, Err, List, [], ◌∷◌, length}
use Rattle.ada_events.specs.declared.names.Choice.{Choice}
use Rattle.ada_events.specs.declared.names.Entry.{Entry}
use Rattle.ada_events.specs.declared.names.Family.{Family}
use Rattle.ada_events.specs.declared.names.Master.{Master}
use Rattle.ada_events.specs.declared.names.Master.TheVariants.{Body, Block}
use Rattle.ada_events.specs.declared.names.Patience.{Patience}
use Rattle.ada_events.specs.declared.names.Patience.TheVariants.{Simple, Conditional, Timed}
use Rattle.ada_events.specs.declared.names.Pause.{Pause}
use Rattle.ada_events.specs.declared.names.TaskNo.{TaskNo}
use Rattle.ada_events.specs.declared.request.Request.{Request}
use Rattle.ada_events.specs.declared.request.Request.TheVariants.{Open, Create, Activate, Elaborated, Call, Wait, Delay, End, Close, Complete, Abort}
use Rattle.ada_events.specs.declared.request.Tail.{Tail}
use Rattle.ada_events.specs.declared.request.Tail.TheVariants.{Nothing, Otherwise, Delays, Terminate}
use Rattle.ada_border.specs.declared.bad.Bad.{Bad}
use Rattle.ada_border.specs.declared.bad.Bad.TheVariants.{TooLong, NoSuchKind, OutOfRange}
use Rattle.ada_border.specs.declared.parts.PlainChoice.{PlainChoice}
use Rattle.ada_border.specs.declared.parts.PlainFamily.{PlainFamily}
use Rattle.ada_border.specs.declared.parts.PlainPause.{PlainPause}

-- with what was read, if nothing is wrong with it
abbrev pub with_read : {T U : Type 0} → Result T Bad → (T → Result U Bad) → Result U Bad
with_read (Ok read) next = next read
with_read (Err bad) next = Err bad

-- ---- parts of requests

-- the number of a task has 16 bits
abbrev pub is_task_number : ℕ → Bool
is_task_number number = nat_lt number (2 ^ 16)

abbrev pub task_in : ℕ → Result TaskNo Bad
task_in number = if is_task_number number then Ok (record { 0 = number }) else Err OutOfRange

-- a position has 32 bits
abbrev pub position_in : ℕ → Result ℕ Bad
position_in number = if nat_lt number (2 ^ 32) then Ok number else Err OutOfRange

-- 0 for no, 1 for yes
abbrev pub flag_in : ℕ → Result Bool Bad
flag_in number = if number == 0 then Ok false else if number == 1 then Ok true else Err NoSuchKind

-- 0 for a task's body, 1 for a block by the position of its opening
abbrev pub master_in : ℕ → ℕ → Result Master Bad
master_in kind number =
    if kind == 0 then with_read (task_in number) (λ task. Ok (Body task))
    else if kind == 1 then with_read (position_in number) (λ opened. Ok (Block opened))
    else Err NoSuchKind

-- a family by its place, which has 8 bits, and an index
abbrev pub entry_in : ℕ → ℤ → Result Entry Bad
entry_in family index = if nat_lt family (2 ^ 8) then Ok (record { family = family; index = index }) else Err OutOfRange

-- 0 for a simple call, 1 for a conditional one, 2 for a timed one with its duration
abbrev pub patience_in : ℕ → ℤ → Result Patience Bad
patience_in kind duration =
    if kind == 0 then Ok Simple else if kind == 1 then Ok Conditional else if kind == 2 then Ok (Timed duration) else Err NoSuchKind

-- ---- lists

-- each of a list
unfoldable pub all_in : {P T : Type 0} → (P → Result T Bad) → List P → Result (List T) Bad
all_in read [] = Ok []
all_in read (first ∷ others) = with_read (read first) (λ one. with_read (all_in read others) (λ more. Ok (one ∷ more)))

-- the same, if it isn't longer than this
abbrev pub each_in : {P T : Type 0} → ℕ → (P → Result T Bad) → List P → Result (List T) Bad
each_in most read numbers = if nat_lt most (length numbers) then Err TooLong else all_in read numbers

abbrev pub family_in : PlainFamily → Result Family Bad
family_in plain = Ok (record { low = plain.low; high = plain.high })

abbrev pub choice_in : PlainChoice → Result Choice Bad
choice_in plain = with_read (entry_in plain.family plain.index) (λ entry. with_read (flag_in plain.is_open) (λ guard. Ok
    (record { guard = guard; entry = entry })))

abbrev pub pause_in : PlainPause → Result Pause Bad
pause_in plain = with_read (flag_in plain.is_open) (λ guard. Ok (record { guard = guard; duration = plain.duration }))

abbrev pub tasks_in : List ℕ → Result (List TaskNo) Bad
tasks_in numbers = each_in 256 task_in numbers

abbrev pub families_in : List PlainFamily → Result (List Family) Bad
families_in plain = each_in 16 family_in plain

abbrev pub choices_in : List PlainChoice → Result (List Choice) Bad
choices_in plain = each_in 16 choice_in plain

abbrev pub pauses_in : List PlainPause → Result (List Pause) Bad
pauses_in plain = each_in 8 pause_in plain

-- 0 for nothing, 1 for an else part, 2 for delay alternatives, 3 for a terminate alternative, and 4 for a closed one; only
-- with the kind 2 there may be delay alternatives
abbrev pub tail_in : ℕ → List PlainPause → Result Tail Bad
tail_in kind delays =
    if kind == 2 then with_read (pauses_in delays) (λ pauses. Ok (Delays pauses))
    else if nat_lt 4 kind then Err NoSuchKind
    else if nat_lt 0 (length delays) then Err TooLong
    else if kind == 0 then Ok Nothing
    else if kind == 1 then Ok Otherwise
    else if kind == 3 then Ok (Terminate true)
    else Ok (Terminate false)

-- ---- requests

abbrev pub open_in : ℕ → Result Request Bad
open_in by = with_read (task_in by) (λ task. Ok (Open task))

abbrev pub create_in : ℕ → ℕ → ℕ → List PlainFamily → Result Request Bad
create_in by kind master families =
    with_read (task_in by) (λ task. with_read (master_in kind master) (λ under. with_read (families_in families) (λ all. Ok (Create task under all))))

abbrev pub activate_in : ℕ → List ℕ → Result Request Bad
activate_in by tasks = with_read (task_in by) (λ task. with_read (tasks_in tasks) (λ all. Ok (Activate task all)))

abbrev pub elaborated_in : ℕ → ℕ → Result Request Bad
elaborated_in by ok = with_read (task_in by) (λ task. with_read (flag_in ok) (λ plainly. Ok (Elaborated task plainly)))

abbrev pub call_in : ℕ → ℕ → ℕ → ℤ → ℕ → ℤ → Result Request Bad
call_in by callee family index patience duration = with_read (task_in by) (λ task. with_read (task_in callee) (λ called.
    with_read (entry_in family index) (λ entry. with_read (patience_in patience duration) (λ patient. Ok (Call task called entry patient)))))

abbrev pub wait_in : ℕ → List PlainChoice → ℕ → List PlainPause → ℕ → Result Request Bad
wait_in by choices tail delays pick = with_read (task_in by) (λ task. with_read (choices_in choices) (λ all.
    with_read (tail_in tail delays) (λ last. Ok (Wait task all last pick))))

abbrev pub delay_in : ℕ → ℤ → Result Request Bad
delay_in by duration = with_read (task_in by) (λ task. Ok (Delay task duration))

abbrev pub end_in : ℕ → ℕ → Result Request Bad
end_in by raised = with_read (task_in by) (λ task. with_read (flag_in raised) (λ by_exception. Ok (End task by_exception)))

abbrev pub close_in : ℕ → Result Request Bad
close_in by = with_read (task_in by) (λ task. Ok (Close task))

abbrev pub complete_in : ℕ → Result Request Bad
complete_in by = with_read (task_in by) (λ task. Ok (Complete task))

abbrev pub abort_in : ℕ → List ℕ → Result Request Bad
abort_in by tasks = with_read (task_in by) (λ task. with_read (tasks_in tasks) (λ all. Ok (Abort task all)))
