-- What numbers ask of a host's kernel: in 16 bits for a task and 32 for a position, if it keeps everything; in names that
-- last, if it lives on, where each number may be one.
use Rattle.std.specs.Prelude.{ℕ, ℤ, ◌==◌, if◌then◌else◌, nat_lt, Result, Ok, Err, List, map, length}
use Rattle.ada_events.specs.declared.names.Master.{Master}
use Rattle.ada_events.specs.declared.names.Master.TheVariants.{Body, Block}
use Rattle.ada_events.specs.declared.names.TaskNo.{TaskNo}
use Rattle.ada_events.specs.declared.request.Request.{Request}
use Rattle.ada_events.specs.declared.request.Request.TheVariants.{Open, Create, Activate, Elaborated, Call, Wait, Delay, End, Close, Complete, Abort, Tick}
use Rattle.ada_events.specs.Forced.{task_no}
use Rattle.ada_border.specs.declared.bad.Bad.{Bad}
use Rattle.ada_border.specs.declared.bad.Bad.TheVariants.{TooLong, NoSuchKind}
use Rattle.ada_border.specs.declared.parts.PlainChoice.{PlainChoice}
use Rattle.ada_border.specs.declared.parts.PlainFamily.{PlainFamily}
use Rattle.ada_border.specs.declared.parts.PlainPause.{PlainPause}
use Rattle.ada_border.specs.Requests as border
use Rattle.ada_border.specs.Requests.{with_read}

-- what was read, as it is meant
abbrev pub read_as : {T U : Type 0} → (T → U) → Result T Bad → Result U Bad
read_as meant (Ok read) = Ok (meant read)
read_as meant (Err bad) = Err bad

-- what numbers ask of a kernel of either kind, or what is wrong with them
pub record Asked : Type 0 where
  pub whole : Result Request Bad
  pub lasting : Result Request Bad

-- 0 for a task's body, 1 for a block by the position of its opening
abbrev pub master_in : ℕ → ℕ → Result Master Bad
master_in kind number = if kind == 0 then Ok (Body (task_no number)) else if kind == 1 then Ok (Block number) else Err NoSuchKind

-- a list of tasks isn't longer than this
abbrev pub tasks_in : List ℕ → Result (List TaskNo) Bad
tasks_in numbers = if nat_lt 256 (length numbers) then Err TooLong else Ok (map task_no numbers)

abbrev pub open_in : ℕ → Asked
open_in by = record { whole = border.open_in by; lasting = Ok (Open (task_no by)) }

abbrev pub create_in : ℕ → ℕ → ℕ → List PlainFamily → Asked
create_in by kind master families = record {
  whole = border.create_in by kind master families;
  lasting = with_read (master_in kind master) (λ under. with_read (border.families_in families) (λ all. Ok (Create (task_no by) under all)));
}

abbrev pub activate_in : ℕ → List ℕ → Asked
activate_in by tasks = record {
  whole = border.activate_in by tasks;
  lasting = with_read (tasks_in tasks) (λ all. Ok (Activate (task_no by) all));
}

abbrev pub elaborated_in : ℕ → ℕ → Asked
elaborated_in by ok = record {
  whole = border.elaborated_in by ok;
  lasting = with_read (border.flag_in ok) (λ plainly. Ok (Elaborated (task_no by) plainly));
}

abbrev pub call_in : ℕ → ℕ → ℕ → ℤ → ℕ → ℤ → Asked
call_in by callee family index patience duration = record {
  whole = border.call_in by callee family index patience duration;
  lasting = with_read (border.entry_in family index) (λ entry. with_read (border.patience_in patience duration) (λ patient.
      Ok (Call (task_no by) (task_no callee) entry patient)));
}

abbrev pub wait_in : ℕ → List PlainChoice → ℕ → List PlainPause → ℕ → Asked
wait_in by choices tail delays pick = record {
  whole = border.wait_in by choices tail delays pick;
  lasting = with_read (border.choices_in choices) (λ all. with_read (border.tail_in tail delays) (λ last. Ok (Wait (task_no by) all last pick)));
}

abbrev pub delay_in : ℕ → ℤ → Asked
delay_in by duration = record { whole = border.delay_in by duration; lasting = Ok (Delay (task_no by) duration) }

abbrev pub end_in : ℕ → ℕ → Asked
end_in by raised = record {
  whole = border.end_in by raised;
  lasting = with_read (border.flag_in raised) (λ by_exception. Ok (End (task_no by) by_exception));
}

abbrev pub close_in : ℕ → Asked
close_in by = record { whole = border.close_in by; lasting = Ok (Close (task_no by)) }

abbrev pub complete_in : ℕ → Asked
complete_in by = record { whole = border.complete_in by; lasting = Ok (Complete (task_no by)) }

abbrev pub abort_in : ℕ → List ℕ → Asked
abort_in by tasks = record {
  whole = border.abort_in by tasks;
  lasting = with_read (tasks_in tasks) (λ all. Ok (Abort (task_no by) all));
}

abbrev pub tick_to : ℤ → Asked
tick_to now = record { whole = Ok (Tick now); lasting = Ok (Tick now) }
