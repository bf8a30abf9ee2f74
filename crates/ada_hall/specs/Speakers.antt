-- Who speaks the lines of a script: speaker 0 is the main program, and speaker k the task of the k-th creation.
use Rattle.std.specs.Prelude.{ℕ, suc, length, Bool, ◌&&◌, ◌==◌, ◌-◌, not, if◌then◌else◌, Option, Some, None, List, codes, slice_get, unwrap_or}
use Rattle.std.specs.Str.{bytes_eq}
use Rattle.std.specs.Option.{option_map_or}
use Rattle.std.specs.List.{count_by, filter_map}
use Rattle.ada_script.specs.declared.script.Line.{Line}
use Rattle.ada_statements.specs.Binding.{is_show}
use Rattle.ada_statements.specs.declared.statement.Statement.{Statement}
use Rattle.ada_statements.specs.declared.statement.Statement.TheVariants.{Tick, Open, Create, Activate, Up, Fail, Call, CallWithin, Try, Accept, Select, End}
use Rattle.ada_statements.specs.declared.statement.Statement.TheVariants.{Raise, Close, Delay, Complete, Abort, ShowCallable, ShowTerminated, ShowCount}

-- the name of the task that speaks a statement; a tick names none
abbrev pub speaker_in : Statement → Option (List ℕ)
speaker_in (Tick _) = None
speaker_in (Open by _) = Some by
speaker_in (Create by _ _ _) = Some by
speaker_in (Activate by _) = Some by
speaker_in (Up by) = Some by
speaker_in (Fail by) = Some by
speaker_in (Call by _ _) = Some by
speaker_in (CallWithin by _ _ _) = Some by
speaker_in (Try by _ _) = Some by
speaker_in (Accept by _) = Some by
speaker_in (Select by _ _ _) = Some by
speaker_in (End by) = Some by
speaker_in (Raise by) = Some by
speaker_in (Close by) = Some by
speaker_in (Delay by _) = Some by
speaker_in (Complete by) = Some by
speaker_in (Abort by _) = Some by
speaker_in (ShowCallable by _) = Some by
speaker_in (ShowTerminated by _) = Some by
speaker_in (ShowCount by _) = Some by

abbrev pub main_name : List ℕ
main_name = codes "main"

-- the name of the task that a statement creates
abbrev pub created_in : Statement → Option (List ℕ)
created_in (Create _ task _ _) = Some task
created_in _ = None

-- the names of all tasks that lines create, in their order
abbrev pub created : List Line → List (List ℕ)
created lines = filter_map (λ (line : Line). created_in line.statement) lines

-- how many speakers there are
abbrev pub speaker_count : List Line → ℕ
speaker_count lines = suc (length (created lines))

-- the name of a speaker, if there is one of that number
abbrev pub speaker_name : List Line → ℕ → Option (List ℕ)
speaker_name lines speaker = if speaker == 0 then Some main_name else slice_get (created lines) (speaker - 1)

-- the statement is that of the task of this name; ticks are the main program's
abbrev pub is_spoken_by : List ℕ → Statement → Bool
is_spoken_by name statement = bytes_eq (unwrap_or (speaker_in statement) main_name) name

-- the line is a request of the task of this name
abbrev pub is_request_of : List ℕ → Line → Bool
is_request_of name line = is_spoken_by name line.statement && not (is_show line.statement)

-- how many lines of a speaker are requests
abbrev pub request_count : List Line → ℕ → ℕ
request_count lines speaker = option_map_or (λ (name : List ℕ). count_by (is_request_of name) lines) (speaker_name lines speaker) 0
