-- How the words of a line are read, from left to right, with the first fault that is met. What a statement's
-- words are and where it may stand, the spelling and the scope say; this stands for nothing by itself.
use Rattle.std.specs.Prelude.{◌≡◌, ◌⊎◌, ℕ, zero, suc, ℤ, ◌^◌, Bool, true, false, ◌||◌, ◌==◌, nat_lt, if◌then◌else◌, List, [], ◌∷◌, ◌++◌, length, take}
use Rattle.std.specs.Prelude.{slice_index, not, ◌-◌, Option, Some, None, Result, Ok, Err, codes}
use Rattle.std.specs.Borrow.{Bor}
use Rattle.std.specs.List.{list_any}
use Rattle.std.specs.Str.{bytes_eq}
use Rattle.ada_events.specs.declared.limits.TheConstants.{MOST_CHOICES, MOST_FAMILIES, MOST_TASKS}
use Rattle.ada_events.specs.declared.names.Family.{Family}
use Rattle.ada_events.specs.declared.names.Pause.{Pause}
use Rattle.ada_events.specs.declared.request.Tail.{Tail}
use Rattle.ada_events.specs.declared.request.Tail.TheVariants as tails
use Rattle.ada_script.specs.declared.fault.Fault.{Fault}
use Rattle.ada_script.specs.declared.fault.Fault.TheVariants.{BadStatement, BadNumber, UnknownName, DoubleName, OutOfMemory}
use Rattle.ada_script.specs.declared.verb.Verb.{Verb}
use Rattle.ada_script.specs.declared.verb.Verb.TheVariants as verbs
use Rattle.ada_script.specs.internal.Verbs.{verb_of}
use Rattle.ada_script.specs.declared.select.Branch.{Branch}
use Rattle.ada_script.specs.declared.select.Branch.TheVariants as branches
use Rattle.ada_statements.specs.declared.statement.Statement.{Statement}
use Rattle.ada_statements.specs.declared.statement.Statement.TheVariants.{Tick, Open, Create, Activate, Up, Fail, Call, CallWithin, Try, Accept, Select, End}
use Rattle.ada_statements.specs.declared.statement.Statement.TheVariants.{Raise, Close, Delay, Complete, Abort, ShowCallable, ShowTerminated, ShowCount}
use Rattle.ada_statements.specs.declared.statement.Declaration.{Declaration}
use Rattle.ada_statements.specs.declared.statement.EntryName.{EntryName}
use Rattle.ada_statements.specs.declared.statement.Alternative.{Alternative}
use Rattle.ada_statements.specs.Text.{is_name, is_digit}
use Rattle.ada_script.specs.internal.Number.{natural_of, integer_of}
use Rattle.ada_statements.specs.Scope.{Scope, is_task, is_declared, has_entry}
use Rattle.ada_script.specs.Cursor.{is_over}

infixl 10 ◌>>=◌
abbrev pub ◌>>=◌ : {A B : Type 0} → Result A Fault → (A → Result B Fault) → Result B Fault
(Ok x) >>= f = f x
(Err e) >>= f = Err e

-- what is read from the front of some words, and the words behind it
abbrev pub Read : Type 0 → Type 0
Read X = Result (X × List (List ℕ)) Fault

-- what a function returned, and the words that it left, are what is read
abbrev pub Gives : {X : Type 0} → Result X Fault → List (List ℕ) → Read X → Type 0
Gives (Ok x) rest read = read ≡ Ok (x, rest)
Gives (Err e) rest read = read ≡ Err e

-- the same, unless memory was refused
abbrev pub GivesInMemory : {X : Type 0} → Result X Fault → List (List ℕ) → Read X → Type 0
GivesInMemory (Ok x) rest read = read ≡ Ok (x, rest)
GivesInMemory (Err e) rest read = (e ≡ OutOfMemory) ⊎ (read ≡ Err e)

-- the same of what a function wrote into a place
abbrev pub Writes : {X : Type 0} → Result (Unit {0}) Fault → X → List (List ℕ) → Read X → Type 0
Writes (Ok u) x rest read = read ≡ Ok (x, rest)
Writes (Err e) x rest read = (e ≡ OutOfMemory) ⊎ (read ≡ Err e)

-- the same for a word, which lies in the line
abbrev pub GivesWord : Result (Bor (List ℕ)) Fault → List (List ℕ) → Read (List ℕ) → Type 0
GivesWord (Ok word) rest read = read ≡ Ok (word.now, rest)
GivesWord (Err e) rest read = read ≡ Err e

abbrev pub word_at : List (List ℕ) → Read (List ℕ)
word_at [] = Err BadStatement
word_at (word ∷ words) = Ok (word, words)

-- no word is left
abbrev pub end_at : List (List ℕ) → Read (Unit {0})
end_at [] = Ok (tt, [])
end_at (word ∷ words) = Err BadStatement

unfoldable pub keyword_at : List ℕ → List (List ℕ) → Read (Unit {0})
keyword_at keyword words = do
  word ← word_at words
  if bytes_eq word.0 keyword then Ok (tt, word.1) else Err BadStatement

-- ---- numbers

abbrev pub number_from : {N : Type 0} → Option N → List (List ℕ) → Read N
number_from None words = Err BadNumber
number_from (Some n) words = Ok (n, words)

unfoldable pub moment_at : List (List ℕ) → Read ℤ
moment_at words = do
  word ← word_at words
  number_from (integer_of (2 ^ 63) word.0) word.1

unfoldable pub index_at : List (List ℕ) → Read ℤ
index_at words = do
  word ← word_at words
  number_from (integer_of (2 ^ 31) word.0) word.1

abbrev pub below_2_32 : Option ℕ → Option ℕ
below_2_32 None = None
below_2_32 (Some n) = if nat_lt n (2 ^ 32) then Some n else None

unfoldable pub pick_at : List (List ℕ) → Read ℕ
pick_at words = do
  word ← word_at words
  number_from (below_2_32 (natural_of word.0)) word.1

-- a digit or a minus
abbrev pub begins_number : List ℕ → Bool
begins_number [] = false
begins_number (b ∷ bytes) = is_digit b || b == 45

-- a number stands next
abbrev pub number_is_next : List (List ℕ) → Bool
number_is_next [] = false
number_is_next (word ∷ words) = begins_number word

unfoldable pub optional_index_at : List (List ℕ) → Read (Option ℤ)
optional_index_at words = if number_is_next words then (index_at words >>= λ index. Ok (Some index.0, index.1)) else Ok (None, words)

abbrev pub family_bounds_at : List (List ℕ) → Read (Option Family)
family_bounds_at words = do
  low ← index_at words
  high ← index_at low.1
  Ok (Some (record { low = low.0; high = high.0 }), high.1)

unfoldable pub bounds_at : List (List ℕ) → Read (Option Family)
bounds_at words = if number_is_next words then family_bounds_at words else Ok (None, words)

-- ---- names

unfoldable pub name_at : List (List ℕ) → Read (List ℕ)
name_at words = do
  word ← word_at words
  if is_name word.0 then Ok word else Err BadStatement

unfoldable pub task_name_at : Scope → List (List ℕ) → Read (List ℕ)
task_name_at names words = do
  name ← name_at words
  if is_task names name.0 then Ok name else Err UnknownName

unfoldable pub master_at : Scope → List (List ℕ) → Read (List ℕ)
master_at names words = do
  name ← name_at words
  if is_declared names name.0 then Ok name else Err UnknownName

unfoldable pub new_name_at : Scope → List (List ℕ) → Read (List ℕ)
new_name_at names words = do
  name ← name_at words
  if is_declared names name.0 then Err DoubleName else Ok name

unfoldable pub entry_name_at : Scope → List ℕ → List (List ℕ) → Read EntryName
entry_name_at names task words = do
  name ← name_at words
  if has_entry names task name.0 then (optional_index_at name.1 >>= λ index. Ok (record { family = name.0; index = index.0 }, index.1)) else Err UnknownName

-- ---- lists to the end of the line

-- what is read again and again until no word is left, so many times at most
unfoldable pub repeat_at : {X : Type 0} → (List X → List (List ℕ) → Read X) → ℕ → List X → List (List ℕ) → Read (List X)
repeat_at step room before [] = Ok (before, [])
repeat_at step zero before (word ∷ words) = Err BadStatement
repeat_at step (suc room) before (word ∷ words) = do
  x ← step before (word ∷ words)
  repeat_at step room (before ++ x.0 ∷ []) x.1

abbrev pub tasks_at : Scope → List (List ℕ) → Read (List (List ℕ))
tasks_at names words = repeat_at (λ before rest. task_name_at names rest) MOST_TASKS [] words

unfoldable pub family_at : List Declaration → List (List ℕ) → Read Declaration
family_at before words = do
  name ← name_at words
  if list_any (λ family. bytes_eq name.0 family.name) before then Err DoubleName
      else (bounds_at name.1 >>= λ bounds. Ok (record { name = name.0; bounds = bounds.0 }, bounds.1))

abbrev pub families_at : List (List ℕ) → Read (List Declaration)
families_at words = repeat_at family_at MOST_FAMILIES [] words

-- ---- statements

abbrev pub verb_from : Option Verb → List (List ℕ) → Read Verb
verb_from None words = Err BadStatement
verb_from (Some verb) words = Ok (verb, words)

unfoldable pub verb_at : List (List ℕ) → Read Verb
verb_at words = do
  word ← word_at words
  verb_from (verb_of word.0) word.1

unfoldable pub open_at : Scope → List ℕ → List (List ℕ) → Read Statement
open_at names by words = do
  block ← new_name_at names words
  Ok (Open by block.0, block.1)

unfoldable pub create_at : Scope → List ℕ → List (List ℕ) → Read Statement
create_at names by words = do
  task ← new_name_at names words
  found ← keyword_at (codes "under") task.1
  under ← master_at names found.1
  families ← families_at under.1
  Ok (Create by task.0 under.0 families.0, families.1)

unfoldable pub activate_at : Scope → List ℕ → List (List ℕ) → Read Statement
activate_at names by words = do
  tasks ← tasks_at names words
  Ok (Activate by tasks.0, tasks.1)

unfoldable pub abort_at : Scope → List ℕ → List (List ℕ) → Read Statement
abort_at names by words = do
  tasks ← tasks_at names words
  Ok (Abort by tasks.0, tasks.1)

abbrev pub call_within_at : List ℕ → List ℕ → EntryName → List (List ℕ) → Read Statement
call_within_at by callee entry words = do
  found ← keyword_at (codes "within") words
  duration ← moment_at found.1
  Ok (CallWithin by callee entry duration.0, duration.1)

unfoldable pub call_statement_at : Scope → List ℕ → List (List ℕ) → Read Statement
call_statement_at names by words = do
  callee ← task_name_at names words
  entry ← entry_name_at names callee.0 callee.1
  if is_over entry.1 then Ok (Call by callee.0 entry.0, entry.1) else call_within_at by callee.0 entry.0 entry.1

unfoldable pub try_at : Scope → List ℕ → List (List ℕ) → Read Statement
try_at names by words = do
  callee ← task_name_at names words
  entry ← entry_name_at names callee.0 callee.1
  Ok (Try by callee.0 entry.0, entry.1)

unfoldable pub accept_at : Scope → List ℕ → List (List ℕ) → Read Statement
accept_at names by words = do
  entry ← entry_name_at names by words
  Ok (Accept by entry.0, entry.1)

unfoldable pub delay_at : List ℕ → List (List ℕ) → Read Statement
delay_at by words = do
  duration ← moment_at words
  Ok (Delay by duration.0, duration.1)

-- ---- selective waits

-- the word, if it stands next, is passed over
abbrev pub passed_over : List ℕ → List (List ℕ) → Bool × List (List ℕ)
passed_over keyword [] = (false, [])
passed_over keyword (word ∷ words) = if bytes_eq word keyword then (true, words) else (false, word ∷ words)

unfoldable pub kind_of : List ℕ → Result Branch Fault
kind_of word =
    if bytes_eq word (codes "accept") then Ok branches.Accept
    else (if bytes_eq word (codes "delay") then Ok branches.Delay else (if bytes_eq word (codes "terminate") then Ok branches.Terminate else Err BadStatement))

-- the guard of an alternative, and which it is
unfoldable pub branch_at : List (List ℕ) → Read (Bool × Branch)
branch_at words = do
  word ← word_at (passed_over (codes "closed") words).1
  branch ← kind_of word.0
  Ok ((not (passed_over (codes "closed") words).0, branch), word.1)

unfoldable pub tail_of : List ℕ → Result (Option Tail) Fault
tail_of word = if bytes_eq word (codes "or") then Ok None else (if bytes_eq word (codes "else") then Ok (Some tails.Otherwise) else Err BadStatement)

-- what follows an accept alternative: another alternative, or a tail
unfoldable pub link_at : List (List ℕ) → Read (Option Tail)
link_at [] = Ok (Some tails.Nothing, [])
link_at (word ∷ words) = (tail_of word >>= λ tail. Ok (tail, words))

unfoldable pub pause_at : Bool → List (List ℕ) → Read Pause
pause_at guard words = do
  duration ← moment_at words
  Ok (record { guard = guard; duration = duration.0 }, duration.1)

abbrev pub pause_from : Branch → Bool → List (List ℕ) → Read Pause
pause_from branches.Accept guard words = Err BadStatement
pause_from branches.Delay guard words = pause_at guard words
pause_from branches.Terminate guard words = Err BadStatement

-- one more delay alternative
unfoldable pub next_pause_at : List (List ℕ) → Read Pause
next_pause_at words = do
  found ← keyword_at (codes "or") words
  branch ← branch_at found.1
  pause_from branch.0.1 branch.0.0 branch.1

unfoldable pub pauses_at : Bool → List (List ℕ) → Read (List Pause)
pauses_at guard words = do
  first ← pause_at guard words
  repeat_at (λ before rest. next_pause_at rest) 7 (first.0 ∷ []) first.1

-- an accept alternative behind its guard, and what follows it
unfoldable pub choice_at : Scope → List ℕ → Bool → List (List ℕ) → Read (Alternative × Option Tail)
choice_at names by guard words = do
  entry ← entry_name_at names by words
  link ← link_at entry.1
  Ok ((record { guard = guard; entry = entry.0 }, link.0), link.1)

-- the tail behind the accept alternatives
unfoldable pub tail_from : Branch → Bool → List (List ℕ) → Read Tail
tail_from branches.Accept guard words = Err BadStatement
tail_from branches.Delay guard words = (pauses_at guard words >>= λ pauses. Ok (tails.Delays pauses.0, pauses.1))
tail_from branches.Terminate guard words = Ok (tails.Terminate guard, words)

abbrev pub is_accept : Branch → Bool
is_accept branches.Accept = true
is_accept branches.Delay = false
is_accept branches.Terminate = false

abbrev pub with_tail : List Alternative → Read Tail → Read (List Alternative × Tail)
with_tail choices tail = tail >>= λ t. Ok ((choices, t.0), t.1)

abbrev pub ended_by : Option Tail → List Alternative → List (List ℕ) → Read (List Alternative × Tail) → Read (List Alternative × Tail)
ended_by None choices words next = next
ended_by (Some tail) choices words next = Ok ((choices, tail), words)

-- alternatives, the first of which stands next, with room for so many accept alternatives
unfoldable pub choices_at : Scope → List ℕ → ℕ → List Alternative → List (List ℕ) → Read (List Alternative × Tail)
choices_at names by zero before words = do
  branch ← branch_at words
  with_tail before (tail_from branch.0.1 branch.0.0 branch.1)
choices_at names by (suc room) before words = do
  branch ← branch_at words
  if is_accept branch.0.1 then (choice_at names by branch.0.0 branch.1 >>= λ choice. ended_by choice.0.1 (before ++ choice.0.0 ∷ []) choice.1
      (choices_at names by room (before ++ choice.0.0 ∷ []) choice.1)) else with_tail before (tail_from branch.0.1 branch.0.0 branch.1)

unfoldable pub alternatives_at : Scope → List ℕ → List (List ℕ) → Read (List Alternative × Tail)
alternatives_at names by words =
    if is_over words then Ok (([], tails.Nothing), words)
    else (if (passed_over (codes "else") words).0 then Ok (([], tails.Otherwise), (passed_over (codes "else") words).1)
    else choices_at names by MOST_CHOICES [] (passed_over (codes "else") words).1)

unfoldable pub select_at : Scope → List ℕ → List (List ℕ) → Read Statement
select_at names by words = do
  pick ← pick_at words
  wait ← alternatives_at names by pick.1
  Ok (Select by pick.0 wait.0.0 wait.0.1, wait.1)

-- ---- whole statements

abbrev pub show_task_at : Scope → (List ℕ → Statement) → List (List ℕ) → Read Statement
show_task_at names shown words = do
  task ← task_name_at names words
  Ok (shown task.0, task.1)

abbrev pub show_count_at : Scope → List ℕ → List (List ℕ) → Read Statement
show_count_at names by words = do
  entry ← entry_name_at names by words
  Ok (ShowCount by entry.0, entry.1)

unfoldable pub show_at : Scope → List ℕ → List (List ℕ) → Read Statement
show_at names by words = do
  word ← word_at words
  if bytes_eq word.0 (codes "callable") then show_task_at names (λ task. ShowCallable by task) word.1
      else (if bytes_eq word.0 (codes "terminated") then show_task_at names (λ task. ShowTerminated by task) word.1
      else (if bytes_eq word.0 (codes "count") then show_count_at names by word.1 else Err BadStatement))

unfoldable pub tick_at : List (List ℕ) → Read Statement
tick_at words = do
  now ← moment_at words
  Ok (Tick now.0, now.1)

-- what the speaker does
unfoldable pub act_at : Scope → List ℕ → Verb → List (List ℕ) → Read Statement
act_at names by verbs.Open words = open_at names by words
act_at names by verbs.Create words = create_at names by words
act_at names by verbs.Activate words = activate_at names by words
act_at names by verbs.Up words = Ok (Up by, words)
act_at names by verbs.Fail words = Ok (Fail by, words)
act_at names by verbs.Call words = call_statement_at names by words
act_at names by verbs.Try words = try_at names by words
act_at names by verbs.Accept words = accept_at names by words
act_at names by verbs.Select words = select_at names by words
act_at names by verbs.End words = Ok (End by, words)
act_at names by verbs.Raise words = Ok (Raise by, words)
act_at names by verbs.Close words = Ok (Close by, words)
act_at names by verbs.Delay words = delay_at by words
act_at names by verbs.Complete words = Ok (Complete by, words)
act_at names by verbs.Abort words = abort_at names by words
act_at names by verbs.Show words = show_at names by words

-- the word without the colon at its end
abbrev pub before_colon : List ℕ → Option (List ℕ)
before_colon word = if slice_index word (length word - 1) == 58 then Some (take (length word - 1) word) else None

abbrev pub speaker_from : Scope → Option (List ℕ) → Result (List ℕ) Fault
speaker_from names None = Err BadStatement
speaker_from names (Some name) = if is_name name then (if is_task names name then Ok name else Err UnknownName) else Err BadStatement

unfoldable pub speaker_of : Scope → List ℕ → Result (List ℕ) Fault
speaker_of names word = speaker_from names (before_colon word)

unfoldable pub speech_at : Scope → List ℕ → List (List ℕ) → Read Statement
speech_at names first words = do
  by ← speaker_of names first
  verb ← verb_at words
  act_at names by verb.0 verb.1

unfoldable pub statement_at : Scope → List (List ℕ) → Read Statement
statement_at names words = do
  first ← word_at words
  if bytes_eq first.0 (codes "tick") then tick_at first.1 else speech_at names first.0 first.1

-- the statement of a line
unfoldable pub statement_of : Scope → List (List ℕ) → Result Statement Fault
statement_of names words = do
  statement ← statement_at names words
  ended ← end_at statement.1
  Ok statement.0
