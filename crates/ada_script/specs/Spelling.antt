-- The words of a statement.
use Rattle.std.specs.Prelude.{ℕ, Bool, true, false, List, [], ◌∷◌, ◌++◌, map, Option, Some, None, ℤ, codes, decimal}
use Rattle.std.specs.Fmt.{signed_decimal}
use Rattle.std.specs.List.{flat_map}
use Rattle.ada_events.specs.declared.names.Family.{Family}
use Rattle.ada_events.specs.declared.names.Pause.{Pause}
use Rattle.ada_events.specs.declared.request.Tail.{Tail}
use Rattle.ada_events.specs.declared.request.Tail.TheVariants.{Otherwise, Delays, Terminate}
use Rattle.ada_statements.specs.declared.statement.Statement.{Statement}
use Rattle.ada_statements.specs.declared.statement.Statement.TheVariants.{Tick, Open, Create, Activate, Up, Fail, Call, CallWithin, Try, Accept, Select, End}
use Rattle.ada_statements.specs.declared.statement.Statement.TheVariants.{Raise, Close, Delay, Complete, Abort, ShowCallable, ShowTerminated, ShowCount}
use Rattle.ada_statements.specs.declared.statement.Declaration.{Declaration}
use Rattle.ada_statements.specs.declared.statement.EntryName.{EntryName}
use Rattle.ada_statements.specs.declared.statement.Alternative.{Alternative}

-- who speaks: a name with a colon
abbrev pub speaker : List ℕ → List ℕ
speaker by = by ++ codes ":"

-- an index, where one is written
abbrev pub index_words : Option ℤ → List (List ℕ)
index_words None = []
index_words (Some index) = signed_decimal index ∷ []

abbrev pub entry_words : EntryName → List (List ℕ)
entry_words entry = entry.family ∷ index_words entry.index

-- both bounds, where they are written
abbrev pub bounds_words : Option Family → List (List ℕ)
bounds_words None = []
bounds_words (Some family) = signed_decimal family.low ∷ signed_decimal family.high ∷ []

abbrev pub family_words : Declaration → List (List ℕ)
family_words family = family.name ∷ bounds_words family.bounds

-- a guard that is true has no word
abbrev pub guard_words : Bool → List (List ℕ)
guard_words true = []
guard_words false = codes "closed" ∷ []

abbrev pub choice_words : Alternative → List (List ℕ)
choice_words choice = guard_words choice.guard ++ codes "accept" ∷ entry_words choice.entry

abbrev pub pause_words : Pause → List (List ℕ)
pause_words pause = guard_words pause.guard ++ codes "delay" ∷ signed_decimal pause.duration ∷ []

-- the alternatives behind the accept alternatives
abbrev pub tail_alternatives : Tail → List (List (List ℕ))
tail_alternatives (Delays pauses) = map pause_words pauses
tail_alternatives (Terminate guard) = (guard_words guard ++ codes "terminate" ∷ []) ∷ []
tail_alternatives _ = []

abbrev pub else_words : Tail → List (List ℕ)
else_words Otherwise = codes "else" ∷ []
else_words _ = []

-- alternatives with "or" between them
abbrev pub joined_by_or : List (List (List ℕ)) → List (List ℕ)
joined_by_or [] = []
joined_by_or (first ∷ []) = first
joined_by_or (first ∷ second ∷ others) = first ++ codes "or" ∷ joined_by_or (second ∷ others)

abbrev pub select_words : List Alternative → Tail → List (List ℕ)
select_words choices tail = joined_by_or (map choice_words choices ++ tail_alternatives tail) ++ else_words tail

abbrev pub words_of : Statement → List (List ℕ)
words_of (Tick now) = codes "tick" ∷ signed_decimal now ∷ []
words_of (Open by block) = speaker by ∷ codes "open" ∷ block ∷ []
words_of (Create by task under families) = speaker by ∷ codes "create" ∷ task ∷ codes "under" ∷ under ∷ flat_map family_words families
words_of (Activate by tasks) = speaker by ∷ codes "activate" ∷ tasks
words_of (Up by) = speaker by ∷ codes "up" ∷ []
words_of (Fail by) = speaker by ∷ codes "fail" ∷ []
words_of (Call by callee entry) = speaker by ∷ codes "call" ∷ callee ∷ entry_words entry
words_of (CallWithin by callee entry duration) = speaker by ∷ codes "call" ∷ callee ∷ (entry_words entry ++ codes "within" ∷ signed_decimal duration ∷ [])
words_of (Try by callee entry) = speaker by ∷ codes "try" ∷ callee ∷ entry_words entry
words_of (Accept by entry) = speaker by ∷ codes "accept" ∷ entry_words entry
words_of (Select by pick choices tail) = speaker by ∷ codes "select" ∷ decimal pick ∷ select_words choices tail
words_of (End by) = speaker by ∷ codes "end" ∷ []
words_of (Raise by) = speaker by ∷ codes "raise" ∷ []
words_of (Close by) = speaker by ∷ codes "close" ∷ []
words_of (Delay by duration) = speaker by ∷ codes "delay" ∷ signed_decimal duration ∷ []
words_of (Complete by) = speaker by ∷ codes "complete" ∷ []
words_of (Abort by tasks) = speaker by ∷ codes "abort" ∷ tasks
words_of (ShowCallable by task) = speaker by ∷ codes "show" ∷ codes "callable" ∷ task ∷ []
words_of (ShowTerminated by task) = speaker by ∷ codes "show" ∷ codes "terminated" ∷ task ∷ []
words_of (ShowCount by entry) = speaker by ∷ codes "show" ∷ codes "count" ∷ entry_words entry
