-- A statement that may stand is read again from its words.
use Rattle.std.proofs.Common.{◌≡◌, ℕ, ◌-◌, Bool, true, false, List, [], ◌∷◌, ◌++◌, length, take, get_or, Some, Ok, refl, sym, ap, ◌∙◌, arith, length-append, ℤ}
use Rattle.std.specs.Prelude.{codes, decimal}
use Rattle.std.specs.Fmt.{signed_decimal}
use Rattle.std.specs.List.{flat_map}
use Rattle.std.specs.Str.{bytes_eq}
use Rattle.std.proofs.lemmas.List.{append-nil}
use Rattle.std.proofs.lemmas.Slice.Eq.{bytes_eq-Decides}
use Rattle.ada_events.specs.declared.request.Tail.{Tail}
use Rattle.ada_script.specs.declared.verb.Verb.{Verb}
use Rattle.ada_script.specs.declared.verb.Verb.TheVariants as verbs
use Rattle.ada_statements.specs.declared.statement.Statement.{Statement}
use Rattle.ada_statements.specs.declared.statement.Statement.TheVariants.{Tick, Open, Create, Activate, Up, Fail, Call, CallWithin, Try, Accept, Select, End}
use Rattle.ada_statements.specs.declared.statement.Statement.TheVariants.{Raise, Close, Delay, Complete, Abort, ShowCallable, ShowTerminated, ShowCount}
use Rattle.ada_statements.specs.declared.statement.Declaration.{Declaration}
use Rattle.ada_statements.specs.declared.statement.EntryName.{EntryName}
use Rattle.ada_statements.specs.declared.statement.Alternative.{Alternative}
use Rattle.ada_script.specs.Spelling.{speaker, entry_words, family_words, select_words, words_of}
use Rattle.ada_statements.specs.Scope.{Scope, IsTaskName, IsEntryName, MayStand}
use Rattle.ada_script.specs.internal.Reading.{entry_name_at, verb_at, tick_at, open_at, create_at, activate_at, abort_at, call_statement_at}
use Rattle.ada_script.specs.internal.Reading.{try_at, accept_at, delay_at, select_at}
use Rattle.ada_script.specs.internal.Reading.{show_at, act_at, before_colon, speaker_of, speech_at, statement_at, statement_of}
use Rattle.ada_script.specs.internal.Verbs.{verb_word, verb_of}
use Rattle.ada_script.proofs.AgainParts.{keyword_again, task_again, master_again, new_name_again, moment_again, pick_again, entry_again}
use Rattle.ada_script.proofs.AgainLists.{tasks_again, families_again}
use Rattle.ada_script.proofs.AgainSelect.{select_again}

-- ---- the speaker and the verb

verb_again : (verb : Verb) (rest : List (List ℕ)) → verb_at (verb_word verb ∷ rest) ≡ Ok (verb, rest)
unfolding verb_at verb_of
verb_again verbs.Open rest = refl
verb_again verbs.Create rest = refl
verb_again verbs.Activate rest = refl
verb_again verbs.Up rest = refl
verb_again verbs.Fail rest = refl
verb_again verbs.Call rest = refl
verb_again verbs.Try rest = refl
verb_again verbs.Accept rest = refl
verb_again verbs.Select rest = refl
verb_again verbs.End rest = refl
verb_again verbs.Raise rest = refl
verb_again verbs.Close rest = refl
verb_again verbs.Delay rest = refl
verb_again verbs.Complete rest = refl
verb_again verbs.Abort rest = refl
verb_again verbs.Show rest = refl

at_end : (name : List ℕ) → get_or (speaker name) (length name) 0 ≡ 58
at_end [] = refl
at_end (b ∷ name) = at_end name

before_end : (name : List ℕ) → take (length name) (speaker name) ≡ name
before_end [] = refl
before_end (b ∷ name) = ap (λ (r : List ℕ). b ∷ r) (before_end name)

before_colon-speaker : (name : List ℕ) → before_colon (speaker name) ≡ Some name
before_colon-speaker name =
    let last : length (speaker name) - 1 ≡ length name = omega (arith, length-append name (58 ∷ [])) in
    rw (last, at_end name) (ap Some (before_end name))

speaker_again : (names : Scope) (by : List ℕ) → IsTaskName names by → speaker_of names (speaker by) ≡ Ok by
unfolding speaker_of
speaker_again names by known = rw (before_colon-speaker by, known.0, known.1) refl

-- a word with a colon isn't the word of a tick
no_tick : (by : List ℕ) → bytes_eq (speaker by) (codes "tick") ≡ false
no_tick by = which (bytes_eq (speaker by) (codes "tick")) refl
  where
    which : (same : Bool) → bytes_eq (speaker by) (codes "tick") ≡ same → same ≡ false
    which false e = refl
    which true e =
        let is : speaker by ≡ codes "tick" = (bytes_eq-Decides (speaker by) (codes "tick")).0 e in
        let found : before_colon (codes "tick") ≡ Some by = sym (ap before_colon is) ∙ before_colon-speaker by in
        absurd cc

-- ---- what a speaker does

module _ (names : Scope) where
  abbrev ActAgain : List ℕ → Verb → Statement → List (List ℕ) → Type 0
  ActAgain by verb statement words = act_at names by verb words ≡ Ok (statement, [])

  open_again : (by block : List ℕ) → MayStand names (Open by block) → ActAgain by verbs.Open (Open by block) (block ∷ [])
  unfolding act_at open_at
  open_again by block stands = rw (new_name_again names block [] stands.1) refl

  create_again : (by task under : List ℕ) (families : List Declaration) → MayStand names (Create by task under families)
      → ActAgain by verbs.Create (Create by task under families) (task ∷ codes "under" ∷ under ∷ flat_map family_words families)
  unfolding act_at create_at
  create_again by task under families stands =
      rw (
        new_name_again names task (codes "under" ∷ under ∷ flat_map family_words families) stands.1,
        keyword_again (codes "under") (under ∷ flat_map family_words families),
        master_again names under (flat_map family_words families) stands.2,
        families_again families stands.3,
      ) refl

  activate_again : (by : List ℕ) (tasks : List (List ℕ)) → MayStand names (Activate by tasks) → ActAgain by verbs.Activate (Activate by tasks) tasks
  unfolding act_at activate_at
  activate_again by tasks stands = rw (tasks_again names tasks stands.1) refl

  abort_again : (by : List ℕ) (tasks : List (List ℕ)) → MayStand names (Abort by tasks) → ActAgain by verbs.Abort (Abort by tasks) tasks
  unfolding act_at abort_at
  abort_again by tasks stands = rw (tasks_again names tasks stands.1) refl

  -- an entry to the end of the line
  entry_last : (task : List ℕ) (entry : EntryName) → IsEntryName names task entry → entry_name_at names task (entry_words entry) ≡ Ok (entry, [])
  entry_last task entry known = ap (entry_name_at names task) (sym (append-nil (entry_words entry))) ∙ entry_again names task entry [] known refl

  call_again : (by callee : List ℕ) (entry : EntryName) → MayStand names (Call by callee entry)
      → ActAgain by verbs.Call (Call by callee entry) (callee ∷ entry_words entry)
  unfolding act_at call_statement_at
  call_again by callee entry stands = rw (task_again names callee (entry_words entry) stands.1, entry_last callee entry stands.2) refl

  call_within_again : (by callee : List ℕ) (entry : EntryName) (duration : ℤ) → MayStand names (CallWithin by callee entry duration)
      → ActAgain by verbs.Call (CallWithin by callee entry duration) (callee ∷ (entry_words entry ++ codes "within" ∷ signed_decimal duration ∷ []))
  unfolding act_at call_statement_at
  call_within_again by callee entry duration stands =
      rw (
        task_again names callee (entry_words entry ++ codes "within" ∷ signed_decimal duration ∷ []) stands.1,
        entry_again names callee entry (codes "within" ∷ signed_decimal duration ∷ []) stands.2 refl,
        keyword_again (codes "within") (signed_decimal duration ∷ []),
        moment_again duration [] stands.3,
      ) refl

  try_again : (by callee : List ℕ) (entry : EntryName) → MayStand names (Try by callee entry)
      → ActAgain by verbs.Try (Try by callee entry) (callee ∷ entry_words entry)
  unfolding act_at try_at
  try_again by callee entry stands = rw (task_again names callee (entry_words entry) stands.1, entry_last callee entry stands.2) refl

  accept_again : (by : List ℕ) (entry : EntryName) → MayStand names (Accept by entry) → ActAgain by verbs.Accept (Accept by entry) (entry_words entry)
  unfolding act_at accept_at
  accept_again by entry stands = rw (entry_last by entry stands.1) refl

  delay_again : (by : List ℕ) (duration : ℤ) → MayStand names (Delay by duration) → ActAgain by verbs.Delay (Delay by duration) (signed_decimal duration ∷ [])
  unfolding act_at delay_at
  delay_again by duration stands = rw (moment_again duration [] stands.1) refl

  select_statement_again : (by : List ℕ) (pick : ℕ) (choices : List Alternative) (tail : Tail) → MayStand names (Select by pick choices tail)
      → ActAgain by verbs.Select (Select by pick choices tail) (decimal pick ∷ select_words choices tail)
  unfolding act_at select_at
  select_statement_again by pick choices tail stands = rw
      (pick_again pick (select_words choices tail) stands.1, select_again names by choices tail stands.2 stands.3) refl

  show_callable_again : (by task : List ℕ) → MayStand names (ShowCallable by task)
      → ActAgain by verbs.Show (ShowCallable by task) (codes "callable" ∷ task ∷ [])
  unfolding act_at show_at
  show_callable_again by task stands = rw (task_again names task [] stands.1) refl

  show_terminated_again : (by task : List ℕ) → MayStand names (ShowTerminated by task)
      → ActAgain by verbs.Show (ShowTerminated by task) (codes "terminated" ∷ task ∷ [])
  unfolding act_at show_at
  show_terminated_again by task stands = rw (task_again names task [] stands.1) refl

  show_count_again : (by : List ℕ) (entry : EntryName) → MayStand names (ShowCount by entry)
      → ActAgain by verbs.Show (ShowCount by entry) (codes "count" ∷ entry_words entry)
  unfolding act_at show_at
  show_count_again by entry stands = rw (entry_last by entry stands.1) refl

  -- ---- whole statements

  speech_again : (by : List ℕ) (verb : Verb) (statement : Statement) (words : List (List ℕ)) → IsTaskName names by → ActAgain by verb statement words
      → statement_of names (speaker by ∷ verb_word verb ∷ words) ≡ Ok statement
  unfolding statement_of statement_at speech_at
  speech_again by verb statement words known act = rw (no_tick by, speaker_again names by known, verb_again verb words, act) refl

  tick_again : (now : ℤ) → MayStand names (Tick now) → statement_of names (words_of (Tick now)) ≡ Ok (Tick now)
  unfolding statement_of statement_at tick_at
  tick_again now stands = rw (moment_again now [] stands) refl

  pub statement_again : (statement : Statement) → MayStand names statement → statement_of names (words_of statement) ≡ Ok statement
  unfolding act_at
  statement_again (Tick now) stands = tick_again now stands
  statement_again (Open by block) stands = speech_again by verbs.Open (Open by block) _ stands.0 (open_again by block stands)
  statement_again (Create by task under families) stands = speech_again by verbs.Create (Create by task under families) _ stands.0
      (create_again by task under families stands)
  statement_again (Activate by tasks) stands = speech_again by verbs.Activate (Activate by tasks) _ stands.0 (activate_again by tasks stands)
  statement_again (Up by) stands = speech_again by verbs.Up (Up by) [] stands refl
  statement_again (Fail by) stands = speech_again by verbs.Fail (Fail by) [] stands refl
  statement_again (Call by callee entry) stands = speech_again by verbs.Call (Call by callee entry) _ stands.0 (call_again by callee entry stands)
  statement_again (CallWithin by callee entry duration) stands = speech_again by verbs.Call (CallWithin by callee entry duration) _ stands.0
      (call_within_again by callee entry duration stands)
  statement_again (Try by callee entry) stands = speech_again by verbs.Try (Try by callee entry) _ stands.0 (try_again by callee entry stands)
  statement_again (Accept by entry) stands = speech_again by verbs.Accept (Accept by entry) _ stands.0 (accept_again by entry stands)
  statement_again (Select by pick choices tail) stands = speech_again by verbs.Select (Select by pick choices tail) _ stands.0
      (select_statement_again by pick choices tail stands)
  statement_again (End by) stands = speech_again by verbs.End (End by) [] stands refl
  statement_again (Raise by) stands = speech_again by verbs.Raise (Raise by) [] stands refl
  statement_again (Close by) stands = speech_again by verbs.Close (Close by) [] stands refl
  statement_again (Delay by duration) stands = speech_again by verbs.Delay (Delay by duration) _ stands.0 (delay_again by duration stands)
  statement_again (Complete by) stands = speech_again by verbs.Complete (Complete by) [] stands refl
  statement_again (Abort by tasks) stands = speech_again by verbs.Abort (Abort by tasks) _ stands.0 (abort_again by tasks stands)
  statement_again (ShowCallable by task) stands = speech_again by verbs.Show (ShowCallable by task) _ stands.0 (show_callable_again by task stands)
  statement_again (ShowTerminated by task) stands = speech_again by verbs.Show (ShowTerminated by task) _ stands.0 (show_terminated_again by task stands)
  statement_again (ShowCount by entry) stands = speech_again by verbs.Show (ShowCount by entry) _ stands.0 (show_count_again by entry stands)
