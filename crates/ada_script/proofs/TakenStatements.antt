-- A statement that is read is spelled so, and may stand there.
use Rattle.std.proofs.Common.{◌≡◌, ℕ, ◌-◌, cond, List, [], ◌∷◌, ◌++◌, length, take, get_or, eqb, Option, Some, None, Ok, refl, sym, ap, subst, ◌∙◌, arith}
use Rattle.std.proofs.Common.{append_assoc, inl, inr}
use Rattle.std.specs.Prelude.{codes, decimal}
use Rattle.std.specs.Fmt.{signed_decimal}
use Rattle.std.specs.List.{flat_map}
use Rattle.std.specs.Str.{bytes_eq}
use Rattle.std.proofs.lemmas.Bool.{eqb-true}
use Rattle.std.proofs.lemmas.List.{append-nil}
use Rattle.std.proofs.lemmas.Slice.Eq.{bytes_eq-Decides}
use Rattle.ada_script.specs.declared.verb.Verb.{Verb}
use Rattle.ada_script.specs.declared.verb.Verb.TheVariants as verbs
use Rattle.ada_statements.specs.declared.statement.Statement.{Statement}
use Rattle.ada_statements.specs.declared.statement.Statement.TheVariants.{Tick, Open, Create, Activate, Up, Fail, Call, CallWithin, Try, Accept, Select, End}
use Rattle.ada_statements.specs.declared.statement.Statement.TheVariants.{Raise, Close, Delay, Complete, Abort, ShowCallable, ShowTerminated, ShowCount}
use Rattle.ada_statements.specs.Text.{is_name}
use Rattle.ada_script.specs.Spelling.{speaker, entry_words, family_words, words_of}
use Rattle.ada_statements.specs.Scope.{Scope, is_task, IsTaskName, MayStand}
use Rattle.ada_script.specs.internal.Reading.{word_at, end_at, keyword_at, moment_at, pick_at, task_name_at, new_name_at}
use Rattle.ada_script.specs.internal.Reading.{master_at, entry_name_at, tasks_at, families_at}
use Rattle.ada_script.specs.Cursor.{is_over}
use Rattle.ada_script.specs.internal.Reading.{alternatives_at, verb_from, verb_at, tick_at, open_at, create_at, activate_at, abort_at, call_statement_at}
use Rattle.ada_script.specs.internal.Reading.{try_at}
use Rattle.ada_script.specs.internal.Reading.{accept_at, delay_at, select_at, show_at, act_at, before_colon, speaker_from, speaker_of, speech_at, statement_at}
use Rattle.ada_script.specs.internal.Reading.{statement_of}
use Rattle.ada_script.specs.internal.Verbs.{verb_word, all_verbs, verb_of}
use Rattle.ada_statements.proofs.Found.{found_passes}
use Rattle.ada_script.proofs.Taken.{bind_ok, if_ok, chosen, ok_is, done, word_reads, keyword_reads, moment_reads, pick_reads, task_reads, master_reads}
use Rattle.ada_script.proofs.Taken.{new_name_reads, entry_reads}
use Rattle.ada_script.proofs.TakenLists.{tasks_read, families_read}
use Rattle.ada_script.proofs.TakenSelect.{select_reads}

-- ---- verbs

verb_of_reads : (word : List ℕ) (verb : Verb) → verb_of word ≡ Some verb → word ≡ verb_word verb
unfolding verb_of
verb_of_reads word verb e = sym ((bytes_eq-Decides (verb_word verb) word).0 (found_passes (λ v. bytes_eq (verb_word v) word) all_verbs verb e))

verb_found : (verb : Option Verb) (words : List (List ℕ)) (x : Verb × List (List ℕ)) → verb_from verb words ≡ Ok x → (verb ≡ Some x.0) × (words ≡ x.1)
verb_found None words x e = absurd cc
verb_found (Some v) words x e =
    let same = ok_is (v, words) x e in
    (ap (λ (p : Verb × List (List ℕ)). Some p.0) same, ap (λ (p : Verb × List (List ℕ)). p.1) same)

verb_reads : (words : List (List ℕ)) (x : Verb × List (List ℕ)) → verb_at words ≡ Ok x → words ≡ verb_word x.0 ∷ x.1
unfolding verb_at
verb_reads words x e =
    let a = bind_ok (word_at words) _ x e in
    let b = verb_found (verb_of a.0.0) a.0.1 x a.2 in
    let verb : a.0.0 ≡ verb_word x.0 = verb_of_reads a.0.0 x.0 b.0 in
    let rest : a.0.1 ≡ x.1 = b.1 in
    let whole : words ≡ a.0.0 ∷ a.0.1 = word_reads words a.0 a.1 in
    cc

-- ---- what a speaker does

-- a statement whose speaker and verb stand before these words
abbrev pub ActRead : Scope → List ℕ → Verb → List (List ℕ) → Statement × List (List ℕ) → Type 0
ActRead names by verb words x = (speaker by ∷ verb_word verb ∷ words ≡ words_of x.0 ++ x.1) × MayStand names x.0

module _ (names : Scope) (by : List ℕ) (known : IsTaskName names by) where
  -- the words behind the speaker and the verb
  behind : (verb : Verb) (words others : List (List ℕ)) → words ≡ others → speaker by ∷ verb_word verb ∷ words ≡ speaker by ∷ verb_word verb ∷ others
  behind verb words others e = ap (λ (r : List (List ℕ)). speaker by ∷ verb_word verb ∷ r) e

  open_reads : (words : List (List ℕ)) (x : Statement × List (List ℕ)) → open_at names by words ≡ Ok x → ActRead names by verbs.Open words x
  unfolding open_at
  open_reads words x e =
      let a = bind_ok (new_name_at names words) _ x e in
      let block = new_name_reads names words a.0 a.1 in
      subst (ActRead names by verbs.Open words) (ok_is (Open by a.0.0, a.0.1) x a.2) (behind verbs.Open words _ block.0, (known, block.1))

  create_reads : (words : List (List ℕ)) (x : Statement × List (List ℕ)) → create_at names by words ≡ Ok x → ActRead names by verbs.Create words x
  unfolding create_at
  create_reads words x e =
      let a = bind_ok (new_name_at names words) _ x e in
      let b = bind_ok (keyword_at (codes "under") a.0.1) _ x a.2 in
      let d = bind_ok (master_at names b.0.1) _ x b.2 in
      let f = bind_ok (families_at d.0.1) _ x d.2 in
      let task = new_name_reads names words a.0 a.1 in
      let keyword = keyword_reads (codes "under") a.0.1 b.0 b.1 in
      let under = master_reads names b.0.1 d.0 d.1 in
      let families = families_read d.0.1 f.0 f.1 in
      let spelled : words ≡ a.0.0 ∷ codes "under" ∷ d.0.0 ∷ flat_map family_words f.0.0 =
      task.0 ∙ ap (λ (r : List (List ℕ)). a.0.0 ∷ r)
      (keyword ∙ ap (λ (r : List (List ℕ)). codes "under" ∷ r) (under.0 ∙ ap (λ (r : List (List ℕ)). d.0.0 ∷ r) families.0)) in
      let made = Create by a.0.0 d.0.0 f.0.0 in
      subst (ActRead names by verbs.Create words) (ok_is (made, f.0.1) x f.2) (
        behind verbs.Create words _ spelled ∙ sym (append-nil (words_of made))
            ∙ ap (λ (r : List (List ℕ)). words_of made ++ r) (sym families.1),
        (known, task.1, under.1, families.2),
      )

  activate_reads : (words : List (List ℕ)) (x : Statement × List (List ℕ)) → activate_at names by words ≡ Ok x → ActRead names by verbs.Activate words x
  unfolding activate_at
  activate_reads words x e =
      let a = bind_ok (tasks_at names words) _ x e in
      let tasks = tasks_read names words a.0 a.1 in
      let made = Activate by a.0.0 in
      subst (ActRead names by verbs.Activate words) (ok_is (made, a.0.1) x a.2) (
        behind verbs.Activate words _ tasks.0 ∙ sym (append-nil (words_of made))
            ∙ ap (λ (r : List (List ℕ)). words_of made ++ r) (sym tasks.1),
        (known, tasks.2),
      )

  abort_reads : (words : List (List ℕ)) (x : Statement × List (List ℕ)) → abort_at names by words ≡ Ok x → ActRead names by verbs.Abort words x
  unfolding abort_at
  abort_reads words x e =
      let a = bind_ok (tasks_at names words) _ x e in
      let tasks = tasks_read names words a.0 a.1 in
      let made = Abort by a.0.0 in
      subst (ActRead names by verbs.Abort words) (ok_is (made, a.0.1) x a.2)
      (behind verbs.Abort words _ tasks.0 ∙ sym (append-nil (words_of made)) ∙ ap (λ (r : List (List ℕ)). words_of made ++ r) (sym tasks.1), (known, tasks.2))

  call_reads : (words : List (List ℕ)) (x : Statement × List (List ℕ)) → call_statement_at names by words ≡ Ok x → ActRead names by verbs.Call words x
  unfolding call_statement_at
  call_reads words x e =
      let a = bind_ok (task_name_at names words) _ x e in
      let b = bind_ok (entry_name_at names a.0.0 a.0.1) _ x a.2 in
      let callee = task_reads names words a.0 a.1 in
      let entry = entry_reads names a.0.0 a.0.1 b.0 b.1 in
      let spelled : words ≡ a.0.0 ∷ (entry_words b.0.0 ++ b.0.1) = callee.0 ∙ ap (λ (r : List (List ℕ)). a.0.0 ∷ r) entry.0 in
      elim (chosen (is_over b.0.1) _ _ (done x) b.2) [
        | inl over ↦ subst (ActRead names by verbs.Call words) (ok_is (Call by a.0.0 b.0.0, b.0.1) x over.1)
            (behind verbs.Call words _ spelled, (known, callee.1, entry.1))
        | inr more ↦
            let d = bind_ok (keyword_at (codes "within") b.0.1) _ x more.1 in
            let f = bind_ok (moment_at d.0.1) _ x d.2 in
            let keyword = keyword_reads (codes "within") b.0.1 d.0 d.1 in
            let duration = moment_reads d.0.1 f.0 f.1 in
            let tail : b.0.1 ≡ (codes "within" ∷ signed_decimal f.0.0 ∷ []) ++ f.0.1 = keyword ∙ ap (λ (r : List (List ℕ)). codes "within" ∷ r) duration.0 in
            let timed : words ≡ a.0.0 ∷ ((entry_words b.0.0 ++ (codes "within" ∷ signed_decimal f.0.0 ∷ [])) ++ f.0.1) =
            spelled ∙ ap (λ (r : List (List ℕ)). a.0.0 ∷ (entry_words b.0.0 ++ r)) tail
            ∙ ap (λ (r : List (List ℕ)). a.0.0 ∷ r) (sym (append_assoc (entry_words b.0.0) (codes "within" ∷ signed_decimal f.0.0 ∷ []) f.0.1)) in
            subst (ActRead names by verbs.Call words) (ok_is (CallWithin by a.0.0 b.0.0 f.0.0, f.0.1) x f.2)
            (behind verbs.Call words _ timed, (known, callee.1, entry.1, duration.1))
      ]

  try_reads : (words : List (List ℕ)) (x : Statement × List (List ℕ)) → try_at names by words ≡ Ok x → ActRead names by verbs.Try words x
  unfolding try_at
  try_reads words x e =
      let a = bind_ok (task_name_at names words) _ x e in
      let b = bind_ok (entry_name_at names a.0.0 a.0.1) _ x a.2 in
      let callee = task_reads names words a.0 a.1 in
      let entry = entry_reads names a.0.0 a.0.1 b.0 b.1 in
      subst (ActRead names by verbs.Try words) (ok_is (Try by a.0.0 b.0.0, b.0.1) x b.2)
      (behind verbs.Try words _ (callee.0 ∙ ap (λ (r : List (List ℕ)). a.0.0 ∷ r) entry.0), (known, callee.1, entry.1))

  accept_reads : (words : List (List ℕ)) (x : Statement × List (List ℕ)) → accept_at names by words ≡ Ok x → ActRead names by verbs.Accept words x
  unfolding accept_at
  accept_reads words x e =
      let a = bind_ok (entry_name_at names by words) _ x e in
      let entry = entry_reads names by words a.0 a.1 in
      subst (ActRead names by verbs.Accept words) (ok_is (Accept by a.0.0, a.0.1) x a.2) (behind verbs.Accept words _ entry.0, (known, entry.1))

  delay_reads : (words : List (List ℕ)) (x : Statement × List (List ℕ)) → delay_at by words ≡ Ok x → ActRead names by verbs.Delay words x
  unfolding delay_at
  delay_reads words x e =
      let a = bind_ok (moment_at words) _ x e in
      let duration = moment_reads words a.0 a.1 in
      subst (ActRead names by verbs.Delay words) (ok_is (Delay by a.0.0, a.0.1) x a.2) (behind verbs.Delay words _ duration.0, (known, duration.1))

  select_statement_reads : (words : List (List ℕ)) (x : Statement × List (List ℕ)) → select_at names by words ≡ Ok x → ActRead names by verbs.Select words x
  unfolding select_at
  select_statement_reads words x e =
      let a = bind_ok (pick_at words) _ x e in
      let b = bind_ok (alternatives_at names by a.0.1) _ x a.2 in
      let pick = pick_reads words a.0 a.1 in
      let wait = select_reads names by a.0.1 b.0 b.1 in
      subst (ActRead names by verbs.Select words) (ok_is (Select by a.0.0 b.0.0.0 b.0.0.1, b.0.1) x b.2)
      (behind verbs.Select words _ (pick.0 ∙ ap (λ (r : List (List ℕ)). decimal a.0.0 ∷ r) wait.0), (known, pick.1, wait.1, wait.2))

  show_reads : (words : List (List ℕ)) (x : Statement × List (List ℕ)) → show_at names by words ≡ Ok x → ActRead names by verbs.Show words x
  unfolding show_at
  show_reads words x e =
      let a = bind_ok (word_at words) _ x e in
      let word = word_reads words a.0 a.1 in
      elim (chosen (bytes_eq a.0.0 (codes "callable")) _ _ (done x) a.2) [
        | inl b ↦
            let d = bind_ok (task_name_at names a.0.1) _ x b.1 in
            let task = task_reads names a.0.1 d.0 d.1 in
            let attribute = (bytes_eq-Decides a.0.0 (codes "callable")).0 b.0 in
            subst (ActRead names by verbs.Show words) (ok_is (ShowCallable by d.0.0, d.0.1) x d.2) (
              behind verbs.Show words _ (word ∙ ap (λ (w : List ℕ). w ∷ a.0.1) attribute ∙ ap (λ (r : List (List ℕ)). codes "callable" ∷ r) task.0),
              (known, task.1),
            )
        | inr b ↦ elim (chosen (bytes_eq a.0.0 (codes "terminated")) _ _ (done x) b.1) [
          | inl f ↦
              let d = bind_ok (task_name_at names a.0.1) _ x f.1 in
              let task = task_reads names a.0.1 d.0 d.1 in
              let attribute = (bytes_eq-Decides a.0.0 (codes "terminated")).0 f.0 in
              subst (ActRead names by verbs.Show words) (ok_is (ShowTerminated by d.0.0, d.0.1) x d.2) (
                behind verbs.Show words _ (word ∙ ap (λ (w : List ℕ). w ∷ a.0.1) attribute ∙ ap (λ (r : List (List ℕ)). codes "terminated" ∷ r) task.0),
                (known, task.1),
              )
          | inr f ↦
              let g = if_ok (bytes_eq a.0.0 (codes "count")) _ _ x f.1 in
              let d = bind_ok (entry_name_at names by a.0.1) _ x g.1 in
              let entry = entry_reads names by a.0.1 d.0 d.1 in
              let attribute = (bytes_eq-Decides a.0.0 (codes "count")).0 g.0 in
              subst (ActRead names by verbs.Show words) (ok_is (ShowCount by d.0.0, d.0.1) x d.2) (
                behind verbs.Show words _ (word ∙ ap (λ (w : List ℕ). w ∷ a.0.1) attribute ∙ ap (λ (r : List (List ℕ)). codes "count" ∷ r) entry.0),
                (known, entry.1),
              )
        ]
      ]

  act_reads : (verb : Verb) (words : List (List ℕ)) (x : Statement × List (List ℕ)) → act_at names by verb words ≡ Ok x → ActRead names by verb words x
  unfolding act_at
  act_reads verbs.Open words x e = open_reads words x e
  act_reads verbs.Create words x e = create_reads words x e
  act_reads verbs.Activate words x e = activate_reads words x e
  act_reads verbs.Up words x e = subst (ActRead names by verbs.Up words) (ok_is (Up by, words) x e) (refl, known)
  act_reads verbs.Fail words x e = subst (ActRead names by verbs.Fail words) (ok_is (Fail by, words) x e) (refl, known)
  act_reads verbs.Call words x e = call_reads words x e
  act_reads verbs.Try words x e = try_reads words x e
  act_reads verbs.Accept words x e = accept_reads words x e
  act_reads verbs.Select words x e = select_statement_reads words x e
  act_reads verbs.End words x e = subst (ActRead names by verbs.End words) (ok_is (End by, words) x e) (refl, known)
  act_reads verbs.Raise words x e = subst (ActRead names by verbs.Raise words) (ok_is (Raise by, words) x e) (refl, known)
  act_reads verbs.Close words x e = subst (ActRead names by verbs.Close words) (ok_is (Close by, words) x e) (refl, known)
  act_reads verbs.Delay words x e = delay_reads words x e
  act_reads verbs.Complete words x e = subst (ActRead names by verbs.Complete words) (ok_is (Complete by, words) x e) (refl, known)
  act_reads verbs.Abort words x e = abort_reads words x e
  act_reads verbs.Show words x e = show_reads words x e

-- ---- whole statements

last_apart : (first : ℕ) (others : List ℕ) → first ∷ others ≡ take (length others) (first ∷ others) ++ get_or (first ∷ others) (length others) 0 ∷ []
last_apart first [] = refl
last_apart first (second ∷ others) = ap (λ (r : List ℕ). first ∷ r) (last_apart second others)

before_colon_reads : (word name : List ℕ) → before_colon word ≡ Some name → word ≡ speaker name
before_colon_reads [] name e = absurd cc
before_colon_reads (first ∷ others) name e =
    let last : length (first ∷ others) - 1 ≡ length others = omega arith in
    let there : cond (eqb (get_or (first ∷ others) (length others) 0) 58) (Some (take (length others) (first ∷ others))) None ≡ Some name = rw last at e in
    elim (chosen (eqb (get_or (first ∷ others) (length others) 0) 58) _ _ (Some name) there) [
      | inl colon ↦
          let front : take (length others) (first ∷ others) ≡ name = cc in
          last_apart first others ∙ ap (λ (b : ℕ). take (length others) (first ∷ others) ++ b ∷ []) (eqb-true _ _ colon.0)
          ∙ ap (λ (r : List ℕ). r ++ 58 ∷ []) front
      | inr none ↦ absurd cc
    ]

speaker_from_reads : (names : Scope) (name : Option (List ℕ)) (by : List ℕ) → speaker_from names name ≡ Ok by → (name ≡ Some by) × IsTaskName names by
speaker_from_reads names None by e = absurd cc
speaker_from_reads names (Some name) by e =
    let a = if_ok (is_name name) _ _ by e in
    let b = if_ok (is_task names name) _ _ by a.1 in
    let same : name ≡ by = ok_is name by b.1 in
    (ap Some same, subst (IsTaskName names) same (a.0, b.0))

speaker_reads : (names : Scope) (word by : List ℕ) → speaker_of names word ≡ Ok by → (word ≡ speaker by) × IsTaskName names by
unfolding speaker_of
speaker_reads names word by e =
    let a = speaker_from_reads names (before_colon word) by e in
    (before_colon_reads word by a.0, a.1)

abbrev StatementRead : Scope → List (List ℕ) → Statement × List (List ℕ) → Type 0
StatementRead names words x = (words ≡ words_of x.0 ++ x.1) × MayStand names x.0

tick_reads : (names : Scope) (words : List (List ℕ)) (x : Statement × List (List ℕ)) → tick_at words ≡ Ok x → StatementRead names (codes "tick" ∷ words) x
unfolding tick_at
tick_reads names words x e =
    let a = bind_ok (moment_at words) _ x e in
    let now = moment_reads words a.0 a.1 in
    subst (StatementRead names (codes "tick" ∷ words)) (ok_is (Tick a.0.0, a.0.1) x a.2) (ap (λ (r : List (List ℕ)). codes "tick" ∷ r) now.0, now.1)

speech_reads : (names : Scope) (first : List ℕ) (words : List (List ℕ)) (x : Statement × List (List ℕ)) → speech_at names first words ≡ Ok x
    → StatementRead names (first ∷ words) x
unfolding speech_at
speech_reads names first words x e =
    let a = bind_ok (speaker_of names first) _ x e in
    let b = bind_ok (verb_at words) _ x a.2 in
    let by = speaker_reads names first a.0 a.1 in
    let verb = verb_reads words b.0 b.1 in
    let act = act_reads names a.0 by.1 b.0.0 b.0.1 x b.2 in
    (ap (λ (w : List ℕ). w ∷ words) by.0 ∙ ap (λ (r : List (List ℕ)). speaker a.0 ∷ r) verb ∙ act.0, act.1)

open_statement_reads : (names : Scope) (words : List (List ℕ)) (x : Statement × List (List ℕ)) → statement_at names words ≡ Ok x → StatementRead names words x
unfolding statement_at
open_statement_reads names words x e =
    let a = bind_ok (word_at words) _ x e in
    let word = word_reads words a.0 a.1 in
    elim (chosen (bytes_eq a.0.0 (codes "tick")) _ _ (done x) a.2) [
      | inl tick ↦
          let t = tick_reads names a.0.1 x tick.1 in
          (word ∙ ap (λ (w : List ℕ). w ∷ a.0.1) ((bytes_eq-Decides a.0.0 (codes "tick")).0 tick.0) ∙ t.0, t.1)
      | inr speech ↦ let t = speech_reads names a.0.0 a.0.1 x speech.1 in (word ∙ t.0, t.1)
    ]

end_reads : (words : List (List ℕ)) (x : Unit {0} × List (List ℕ)) → end_at words ≡ Ok x → words ≡ []
end_reads [] x e = refl
end_reads (word ∷ words) x e = absurd cc

pub statement_reads : (names : Scope) (words : List (List ℕ)) (statement : Statement) → statement_of names words ≡ Ok statement → MayStand names statement
    × (words_of statement ≡ words)
unfolding statement_of
statement_reads names words statement e =
    let a = bind_ok (statement_at names words) _ statement e in
    let b = bind_ok (end_at a.0.1) _ statement a.2 in
    let read = open_statement_reads names words a.0 a.1 in
    let over = end_reads a.0.1 b.0 b.1 in
    let whole : words ≡ words_of a.0.0 = read.0 ∙ ap (λ (r : List (List ℕ)). words_of a.0.0 ++ r) over ∙ append-nil (words_of a.0.0) in
    subst (λ (s : Statement). MayStand names s × (words_of s ≡ words)) (ok_is a.0.0 statement b.2) (read.1, sym whole)
