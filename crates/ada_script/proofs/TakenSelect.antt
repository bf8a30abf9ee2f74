-- A selective wait that is read is spelled so, and has its form.
use Rattle.std.proofs.Common.{◌≡◌, ℕ, zero, suc, ◌<◌, ◌≤◌, Bool, true, false, cond, not, List, [], ◌∷◌, ◌++◌, length, Option, Some, None, Ok, refl, sym, ap}
use Rattle.std.proofs.Common.{subst, ◌∙◌, arith, append_assoc, inl, inr}
use Rattle.std.specs.Prelude.{map, codes}
use Rattle.std.specs.Fmt.{signed_decimal}
use Rattle.std.specs.List.{flat_map, AllByRecursion}
use Rattle.std.specs.Str.{bytes_eq}
use Rattle.std.proofs.lemmas.List.{append-nil}
use Rattle.std.proofs.lemmas.List.Concat.{flat_map-cons}
use Rattle.std.proofs.lemmas.Slice.Eq.{bytes_eq-Decides}
use Rattle.ada_events.specs.declared.names.Pause.{Pause}
use Rattle.ada_events.specs.declared.request.Tail.{Tail}
use Rattle.ada_events.specs.declared.request.Tail.TheVariants as tails
use Rattle.ada_script.specs.declared.select.Branch.{Branch}
use Rattle.ada_script.specs.declared.select.Branch.TheVariants as branches
use Rattle.ada_statements.specs.declared.statement.Alternative.{Alternative}
use Rattle.ada_script.specs.Spelling.{entry_words, guard_words, choice_words, pause_words, tail_alternatives, else_words, joined_by_or, select_words}
use Rattle.ada_statements.specs.Scope.{Scope, IsEntryName, IsMoment, IsTail, AreChoices}
use Rattle.ada_script.specs.Cursor.{is_over}
use Rattle.ada_script.specs.internal.Reading.{word_at, keyword_at, moment_at, entry_name_at, passed_over, kind_of, branch_at, tail_of, link_at, pause_at}
use Rattle.ada_script.specs.internal.Reading.{pause_from, next_pause_at, pauses_at, choice_at, tail_from, is_accept}
use Rattle.ada_script.specs.internal.Reading.{with_tail, ended_by, choices_at, alternatives_at}
use Rattle.ada_script.proofs.Taken.{bind_ok, if_ok, chosen, ok_is, done, word_reads, keyword_reads, moment_reads, entry_reads}
use Rattle.ada_script.proofs.TakenLists.{Chain, repeat_reads}

-- ---- the words between the parts

passed_by : (keyword word : List ℕ) (words : List (List ℕ)) (same : Bool) → (same ≡ true → word ≡ keyword) → (p : Bool × List (List ℕ)) → p ≡ cond {A =
    Bool × List (List ℕ)} same (true, words) (false, word ∷ words)
    → word ∷ words ≡ cond p.0 (keyword ∷ p.1) p.1
passed_by keyword word words true same p e =
    subst (λ (q : Bool × List (List ℕ)). word ∷ words ≡ cond q.0 (keyword ∷ q.1) q.1) (sym e) (ap (λ (w : List ℕ). w ∷ words) (same refl))
passed_by keyword word words false same p e = subst (λ (q : Bool × List (List ℕ)). word ∷ words ≡ cond q.0 (keyword ∷ q.1) q.1) (sym e) refl

passed_reads : (keyword : List ℕ) (words : List (List ℕ))
    → words ≡ cond (passed_over keyword words).0 (keyword ∷ (passed_over keyword words).1) (passed_over keyword words).1
passed_reads keyword [] = refl
passed_reads keyword (word ∷ words) =
    passed_by keyword word words (bytes_eq word keyword) (bytes_eq-Decides word keyword).0 (passed_over keyword (word ∷ words)) refl

abbrev pub branch_word : Branch → List ℕ
branch_word branches.Accept = codes "accept"
branch_word branches.Delay = codes "delay"
branch_word branches.Terminate = codes "terminate"

kind_reads : (word : List ℕ) (branch : Branch) → kind_of word ≡ Ok branch → word ≡ branch_word branch
unfolding kind_of
kind_reads word branch e =
    elim (chosen (bytes_eq word (codes "accept")) _ _ (done branch) e) [
      | inl a ↦ (bytes_eq-Decides word (codes "accept")).0 a.0 ∙ ap branch_word (ok_is branches.Accept branch a.1)
      | inr a ↦ elim (chosen (bytes_eq word (codes "delay")) _ _ (done branch) a.1) [
        | inl b ↦ (bytes_eq-Decides word (codes "delay")).0 b.0 ∙ ap branch_word (ok_is branches.Delay branch b.1)
        | inr b ↦ let c = if_ok (bytes_eq word (codes "terminate")) _ _ branch b.1 in
            (bytes_eq-Decides word (codes "terminate")).0 c.0 ∙ ap branch_word (ok_is branches.Terminate branch c.1)
      ]
    ]

guarded : (closed : Bool) (words rest : List (List ℕ)) → words ≡ cond closed (codes "closed" ∷ rest) rest → words ≡ guard_words (not closed) ++ rest
guarded true words rest e = e
guarded false words rest e = e

abbrev BranchRead : List (List ℕ) → (Bool × Branch) × List (List ℕ) → Type 0
BranchRead words x = words ≡ guard_words x.0.0 ++ (branch_word x.0.1 ∷ x.1)

branch_reads : (words : List (List ℕ)) (x : (Bool × Branch) × List (List ℕ)) → branch_at words ≡ Ok x → BranchRead words x
unfolding branch_at
branch_reads words x e =
    let over = passed_over (codes "closed") words in
    let a = bind_ok (word_at over.1) _ x e in
    let b = bind_ok (kind_of a.0.0) _ x a.2 in
    let word : over.1 ≡ branch_word b.0 ∷ a.0.1 = word_reads over.1 a.0 a.1 ∙ ap (λ (w : List ℕ). w ∷ a.0.1) (kind_reads a.0.0 b.0 b.1) in
    subst (BranchRead words) (ok_is ((not over.0, b.0), a.0.1) x b.2)
    (guarded over.0 words over.1 (passed_reads (codes "closed") words) ∙ ap (λ (r : List (List ℕ)). guard_words (not over.0) ++ r) word)

-- ---- delay alternatives

abbrev PauseRead : Bool → List (List ℕ) → Pause × List (List ℕ) → Type 0
PauseRead guard words x = (guard_words guard ++ (codes "delay" ∷ words) ≡ pause_words x.0 ++ x.1) × IsMoment x.0.duration

pause_reads : (guard : Bool) (words : List (List ℕ)) (x : Pause × List (List ℕ)) → pause_at guard words ≡ Ok x → PauseRead guard words x
unfolding pause_at
pause_reads guard words x e =
    let a = bind_ok (moment_at words) _ x e in
    let moment = moment_reads words a.0 a.1 in
    subst (PauseRead guard words) (ok_is (record { guard = guard; duration = a.0.0 }, a.0.1) x a.2) (
      ap (λ (r : List (List ℕ)). guard_words guard ++ (codes "delay" ∷ r)) moment.0
          ∙ sym (append_assoc (guard_words guard) (codes "delay" ∷ signed_decimal a.0.0 ∷ []) a.0.1),
      moment.1,
    )

abbrev pub or_pause : Pause → List (List ℕ)
or_pause pause = codes "or" ∷ pause_words pause

next_pause_by : (words behind rest : List (List ℕ)) (guard : Bool) (branch : Branch) (x : Pause × List (List ℕ)) → words ≡ codes "or" ∷ behind
    → behind ≡ guard_words guard ++ (branch_word branch ∷ rest)
    → pause_from branch guard rest ≡ Ok x → (words ≡ or_pause x.0 ++ x.1) × IsMoment x.0.duration
next_pause_by words behind rest guard branches.Accept x w b e = absurd cc
next_pause_by words behind rest guard branches.Delay x w b e =
    let p = pause_reads guard rest x e in (w ∙ ap (λ (r : List (List ℕ)). codes "or" ∷ r) (b ∙ p.0), p.1)
next_pause_by words behind rest guard branches.Terminate x w b e = absurd cc

next_pause_reads : (words : List (List ℕ)) (x : Pause × List (List ℕ)) → next_pause_at words ≡ Ok x → (words ≡ or_pause x.0 ++ x.1) × IsMoment x.0.duration
unfolding next_pause_at
next_pause_reads words x e =
    let a = bind_ok (keyword_at (codes "or") words) _ x e in
    let b = bind_ok (branch_at a.0.1) _ x a.2 in
    next_pause_by words a.0.1 b.0.1 b.0.0.0 b.0.0.1 x (keyword_reads (codes "or") words a.0 a.1) (branch_reads a.0.1 b.0 b.1) b.2

pub joined_pauses : (first : Pause) (more : List Pause) → joined_by_or (map pause_words (first ∷ more)) ≡ pause_words first ++ flat_map or_pause more
joined_pauses first [] = sym (append-nil (pause_words first))
joined_pauses first (second ∷ more) =
    ap (λ (r : List (List ℕ)). pause_words first ++ (codes "or" ∷ r)) (joined_pauses second more)
    ∙ ap (λ (r : List (List ℕ)). pause_words first ++ r) (sym (flat_map-cons or_pause second more))

moments_of_chain : (before more : List Pause) → Chain (λ _ pause. IsMoment pause.duration) before more → AllByRecursion (λ pause. IsMoment pause.duration) more
moments_of_chain before [] chain = tt
moments_of_chain before (p ∷ more) chain = (chain.0, moments_of_chain (before ++ p ∷ []) more chain.1)

abbrev PausesRead : Bool → List (List ℕ) → List Pause × List (List ℕ) → Type 0
PausesRead guard words x = (guard_words guard ++ (codes "delay" ∷ words) ≡ joined_by_or (map pause_words x.0)) × (x.1 ≡ []) × IsTail (tails.Delays x.0)

pauses_read : (guard : Bool) (words : List (List ℕ)) (x : List Pause × List (List ℕ)) → pauses_at guard words ≡ Ok x → PausesRead guard words x
unfolding pauses_at
pauses_read guard words x e =
    let a = bind_ok (pause_at guard words) _ x e in
    let first = pause_reads guard words a.0 a.1 in
    let r = repeat_reads (λ before rest. next_pause_at rest) or_pause (λ before pause. IsMoment pause.duration)
    (λ before rest y found. next_pause_reads rest y found) 7 (a.0.0 ∷ []) a.0.1 x a.2 in
    let all : x.0 ≡ a.0.0 ∷ r.more = r.all in (
      first.0 ∙ ap (λ (w : List (List ℕ)). pause_words a.0.0 ++ w) r.words_are ∙ sym (joined_pauses a.0.0 r.more)
          ∙ ap (λ (ps : List Pause). joined_by_or (map pause_words ps)) (sym all),
      r.over,
      rw all (omega arith, omega (arith, r.fits), (first.1, moments_of_chain (a.0.0 ∷ []) r.more r.chain)),
    )

-- ---- what ends the wait

-- a tail behind the guard and the word of its first alternative
abbrev TailRead : Branch → Bool → List (List ℕ) → Tail × List (List ℕ) → Type 0
TailRead branch guard words x =
    (guard_words guard ++ (branch_word branch ∷ words) ≡ select_words [] x.0 ++ x.1) × (0 < length (tail_alternatives x.0)) × IsTail x.0

length-map-pauses : (pauses : List Pause) → length (map pause_words pauses) ≡ length pauses
length-map-pauses [] = refl
length-map-pauses (p ∷ ps) = ap suc (length-map-pauses ps)

tail_reads : (branch : Branch) (guard : Bool) (words : List (List ℕ)) (x : Tail × List (List ℕ)) → tail_from branch guard words ≡ Ok x
    → TailRead branch guard words x
unfolding tail_from
tail_reads branches.Accept guard words x e = absurd cc
tail_reads branches.Delay guard words x e =
    let a = bind_ok (pauses_at guard words) _ x e in
    let p = pauses_read guard words a.0 a.1 in
    let joined = joined_by_or (map pause_words a.0.0) in
    subst (TailRead branches.Delay guard words) (ok_is (tails.Delays a.0.0, a.0.1) x a.2) (
      p.0 ∙ sym (append-nil joined) ∙ sym (append-nil (joined ++ []))
          ∙ ap (λ (r : List (List ℕ)). (joined ++ []) ++ r) (sym p.1),
      omega (arith, p.2.0, length-map-pauses a.0.0),
      p.2,
    )
tail_reads branches.Terminate guard words x e =
    subst (TailRead branches.Terminate guard words) (ok_is (tails.Terminate guard, words) x e) (
      sym (append_assoc (guard_words guard) (codes "terminate" ∷ []) words)
          ∙ ap (λ (r : List (List ℕ)). r ++ words) (sym (append-nil (guard_words guard ++ codes "terminate" ∷ []))),
      omega arith,
      tt,
    )

-- what follows an accept alternative
abbrev LinkRead : List (List ℕ) → Option Tail × List (List ℕ) → Type 0
LinkRead words (None, rest) = words ≡ codes "or" ∷ rest
LinkRead words (Some tail, rest) = (words ≡ else_words tail ++ rest) × (tail_alternatives tail ≡ []) × IsTail tail

link_reads : (words : List (List ℕ)) (x : Option Tail × List (List ℕ)) → link_at words ≡ Ok x → LinkRead words x
unfolding link_at tail_of
link_reads [] x e = subst (LinkRead []) (ok_is (Some tails.Nothing, []) x e) (refl, refl, tt)
link_reads (word ∷ words) x e =
    let a = bind_ok (tail_of word) _ x e in
    elim (chosen (bytes_eq word (codes "or")) _ _ (done a.0) a.1) [
      | inl b ↦ subst (LinkRead (word ∷ words)) (ap (λ (o : Option Tail). (o, words)) (ok_is None a.0 b.1) ∙ ok_is (a.0, words) x a.2)
          (ap (λ (w : List ℕ). w ∷ words) ((bytes_eq-Decides word (codes "or")).0 b.0))
      | inr b ↦ let c = if_ok (bytes_eq word (codes "else")) _ _ a.0 b.1 in
          subst (LinkRead (word ∷ words)) (ap (λ (o : Option Tail). (o, words)) (ok_is (Some tails.Otherwise) a.0 c.1) ∙ ok_is (a.0, words) x a.2)
          (ap (λ (w : List ℕ). w ∷ words) ((bytes_eq-Decides word (codes "else")).0 c.0), refl, tt)
    ]

-- ---- accept alternatives

pub joined_cons : (first : List (List ℕ)) (others : List (List (List ℕ))) → 0 < length others
    → joined_by_or (first ∷ others) ≡ first ++ (codes "or" ∷ joined_by_or others)
joined_cons first [] some = absurd (omega arith)
joined_cons first (second ∷ others) some = refl

accepted : (branch : Branch) → is_accept branch ≡ true → branch ≡ branches.Accept
accepted branches.Accept e = refl
accepted branches.Delay e = absurd cc
accepted branches.Terminate e = absurd cc

module _ (names : Scope) (by : List ℕ) where
  abbrev ChoiceRead : Bool → List (List ℕ) → (Alternative × Option Tail) × List (List ℕ) → Type 0
  ChoiceRead guard words x = (behind : List (List ℕ)) × (guard_words guard ++ (codes "accept" ∷ words) ≡ choice_words x.0.0 ++ behind)
      × LinkRead behind (x.0.1, x.1) × IsEntryName names by x.0.0.entry

  choice_reads : (guard : Bool) (words : List (List ℕ)) (x : (Alternative × Option Tail) × List (List ℕ)) → choice_at names by guard words ≡ Ok x
      → ChoiceRead guard words x
  unfolding choice_at
  choice_reads guard words x e =
      let a = bind_ok (entry_name_at names by words) _ x e in
      let b = bind_ok (link_at a.0.1) _ x a.2 in
      let entry = entry_reads names by words a.0 a.1 in
      subst (ChoiceRead guard words) (ok_is ((record { guard = guard; entry = a.0.0 }, b.0.0), b.0.1) x b.2) (
        a.0.1,
        ap (λ (r : List (List ℕ)). guard_words guard ++ (codes "accept" ∷ r)) entry.0
            ∙ sym (append_assoc (guard_words guard) (codes "accept" ∷ entry_words a.0.0) a.0.1),
        link_reads a.0.1 b.0 b.1,
        entry.1,
      )

  pub record ChoicesRead (room : ℕ) (before : List Alternative) (words : List (List ℕ)) (x : (List Alternative × Tail) × List (List ℕ)) : Type 0 where
    pub more : List Alternative
    pub all : x.0.0 ≡ before ++ more
    pub words_are : words ≡ select_words more x.0.1 ++ x.1
    pub some : 0 < length (map choice_words more ++ tail_alternatives x.0.1)
    pub each : AllByRecursion (λ choice. IsEntryName names by choice.entry) more
    pub fits : length more ≤ room
    pub tail : IsTail x.0.1

  -- no accept alternative follows
  choices_over : (room : ℕ) (before : List Alternative) (words : List (List ℕ)) (guard : Bool) (branch : Branch) (rest : List (List ℕ))
      (x : (List Alternative × Tail) × List (List ℕ))
      → words ≡ guard_words guard ++ (branch_word branch ∷ rest) → with_tail before (tail_from branch guard rest) ≡ Ok x → ChoicesRead room before words x
  choices_over room before words guard branch rest x w e =
      let a = bind_ok (tail_from branch guard rest) _ x e in
      let t = tail_reads branch guard rest a.0 a.1 in
      subst (ChoicesRead room before words) (ok_is ((before, a.0.0), a.0.1) x a.2)
      (record { more = []; all = sym (append-nil before); words_are = w ∙ t.0; some = t.1; each = tt; fits = omega arith; tail = t.2 })

  -- the wait ends behind an accept alternative
  choices_last : (room : ℕ) (before : List Alternative) (words behind : List (List ℕ)) (choice : Alternative) (tail : Tail) (rest : List (List ℕ))
      → words ≡ choice_words choice ++ behind
      → LinkRead behind (Some tail, rest) → IsEntryName names by choice.entry → ChoicesRead (suc room) before words ((before ++ choice ∷ [], tail), rest)
  choices_last room before words behind choice tail rest w link entry =
      let alone : map choice_words (choice ∷ []) ++ tail_alternatives tail ≡ choice_words choice
      ∷ [] = ap (λ (r : List (List (List ℕ))). choice_words choice ∷ r) link.1 in
      let joined : joined_by_or (map choice_words (choice ∷ []) ++ tail_alternatives tail) ≡ choice_words choice = ap joined_by_or alone in
      record {
        more = choice ∷ [];
        all = refl;
        words_are = w ∙ ap (λ (r : List (List ℕ)). choice_words choice ++ r) link.0 ∙ sym (append_assoc (choice_words choice) (else_words tail) rest)
            ∙ ap (λ (r : List (List ℕ)). (r ++ else_words tail) ++ rest) (sym joined);
        some = omega (arith, ap length alone);
        each = (entry, tt);
        fits = omega arith;
        tail = link.2;
      }

  -- another alternative follows
  choices_first : (room : ℕ) (before : List Alternative) (words behind : List (List ℕ)) (choice : Alternative) (rest : List (List ℕ))
      (x : (List Alternative × Tail) × List (List ℕ)) → words ≡ choice_words choice ++ behind
      → LinkRead behind (None, rest) → IsEntryName names by choice.entry → ChoicesRead room (before ++ choice ∷ []) rest x
      → ChoicesRead (suc room) before words x
  choices_first room before words behind choice rest x w link entry others =
      let joined = joined_by_or (map choice_words others.more ++ tail_alternatives x.0.1) in
      let whole : joined_by_or (map choice_words (choice ∷ others.more) ++ tail_alternatives x.0.1) ≡ choice_words choice
      ++ (codes "or" ∷ joined) = joined_cons (choice_words choice) (map choice_words others.more ++ tail_alternatives x.0.1) others.some in
      record {
        more = choice ∷ others.more;
        all = others.all ∙ append_assoc before (choice ∷ []) others.more;
        words_are = w ∙ ap (λ (r : List (List ℕ)). choice_words choice ++ r) (link ∙ ap (λ (r : List (List ℕ)). codes "or" ∷ r) others.words_are)
            ∙ sym (append_assoc (choice_words choice) (codes "or" ∷ (joined ++ else_words x.0.1)) x.1)
            ∙ ap (λ (r : List (List ℕ)). r ++ x.1) (sym (append_assoc (choice_words choice) (codes "or" ∷ joined) (else_words x.0.1))
            ∙ ap (λ (r : List (List ℕ)). r ++ else_words x.0.1) (sym whole));
        some = omega arith;
        each = (entry, others.each);
        fits = omega (arith, others.fits);
        tail = others.tail;
      }

  choices_next : (room : ℕ) (before : List Alternative) (words behind : List (List ℕ)) (choice : Alternative) (end : Option Tail) (rest : List (List ℕ))
      (x : (List Alternative × Tail) × List (List ℕ)) → words ≡ choice_words choice ++ behind
      → LinkRead behind (end, rest) → IsEntryName names by choice.entry
      → ((y : (List Alternative × Tail) × List (List ℕ)) → choices_at names by room (before ++ choice ∷ []) rest ≡ Ok y
      → ChoicesRead room (before ++ choice ∷ []) rest y)
      → ended_by end (before ++ choice ∷ []) rest (choices_at names by room (before ++ choice ∷ []) rest) ≡ Ok x → ChoicesRead (suc room) before words x
  choices_next room before words behind choice None rest x w link entry others e = choices_first room before words behind choice rest x w link entry
      (others x e)
  choices_next room before words behind choice (Some tail) rest x w link entry others e =
      subst (ChoicesRead (suc room) before words) (ok_is ((before ++ choice ∷ [], tail), rest) x e)
      (choices_last room before words behind choice tail rest w link entry)

  choices_read : (room : ℕ) (before : List Alternative) (words : List (List ℕ)) (x : (List Alternative × Tail) × List (List ℕ))
      → choices_at names by room before words ≡ Ok x → ChoicesRead room before words x
  unfolding choices_at
  choices_read zero before words x e =
      let a = bind_ok (branch_at words) _ x e in
      choices_over zero before words a.0.0.0 a.0.0.1 a.0.1 x (branch_reads words a.0 a.1) a.2
  choices_read (suc room) before words x e =
      let a = bind_ok (branch_at words) _ x e in
      let w = branch_reads words a.0 a.1 in
      elim (chosen (is_accept a.0.0.1) _ _ (done x) a.2) [
        | inl accept ↦
            let b = bind_ok (choice_at names by a.0.0.0 a.0.1) _ x accept.1 in
            let c = choice_reads a.0.0.0 a.0.1 b.0 b.1 in
            let here : words ≡ choice_words b.0.0.0 ++ c.0 = w
            ∙ ap (λ (k : Branch). guard_words a.0.0.0 ++ (branch_word k ∷ a.0.1)) (accepted a.0.0.1 accept.0) ∙ c.1 in
            choices_next room before words c.0 b.0.0.0 b.0.0.1 b.0.1 x here c.2 c.3 (λ y f. choices_read room (before ++ b.0.0.0 ∷ []) b.0.1 y f) b.2
        | inr other ↦ choices_over (suc room) before words a.0.0.0 a.0.0.1 a.0.1 x w other.1
      ]

  abbrev pub SelectRead : List (List ℕ) → (List Alternative × Tail) × List (List ℕ) → Type 0
  SelectRead words x = (words ≡ select_words x.0.0 x.0.1 ++ x.1) × AreChoices names by x.0.0 × IsTail x.0.1

  pub select_reads : (words : List (List ℕ)) (x : (List Alternative × Tail) × List (List ℕ)) → alternatives_at names by words ≡ Ok x → SelectRead words x
  unfolding alternatives_at
  select_reads words x e =
      let passed = passed_over (codes "else") words in
      let p : words ≡ cond passed.0 (codes "else" ∷ passed.1) passed.1 = passed_reads (codes "else") words in
      elim (chosen (is_over words) _ _ (done x) e) [
        | inl over ↦ subst (SelectRead words) (ok_is (([], tails.Nothing), words) x over.1) (refl, (omega arith, tt), tt)
        | inr some ↦
            elim (chosen passed.0 _ _ (done x) some.1) [
              | inl found ↦ subst (SelectRead words) (ok_is (([], tails.Otherwise), passed.1) x found.1)
                  (p ∙ ap (λ (t : Bool). cond t (codes "else" ∷ passed.1) passed.1) found.0, (omega arith, tt), tt)
              | inr absent ↦
                  let r = choices_read 16 [] passed.1 x absent.1 in
                  let all : x.0.0 ≡ r.more = r.all in (
                    p ∙ ap (λ (t : Bool). cond t (codes "else" ∷ passed.1) passed.1) absent.0 ∙ r.words_are
                        ∙ ap (λ (cs : List Alternative). select_words cs x.0.1 ++ x.1) (sym all),
                    rw all (r.fits, r.each),
                    r.tail,
                  )
            ]
      ]
