-- What is read is spelled so, and has its form.
use Rattle.std.proofs.Common.{◌≡◌, ℕ, ◌^◌, ◌<◌, Bool, true, false, cond, ltb, List, [], ◌∷◌, ◌++◌, Option, Some, None, Result, Ok, Err, ℤ, refl, ap, subst, ◌∙◌}
use Rattle.std.proofs.Common.{inl, inr, ◌⊎◌}
use Rattle.std.specs.Prelude.{IsTrue, IfSome, decimal}
use Rattle.std.specs.Fmt.{signed_decimal}
use Rattle.std.specs.Str.{bytes_eq}
use Rattle.std.proofs.lemmas.Slice.Eq.{bytes_eq-Decides}
use Rattle.std.proofs.lemmas.Bool.{ltb-true}
use Rattle.ada_events.specs.declared.names.Family.{Family}
use Rattle.ada_script.specs.declared.fault.Fault.{Fault}
use Rattle.ada_statements.specs.declared.statement.EntryName.{EntryName}
use Rattle.ada_statements.specs.Text.{is_name}
use Rattle.ada_script.specs.internal.Number.{natural_of, integer_of}
use Rattle.ada_script.specs.Spelling.{index_words, entry_words, bounds_words}
use Rattle.ada_statements.specs.Scope.{Scope, is_task, is_declared, has_entry, IsTaskName, IsMasterName, IsNewName, IsEntryName, IsIndex, IsMoment}
use Rattle.ada_script.specs.internal.Reading.{◌>>=◌, word_at, keyword_at, number_from, moment_at, index_at}
use Rattle.ada_script.specs.internal.Reading.{below_2_32, pick_at, optional_index_at, number_is_next}
use Rattle.ada_script.specs.internal.Reading.{bounds_at, name_at, task_name_at, master_at, new_name_at, entry_name_at}
use Rattle.ada_script.proofs.Numbers.{integer_of-reads, natural_of-reads, FitsSigned-32, FitsSigned-64}

-- the value of a step that did not fail
pub bind_ok : {A B : Type 0} (r : Result A Fault) (f : A → Result B Fault) (y : B) → (r >>= f) ≡ Ok y → (x : A) × (r ≡ Ok x) × (f x ≡ Ok y)
bind_ok (Ok x) f y e = (x, refl, e)
bind_ok (Err d) f y e = absurd cc

-- a test that passed
pub if_ok : {A : Type 0} (b : Bool) (r : Result A Fault) (d : Fault) (y : A) → cond b r (Err d) ≡ Ok y → (b ≡ true) × (r ≡ Ok y)
if_ok true r d y e = (refl, e)
if_ok false r d y e = absurd cc

-- a test that failed, as it had to
pub unless_ok : {A : Type 0} (b : Bool) (r : Result A Fault) (d : Fault) (y : A) → cond b (Err d) r ≡ Ok y → (b ≡ false) × (r ≡ Ok y)
unless_ok true r d y e = absurd cc
unless_ok false r d y e = (refl, e)

-- which way a test went
pub chosen : {A : Type 0} (b : Bool) (r s : A) (y : A) → cond b r s ≡ y → ((b ≡ true) × (r ≡ y)) ⊎ ((b ≡ false) × (s ≡ y))
chosen true r s y e = inl (refl, e)
chosen false r s y e = inr (refl, e)

abbrev pub done : {A : Type 0} → A → Result A Fault
done x = Ok x

pub ok_is : {A : Type 0} (x y : A) → done x ≡ done y → x ≡ y
ok_is x y e = cc

-- ---- words and names

pub word_reads : (words : List (List ℕ)) (x : List ℕ × List (List ℕ)) → word_at words ≡ Ok x → words ≡ x.0 ∷ x.1
word_reads [] x e = absurd cc
word_reads (word ∷ rest) x e = ap (λ (p : List ℕ × List (List ℕ)). p.0 ∷ p.1) (ok_is (word, rest) x e)

pub keyword_reads : (keyword : List ℕ) (words : List (List ℕ)) (x : Unit {0} × List (List ℕ)) → keyword_at keyword words ≡ Ok x → words ≡ keyword ∷ x.1
unfolding keyword_at
keyword_reads keyword words x e =
    let a = bind_ok (word_at words) _ x e in
    let b = if_ok (bytes_eq a.0.0 keyword) _ _ x a.2 in
    let same : a.0.0 ≡ keyword = (bytes_eq-Decides a.0.0 keyword).0 b.0 in
    let rest : a.0.1 ≡ x.1 = ap (λ (p : Unit {0} × List (List ℕ)). p.1) (ok_is (tt, a.0.1) x b.1) in
    let whole : words ≡ a.0.0 ∷ a.0.1 = word_reads words a.0 a.1 in
    cc

abbrev pub NameRead : List (List ℕ) → List ℕ × List (List ℕ) → Type 0
NameRead words x = (words ≡ x.0 ∷ x.1) × IsTrue (is_name x.0)

pub name_reads : (words : List (List ℕ)) (x : List ℕ × List (List ℕ)) → name_at words ≡ Ok x → NameRead words x
unfolding name_at
name_reads words x e =
    let a = bind_ok (word_at words) _ x e in
    let b = if_ok (is_name a.0.0) _ _ x a.2 in
    subst (NameRead words) (ok_is a.0 x b.1) (word_reads words a.0 a.1, b.0)

module _ (names : Scope) where
  abbrev pub TaskRead : List (List ℕ) → List ℕ × List (List ℕ) → Type 0
  TaskRead words x = (words ≡ x.0 ∷ x.1) × IsTaskName names x.0

  pub task_reads : (words : List (List ℕ)) (x : List ℕ × List (List ℕ)) → task_name_at names words ≡ Ok x → TaskRead words x
  unfolding task_name_at
  task_reads words x e =
      let a = bind_ok (name_at words) _ x e in
      let b = if_ok (is_task names a.0.0) _ _ x a.2 in
      let name = name_reads words a.0 a.1 in
      subst (TaskRead words) (ok_is a.0 x b.1) (name.0, (name.1, b.0))

  abbrev pub MasterRead : List (List ℕ) → List ℕ × List (List ℕ) → Type 0
  MasterRead words x = (words ≡ x.0 ∷ x.1) × IsMasterName names x.0

  pub master_reads : (words : List (List ℕ)) (x : List ℕ × List (List ℕ)) → master_at names words ≡ Ok x → MasterRead words x
  unfolding master_at
  master_reads words x e =
      let a = bind_ok (name_at words) _ x e in
      let b = if_ok (is_declared names a.0.0) _ _ x a.2 in
      let name = name_reads words a.0 a.1 in
      subst (MasterRead words) (ok_is a.0 x b.1) (name.0, (name.1, b.0))

  abbrev pub NewNameRead : List (List ℕ) → List ℕ × List (List ℕ) → Type 0
  NewNameRead words x = (words ≡ x.0 ∷ x.1) × IsNewName names x.0

  pub new_name_reads : (words : List (List ℕ)) (x : List ℕ × List (List ℕ)) → new_name_at names words ≡ Ok x → NewNameRead words x
  unfolding new_name_at
  new_name_reads words x e =
      let a = bind_ok (name_at words) _ x e in
      let b = unless_ok (is_declared names a.0.0) _ _ x a.2 in
      let name = name_reads words a.0 a.1 in
      subst (NewNameRead words) (ok_is a.0 x b.1) (name.0, (name.1, b.0))

-- ---- numbers

number_reads : {N : Type 0} (number : Option N) (words : List (List ℕ)) (x : N × List (List ℕ)) → number_from number words ≡ Ok x → (number ≡ Some x.0)
    × (words ≡ x.1)
number_reads None words x e = absurd cc
number_reads {N} (Some n) words x e =
    let same = ok_is (n, words) x e in
    (ap (λ (p : N × List (List ℕ)). Some p.0) same, ap (λ (p : N × List (List ℕ)). p.1) same)

pub moment_reads : (words : List (List ℕ)) (x : ℤ × List (List ℕ)) → moment_at words ≡ Ok x → (words ≡ signed_decimal x.0 ∷ x.1) × IsMoment x.0
unfolding moment_at
moment_reads words x e =
    let a = bind_ok (word_at words) _ x e in
    let b = number_reads (integer_of (2 ^ 63) a.0.0) a.0.1 x a.2 in
    let c = integer_of-reads (2 ^ 63) a.0.0 x.0 b.0 in
    (word_reads words a.0 a.1 ∙ rw (c.1, b.1) refl, FitsSigned-64 x.0 c.0)

pub index_reads : (words : List (List ℕ)) (x : ℤ × List (List ℕ)) → index_at words ≡ Ok x → (words ≡ signed_decimal x.0 ∷ x.1) × IsIndex x.0
unfolding index_at
index_reads words x e =
    let a = bind_ok (word_at words) _ x e in
    let b = number_reads (integer_of (2 ^ 31) a.0.0) a.0.1 x a.2 in
    let c = integer_of-reads (2 ^ 31) a.0.0 x.0 b.0 in
    (word_reads words a.0 a.1 ∙ rw (c.1, b.1) refl, FitsSigned-32 x.0 c.0)

below_reads : (word : List ℕ) (n : ℕ) → below_2_32 (natural_of word) ≡ Some n → (n < 2 ^ 32) × (decimal n ≡ word)
below_reads word n e = by (natural_of word) refl e
  where
    by : (found : Option ℕ) → natural_of word ≡ found → below_2_32 found ≡ Some n → (n < 2 ^ 32) × (decimal n ≡ word)
    by None p e = absurd cc
    by (Some m) p e = test (ltb m (2 ^ 32)) refl e
      where
        test : (b : Bool) → ltb m (2 ^ 32) ≡ b → cond b (Some m) None ≡ Some n → (n < 2 ^ 32) × (decimal n ≡ word)
        test false q e = absurd cc
        test true q e = let same : m ≡ n = cc in rw (← same) (ltb-true _ _ q, (natural_of-reads word m p).1)

pub pick_reads : (words : List (List ℕ)) (x : ℕ × List (List ℕ)) → pick_at words ≡ Ok x → (words ≡ decimal x.0 ∷ x.1) × (x.0 < 2 ^ 32)
unfolding pick_at
pick_reads words x e =
    let a = bind_ok (word_at words) _ x e in
    let b = number_reads (below_2_32 (natural_of a.0.0)) a.0.1 x a.2 in
    let c = below_reads a.0.0 x.0 b.0 in
    (word_reads words a.0 a.1 ∙ rw (c.1, b.1) refl, c.0)

abbrev pub IndexRead : List (List ℕ) → Option ℤ × List (List ℕ) → Type 0
IndexRead words x = (words ≡ index_words x.0 ++ x.1) × IfSome x.0 IsIndex

pub optional_index_reads : (words : List (List ℕ)) (x : Option ℤ × List (List ℕ)) → optional_index_at words ≡ Ok x → IndexRead words x
unfolding optional_index_at
optional_index_reads words x e =
    elim (chosen (number_is_next words) _ _ (done x) e) [
      | inl there ↦
          let a = bind_ok (index_at words) _ x there.1 in
          subst (IndexRead words) (ok_is (Some a.0.0, a.0.1) x a.2) (index_reads words a.0 a.1)
      | inr absent ↦ subst (IndexRead words) (ok_is (None, words) x absent.1) (refl, tt)
    ]

abbrev pub BoundsRead : List (List ℕ) → Option Family × List (List ℕ) → Type 0
BoundsRead words x = (words ≡ bounds_words x.0 ++ x.1) × IfSome x.0 (λ bounds. IsIndex bounds.low × IsIndex bounds.high)

pub bounds_reads : (words : List (List ℕ)) (x : Option Family × List (List ℕ)) → bounds_at words ≡ Ok x → BoundsRead words x
unfolding bounds_at
bounds_reads words x e =
    elim (chosen (number_is_next words) _ _ (done x) e) [
      | inl there ↦
          let a = bind_ok (index_at words) _ x there.1 in
          let b = bind_ok (index_at a.0.1) _ x a.2 in
          let low = index_reads words a.0 a.1 in
          let high = index_reads a.0.1 b.0 b.1 in
          subst (BoundsRead words) (ok_is (Some (record { low = a.0.0; high = b.0.0 }), b.0.1) x b.2)
          (low.0 ∙ ap (λ (r : List (List ℕ)). signed_decimal a.0.0 ∷ r) high.0, (low.1, high.1))
      | inr absent ↦ subst (BoundsRead words) (ok_is (None, words) x absent.1) (refl, tt)
    ]

-- ---- entries

abbrev pub EntryRead : Scope → List ℕ → List (List ℕ) → EntryName × List (List ℕ) → Type 0
EntryRead names task words x = (words ≡ entry_words x.0 ++ x.1) × IsEntryName names task x.0

pub entry_reads : (names : Scope) (task : List ℕ) (words : List (List ℕ)) (x : EntryName × List (List ℕ)) → entry_name_at names task words ≡ Ok x
    → EntryRead names task words x
unfolding entry_name_at
entry_reads names task words x e =
    let a = bind_ok (name_at words) _ x e in
    let b = if_ok (has_entry names task a.0.0) _ _ x a.2 in
    let d = bind_ok (optional_index_at a.0.1) _ x b.1 in
    let name = name_reads words a.0 a.1 in
    let index = optional_index_reads a.0.1 d.0 d.1 in
    subst (EntryRead names task words) (ok_is (record { family = a.0.0; index = d.0.0 }, d.0.1) x d.2)
    (name.0 ∙ ap (λ (r : List (List ℕ)). a.0.0 ∷ r) index.0, (name.1, b.0, index.1))
