-- What is read to the end of a line is spelled so, and has its form.
use Rattle.std.proofs.Common.{◌≡◌, ℕ, zero, suc, ◌≤◌, false, List, [], ◌∷◌, ◌++◌, length, Ok, refl, sym, ap, subst, ◌∙◌, arith, append_assoc}
use Rattle.std.specs.Prelude.{map}
use Rattle.std.specs.List.{flat_map, list_any, AllByRecursion}
use Rattle.std.specs.Str.{bytes_eq}
use Rattle.std.proofs.lemmas.List.{append-nil}
use Rattle.std.proofs.lemmas.List.Concat.{flat_map-cons}
use Rattle.ada_statements.specs.declared.statement.Declaration.{Declaration}
use Rattle.ada_script.specs.Spelling.{family_words}
use Rattle.ada_statements.specs.Scope.{Scope, IsTaskName, AreTaskNames, IsFamily, AreFamilies, AreApart}
use Rattle.ada_script.specs.internal.Reading.{Read, repeat_at, task_name_at, tasks_at, family_at, families_at, name_at, bounds_at}
use Rattle.ada_script.proofs.Taken.{bind_ok, unless_ok, ok_is, task_reads, name_reads, bounds_reads}

-- each of them stands behind those before it
abbrev pub Chain : {X : Type 0} → (List X → X → Type 0) → List X → List X → Type 0
Chain P before [] = Unit {0}
Chain P before (x ∷ more) = P before x × Chain P (before ++ x ∷ []) more

module _ {X : Type 0} (step : List X → List (List ℕ) → Read X) (spelled : X → List (List ℕ)) (P : List X → X → Type 0)
    (reads : (before : List X) (words : List (List ℕ)) (x : X × List (List ℕ)) → step before words ≡ Ok x → (words ≡ spelled x.0 ++ x.1) × P before x.0) where
  -- those that were read behind some, and nothing more
  pub record Repeats (room : ℕ) (before : List X) (words : List (List ℕ)) (x : List X × List (List ℕ)) : Type 0 where
    pub more : List X
    pub all : x.0 ≡ before ++ more
    pub words_are : words ≡ flat_map spelled more
    pub over : x.1 ≡ []
    pub chain : Chain P before more
    pub fits : length more ≤ room

  pub repeat_reads : (room : ℕ) (before : List X) (words : List (List ℕ)) (x : List X × List (List ℕ)) → repeat_at step room before words ≡ Ok x
      → Repeats room before words x
  unfolding repeat_at
  repeat_reads room before [] x e =
      subst (Repeats room before []) (ok_is (before, []) x e)
      (record { more = []; all = sym (append-nil before); words_are = refl; over = refl; chain = tt; fits = omega arith })
  repeat_reads zero before (word ∷ words) x e = absurd cc
  repeat_reads (suc room) before (word ∷ words) x e =
      let a = bind_ok (step before (word ∷ words)) _ x e in
      let first = reads before (word ∷ words) a.0 a.1 in
      let others = repeat_reads room (before ++ a.0.0 ∷ []) a.0.1 x a.2 in
      record {
        more = a.0.0 ∷ others.more;
        all = others.all ∙ append_assoc before (a.0.0 ∷ []) others.more;
        words_are = first.0 ∙ ap (λ (r : List (List ℕ)). spelled a.0.0 ++ r) others.words_are ∙ sym (flat_map-cons spelled a.0.0 others.more);
        over = others.over;
        chain = (first.1, others.chain);
        fits = omega (arith, others.fits);
      }

-- ---- tasks

pub flat_map-single : (xs : List (List ℕ)) → flat_map (λ x. x ∷ []) xs ≡ xs
flat_map-single [] = refl
flat_map-single (x ∷ xs) = flat_map-cons (λ (y : List ℕ). y ∷ []) x xs ∙ ap (λ (ys : List (List ℕ)). x ∷ ys) (flat_map-single xs)

each_of_chain : {X : Type 0} (Q : X → Type 0) (before more : List X) → Chain (λ _. Q) before more → AllByRecursion Q more
each_of_chain Q before [] chain = tt
each_of_chain Q before (x ∷ more) chain = (chain.0, each_of_chain Q (before ++ x ∷ []) more chain.1)

abbrev pub TasksRead : Scope → List (List ℕ) → List (List ℕ) × List (List ℕ) → Type 0
TasksRead names words x = (words ≡ x.0) × (x.1 ≡ []) × AreTaskNames names x.0

pub tasks_read : (names : Scope) (words : List (List ℕ)) (x : List (List ℕ) × List (List ℕ)) → tasks_at names words ≡ Ok x → TasksRead names words x
tasks_read names words x e =
    let r = repeat_reads (λ before rest. task_name_at names rest) (λ task. task ∷ []) (λ before task. IsTaskName names task)
    (λ before rest y found. task_reads names rest y found) 256 [] words x e in
    let all : x.0 ≡ r.more = r.all in
    (r.words_are ∙ flat_map-single r.more ∙ sym all, r.over, rw all (r.fits, each_of_chain (IsTaskName names) [] r.more r.chain))

-- ---- families

abbrev pub IsNextFamily : List Declaration → Declaration → Type 0
IsNextFamily before family = IsFamily family × (list_any (λ other. bytes_eq family.name other.name) before ≡ false)

abbrev FamilyRead : List Declaration → List (List ℕ) → Declaration × List (List ℕ) → Type 0
FamilyRead before words x = (words ≡ family_words x.0 ++ x.1) × IsNextFamily before x.0

family_reads : (before : List Declaration) (words : List (List ℕ)) (x : Declaration × List (List ℕ)) → family_at before words ≡ Ok x → FamilyRead before words x
unfolding family_at
family_reads before words x e =
    let a = bind_ok (name_at words) _ x e in
    let b = unless_ok (list_any (λ (other : Declaration). bytes_eq a.0.0 other.name) before) _ _ x a.2 in
    let d = bind_ok (bounds_at a.0.1) _ x b.1 in
    let name = name_reads words a.0 a.1 in
    let bounds = bounds_reads a.0.1 d.0 d.1 in
    subst (FamilyRead before words) (ok_is (record { name = a.0.0; bounds = d.0.0 }, d.0.1) x d.2)
    (name.0 ∙ ap (λ (r : List (List ℕ)). a.0.0 ∷ r) bounds.0, ((name.1, bounds.1), b.0))

pub list_any-names : (name : List ℕ) (families : List Declaration)
    → list_any (bytes_eq name) (map (λ f. f.name) families) ≡ list_any (λ other. bytes_eq name other.name) families
list_any-names name [] = refl
list_any-names name (f ∷ fs) = rw (list_any-names name fs) refl

pub map-push : (families : List Declaration) (family : Declaration)
    → map (λ f. f.name) (families ++ family ∷ []) ≡ map (λ f. f.name) families ++ family.name ∷ []
map-push [] family = refl
map-push (f ∷ fs) family = ap (λ (ns : List (List ℕ)). f.name ∷ ns) (map-push fs family)

families_of_chain : (before more : List Declaration) → Chain IsNextFamily before more → AllByRecursion IsFamily more × AreApart (map (λ f. f.name) before) more
families_of_chain before [] chain = (tt, tt)
families_of_chain before (f ∷ more) chain =
    let others = families_of_chain (before ++ f ∷ []) more chain.1 in
    ((chain.0.0, others.0), (list_any-names f.name before ∙ chain.0.1, rw (← map-push before f) others.1))

abbrev pub FamiliesRead : List (List ℕ) → List Declaration × List (List ℕ) → Type 0
FamiliesRead words x = (words ≡ flat_map family_words x.0) × (x.1 ≡ []) × AreFamilies x.0

pub families_read : (words : List (List ℕ)) (x : List Declaration × List (List ℕ)) → families_at words ≡ Ok x → FamiliesRead words x
families_read words x e =
    let r = repeat_reads family_at family_words IsNextFamily family_reads 16 [] words x e in
    let all : x.0 ≡ r.more = r.all in
    let each = families_of_chain [] r.more r.chain in
    (rw all r.words_are, r.over, rw all (r.fits, each.0, each.1))
