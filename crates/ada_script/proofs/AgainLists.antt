-- What is spelled to the end of a line is read again.
use Rattle.std.proofs.Common.{◌≡◌, ℕ, zero, suc, ◌≤◌, false, List, [], ◌∷◌, ◌++◌, length, map, Ok, refl, sym, ap, ◌∙◌, arith, append_assoc}
use Rattle.std.specs.List.{flat_map, AllByRecursion}
use Rattle.std.proofs.lemmas.List.{append-nil}
use Rattle.std.proofs.lemmas.List.Concat.{flat_map-cons}
use Rattle.ada_statements.specs.declared.statement.Declaration.{Declaration}
use Rattle.ada_script.specs.Spelling.{family_words, bounds_words}
use Rattle.ada_statements.specs.Scope.{Scope, IsTaskName, AreTaskNames, IsFamily, AreFamilies, AreApart}
use Rattle.ada_script.specs.Cursor.{is_over}
use Rattle.ada_script.specs.internal.Reading.{Read, repeat_at, task_name_at, tasks_at, family_at, families_at, number_is_next}
use Rattle.ada_script.proofs.AgainParts.{task_again, name_again, bounds_again, name_begins}
use Rattle.ada_script.proofs.TakenLists.{Chain, flat_map-single, list_any-names, map-push, IsNextFamily}

-- some words that aren't over and don't begin with a number, or none
abbrev pub Starts : List (List ℕ) → Type 0
Starts words = (is_over words ≡ false) × (number_is_next words ≡ false)

module _ {X : Type 0} (step : List X → List (List ℕ) → Read X) (spelled : X → List (List ℕ)) (P : List X → X → Type 0)
    (starts : (before : List X) (x : X) (rest : List (List ℕ)) → P before x → Starts (spelled x ++ rest))
    (again : (before : List X) (x : X) (rest : List (List ℕ)) → P before x → number_is_next rest ≡ false → step before (spelled x ++ rest) ≡ Ok (x, rest)) where
  repeat_on : (room : ℕ) (before : List X) (words : List (List ℕ)) (x : X) (rest : List (List ℕ)) → is_over words ≡ false → step before words ≡ Ok (x, rest)
      → repeat_at step (suc room) before words ≡ repeat_at step room (before ++ x ∷ []) rest
  unfolding repeat_at
  repeat_on room before [] x rest some reads = absurd cc
  repeat_on room before (word ∷ words) x rest some reads = rw reads refl

  no_number : (before more : List X) → Chain P before more → number_is_next (flat_map spelled more) ≡ false
  no_number before [] chain = refl
  no_number before (x ∷ more) chain = rw (flat_map-cons spelled x more) (starts before x (flat_map spelled more) chain.0).1

  pub repeat_again : (room : ℕ) (before more : List X) → Chain P before more → length more ≤ room
      → repeat_at step room before (flat_map spelled more) ≡ Ok (before ++ more, [])
  unfolding repeat_at
  repeat_again room before [] chain fits = ap (λ (xs : List X). Ok (xs, [])) (sym (append-nil before))
  repeat_again zero before (x ∷ more) chain fits = absurd (omega arith)
  repeat_again (suc room) before (x ∷ more) chain fits =
      let words = spelled x ++ flat_map spelled more in
      let first : step before words ≡ Ok (x, flat_map spelled more) = again before x (flat_map spelled more) chain.0
      (no_number (before ++ x ∷ []) more chain.1) in
      ap (repeat_at step (suc room) before) (flat_map-cons spelled x more)
      ∙ repeat_on room before words x (flat_map spelled more) (starts before x (flat_map spelled more) chain.0).0 first
      ∙ repeat_again room (before ++ x ∷ []) more chain.1 (omega arith)
      ∙ ap (λ (xs : List X). Ok (xs, [])) (append_assoc before (x ∷ []) more)

-- ---- tasks

pub chain_of_each : {X : Type 0} (Q : X → Type 0) (before more : List X) → AllByRecursion Q more → Chain (λ _. Q) before more
chain_of_each Q before [] each = tt
chain_of_each Q before (x ∷ more) each = (each.0, chain_of_each Q (before ++ x ∷ []) more each.1)

pub tasks_again : (names : Scope) (tasks : List (List ℕ)) → AreTaskNames names tasks → tasks_at names tasks ≡ Ok (tasks, [])
tasks_again names tasks known =
    ap (tasks_at names) (sym (flat_map-single tasks))
    ∙ repeat_again (λ before rest. task_name_at names rest) (λ task. task ∷ []) (λ before task. IsTaskName names task)
    (λ before task rest p. (refl, name_begins task p.0)) (λ before task rest p next. task_again names task rest p) 256 [] tasks
    (chain_of_each (IsTaskName names) [] tasks known.1) known.0

-- ---- families

family_again : (before : List Declaration) (family : Declaration) (rest : List (List ℕ)) → IsNextFamily before family → number_is_next rest ≡ false
    → family_at before (family_words family ++ rest) ≡ Ok (family, rest)
unfolding family_at
family_again before family rest known next =
    rw (name_again family.name (bounds_words family.bounds ++ rest) known.0.0, known.1, bounds_again family.bounds rest known.0.1 next) refl

chain_of_families : (before more : List Declaration) → AllByRecursion IsFamily more → AreApart (map (λ f. f.name) before) more → Chain IsNextFamily before more
chain_of_families before [] each apart = tt
chain_of_families before (f ∷ more) each apart =
    ((each.0, sym (list_any-names f.name before) ∙ apart.0), chain_of_families (before ++ f ∷ []) more each.1 (rw (map-push before f) apart.1))

pub families_again : (families : List Declaration) → AreFamilies families → families_at (flat_map family_words families) ≡ Ok (families, [])
families_again families known =
    repeat_again family_at family_words IsNextFamily (λ before family rest p. (refl, name_begins family.name p.0.0)) family_again 16 [] families
    (chain_of_families [] families known.1 known.2) known.0
