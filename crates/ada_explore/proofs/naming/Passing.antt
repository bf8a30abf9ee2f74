-- Lists of which each passes a test.
use Rattle.std.proofs.Common.{◌≡◌, ℕ, suc, ◌<◌, ◌≤◌, Bool, true, false, not, ◌==◌, eqb, ◌||◌, cond, Some, List, [], ◌∷◌, length, filter, find}
use Rattle.std.proofs.Common.{refl, sym, ap, ◌∙◌, arith}
use Rattle.std.specs.List.{list_all, list_any}
use Rattle.std.proofs.lemmas.Bool.{and_parts, and_from, eq-eqb, false≢true}
use Rattle.std.proofs.lemmas.Option.{none-some, same_Some}
use Rattle.ada_explore.specs.Scripts.{without}

module _ {X : Type 0} where
  -- what each of a list passes, its first one does, and so do those behind
  pub first_passes : (test : X → Bool) (x : X) (xs : List X) → list_all test (x ∷ xs) ≡ true → test x ≡ true
  first_passes test x xs all = (and_parts (test x) (list_all test xs) all).0

  pub others_pass : (test : X → Bool) (x : X) (xs : List X) → list_all test (x ∷ xs) ≡ true → list_all test xs ≡ true
  others_pass test x xs all = (and_parts (test x) (list_all test xs) all).1

  -- what passes two tests passes a third one
  pub all_both : (a b c : X → Bool) (xs : List X) → ((x : X) → a x ≡ true → b x ≡ true → c x ≡ true) → list_all a xs ≡ true → list_all b xs ≡ true
      → list_all c xs ≡ true
  all_both a b c [] both first second = refl
  all_both a b c (x ∷ xs) both first second =
      and_from (c x) (list_all c xs) (both x (first_passes a x xs first) (first_passes b x xs second))
      (all_both a b c xs both (others_pass a x xs first) (others_pass b x xs second))

  -- what passes one test passes another one
  pub all_on : (a b : X → Bool) (xs : List X) → ((x : X) → a x ≡ true → b x ≡ true) → list_all a xs ≡ true → list_all b xs ≡ true
  all_on a b xs on all = all_both a a b xs (λ x passes _. on x passes) all all

  -- and so does each of those that are kept
  pub all_kept : (test keep : X → Bool) (xs : List X) → list_all test xs ≡ true → list_all test (filter keep xs) ≡ true
  all_kept test keep [] all = refl
  all_kept test keep (x ∷ xs) all = by (keep x) (first_passes test x xs all) (all_kept test keep xs (others_pass test x xs all))
    where
      by : (k : Bool) → test x ≡ true → list_all test (filter keep xs) ≡ true → list_all test (cond k (x ∷ filter keep xs) (filter keep xs)) ≡ true
      by true here later = and_from (test x) (list_all test (filter keep xs)) here later
      by false here later = later

  -- two tests that agree on each that passes a third one
  module _ (test other within : X → Bool) (agree : (x : X) → within x ≡ true → test x ≡ other x) where
    pub find_alike : (xs : List X) → list_all within xs ≡ true → find test xs ≡ find other xs
    find_alike [] all = refl
    find_alike (x ∷ xs) all =
        ap (λ b. cond b (Some x) (find test xs)) (agree x (first_passes within x xs all))
        ∙ ap (cond (other x) (Some x)) (find_alike xs (others_pass within x xs all))

    pub any_alike : (xs : List X) → list_all within xs ≡ true → list_any test xs ≡ list_any other xs
    any_alike [] all = refl
    any_alike (x ∷ xs) all =
        ap (λ b. b || list_any test xs) (agree x (first_passes within x xs all))
        ∙ ap (λ b. other x || b) (any_alike xs (others_pass within x xs all))

  -- what is found is one of those that pass
  pub found_within : (test within : X → Bool) (xs : List X) (x : X) → find test xs ≡ Some x → list_all within xs ≡ true → within x ≡ true
  found_within test within [] x found all = absurd (none-some x found)
  found_within test within (y ∷ ys) x found all =
      by (test y) (first_passes within y ys all) (λ later. found_within test within ys x later (others_pass within y ys all)) found
    where
      by : (b : Bool) → within y ≡ true → (find test ys ≡ Some x → within x ≡ true) → cond b (Some y) (find test ys) ≡ Some x → within x ≡ true
      by true here later is = ap within (sym (same_Some y x is)) ∙ here
      by false here later is = later is

  -- no more are kept than there are
  pub fewer_kept : (keep : X → Bool) (xs : List X) → length (filter keep xs) ≤ length xs
  fewer_kept keep [] = omega arith
  fewer_kept keep (x ∷ xs) = by (keep x) (fewer_kept keep xs)
    where
      by : (b : Bool) → length (filter keep xs) ≤ length xs → length (cond b (x ∷ filter keep xs) (filter keep xs)) ≤ suc (length xs)
      by true later = omega (arith, later)
      by false later = omega (arith, later)

-- without one that is found there are fewer
pub less_left : (test : ℕ → Bool) (ns : List ℕ) (n : ℕ) → find test ns ≡ Some n → length (without n ns) < length ns
less_left test [] n found = absurd (none-some n found)
less_left test (m ∷ ns) n found = by (test m) (less_left test ns n) found
  where
    here : (b : Bool) → b ≡ true → length (cond (not b) (m ∷ without n ns) (without n ns)) < suc (length ns)
    here true is = let fewer = fewer_kept (λ q. not (q == n)) ns in omega (arith, fewer)
    here false is = absurd (false≢true is)

    there : (b : Bool) → length (without n ns) < length ns → length (cond b (m ∷ without n ns) (without n ns)) < suc (length ns)
    there true later = omega (arith, later)
    there false later = omega (arith, later)

    by : (b : Bool) → (find test ns ≡ Some n → length (without n ns) < length ns) → cond b (Some m) (find test ns) ≡ Some n
        → length (without n (m ∷ ns)) < suc (length ns)
    by true later is = here (eqb m n) (eq-eqb m n (same_Some m n is))
    by false later is = there (not (eqb m n)) (later is)
