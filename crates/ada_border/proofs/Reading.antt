-- A list that is read item by item.
use Rattle.std.proofs.Common.{◌≡◌, ℕ, ◌+◌, ◌<◌, ◌≤◌, List, [], ◌∷◌, ◌++◌, Ok, Err}
use Rattle.std.proofs.Common.{refl, sym, ap, ◌∙◌, append-nil, append_assoc, length, drop, drop_of_length-le, get_or, length-append}
use Rattle.std.proofs.lemmas.List.{drop_more}
use Rattle.std.specs.Prelude.{Result}
use Rattle.ada_border.specs.declared.bad.Bad.{Bad}
use Rattle.ada_border.specs.Requests.{all_in, with_read}

-- what was read of a list's beginning, and then the rest
abbrev pub joined : {T : Type 0} → List T → Result (List T) Bad → Result (List T) Bad
joined before (Ok rest) = Ok (before ++ rest)
joined before (Err bad) = Err bad

joined-one : {T : Type 0} (before : List T) (one : T) (r : Result (List T) Bad)
    → joined before (with_read r (λ more. Ok (one ∷ more))) ≡ joined (before ++ one ∷ []) r
joined-one before one (Ok rest) = ap Ok (sym (append_assoc before (one ∷ []) rest))
joined-one before one (Err bad) = refl

-- an item whose reading is known, and then the rest
read-first : {P T : Type 0} (read : P → Result T Bad) (first : P) (others : List P) (one : T)
    → read first ≡ Ok one → all_in read (first ∷ others) ≡ with_read (all_in read others) (λ more. Ok (one ∷ more))
unfolding all_in
read-first read first others one is = ap (λ r. with_read r (λ o. with_read (all_in read others) (λ more. Ok (o ∷ more)))) is

-- one more item is read
pub reads_on : {P T : Type 0} (read : P → Result T Bad) (xs : List P) (i : ℕ) (d : P) (before : List T) (one : T)
    → i < length xs → all_in read xs ≡ joined before (all_in read (drop i xs)) → read (get_or xs i d) ≡ Ok one
    → all_in read xs ≡ joined (before ++ one ∷ []) (all_in read (drop (i + 1) xs))
reads_on read xs i d before one below so_far is =
    so_far ∙ ap (λ l. joined before (all_in read l)) (drop_more xs i d below)
    ∙ ap (joined before) (read-first read (get_or xs i d) (drop (i + 1) xs) one is)
    ∙ joined-one before one (all_in read (drop (i + 1) xs))

-- an item can't be read
pub stops_at : {P T : Type 0} (read : P → Result T Bad) (xs : List P) (i : ℕ) (d : P) (before : List T) (bad : Bad)
    → i < length xs → all_in read xs ≡ joined before (all_in read (drop i xs)) → read (get_or xs i d) ≡ Err bad
    → all_in read xs ≡ Err bad
unfolding all_in
stops_at read xs i d before bad below so_far is =
    so_far ∙ ap (λ l. joined before (all_in read l)) (drop_more xs i d below)
    ∙ ap (λ r. joined before (with_read r (λ o. with_read (all_in read (drop (i + 1) xs)) (λ more. Ok (o ∷ more))))) is

-- no item is left
pub all_read : {P T : Type 0} (read : P → Result T Bad) (xs : List P) (i : ℕ) (before : List T)
    → length xs ≤ i → all_in read xs ≡ joined before (all_in read (drop i xs)) → all_in read xs ≡ Ok before
unfolding all_in
all_read read xs i before over so_far =
    so_far ∙ ap (λ l. joined before (all_in read l)) (drop_of_length-le xs over) ∙ ap Ok (append-nil before)

-- one more item is read, in a loop over a list
pub grown : {P T : Type 0} (read : P → Result T Bad) (xs : List P) (i : ℕ) (d : P) (before after : List T) (one : T)
    → i < length xs → (all_in read xs ≡ joined before (all_in read (drop i xs))) × (length before ≡ i) → read (get_or xs i d) ≡ Ok one
    → after ≡ before ++ one ∷ []
    → (all_in read xs ≡ joined after (all_in read (drop (i + 1) xs))) × (length after ≡ i + 1)
grown read xs i d before after one below (so_far, long) is grows = (
  reads_on read xs i d before one below so_far is ∙ ap (λ l. joined l (all_in read (drop (i + 1) xs))) (sym grows),
  ap length grows ∙ length-append before (one ∷ []) ∙ ap (λ n. n + 1) long,
)
