-- Each block stands once in a nest.
use Rattle.std.proofs.Common.{◌≡◌, ℕ, zero, suc, ◌+◌, ◌<◌, Bool, true, false, ◌||◌, List, [], ◌∷◌, ◌++◌, length, take, drop, get_or, refl, sym, ap, ◌∙◌}
use Rattle.std.proofs.Common.{arith, inl, inr}
use Rattle.std.proofs.Math.Seq.{take-suc}
use Rattle.std.proofs.lemmas.Bool.{cases_Bool, true≢false}
use Rattle.std.proofs.lemmas.List.Folds.{list_any-append, list_any_at}
use Rattle.std.specs.List.{list_any, remove}
use Rattle.ada_tables.specs.declared.layers.Layer.{Layer}
use Rattle.ada_tables.specs.declared.layers.Layer.TheVariants.{Block, Rendezvous}
use Rattle.ada_tables.specs.internal.Layers.{is_block_at, live_of, moved, moved_to, live_at, AreOnce}

both_false : (a b : Bool) → (a || b) ≡ false → (a ≡ false) × (b ≡ false)
both_false true b is = absurd (true≢false is)
both_false false b is = (refl, is)

none_of : (test : Layer → Bool) (xs ys : List Layer) → list_any test xs ≡ false → list_any test ys ≡ false → list_any test (xs ++ ys) ≡ false
none_of test xs ys one other = list_any-append test xs ys ∙ rw one other

none_taken : (test : Layer → Bool) (i : ℕ) (xs : List Layer) → list_any test xs ≡ false → list_any test (take i xs) ≡ false
none_taken test zero xs none = refl
none_taken test (suc i) [] none = refl
none_taken test (suc i) (x ∷ xs) none =
    let both = both_false (test x) (list_any test xs) none in
    rw both.0 (none_taken test i xs both.1)

none_dropped : (test : Layer → Bool) (i : ℕ) (xs : List Layer) → list_any test xs ≡ false → list_any test (drop i xs) ≡ false
none_dropped test zero xs none = none
none_dropped test (suc i) [] none = refl
none_dropped test (suc i) (x ∷ xs) none = none_dropped test i xs (both_false (test x) (list_any test xs) none).1

-- with one more member
pub once_pushed : (xs : List Layer) (new : Layer) → AreOnce xs
    → ((block : ℕ) → is_block_at block new ≡ true → list_any (is_block_at block) xs ≡ false) → AreOnce (xs ++ new ∷ [])
once_pushed [] new once fresh = (λ block is. refl, tt)
once_pushed (x ∷ xs) new once fresh = (
  λ block is.
      none_of (is_block_at block) xs (new ∷ []) (once.0 block is)
      (elim (cases_Bool (is_block_at block new)) [
        | inr other ↦ rw other refl
        | inl same ↦ absurd (true≢false (sym is ∙ (both_false (is_block_at block x) (list_any (is_block_at block) xs) (fresh block same)).0))
      ]),
  once_pushed xs new once.1 (λ block is. (both_false (is_block_at block x) (list_any (is_block_at block) xs) (fresh block is)).1),
)

-- without the last ones
pub once_taken : (i : ℕ) (xs : List Layer) → AreOnce xs → AreOnce (take i xs)
once_taken zero xs once = tt
once_taken (suc i) [] once = tt
once_taken (suc i) (x ∷ xs) once = (λ block is. none_taken (is_block_at block) i xs (once.0 block is), once_taken i xs once.1)

-- without one
pub once_removed : (i : ℕ) (xs : List Layer) → AreOnce xs → AreOnce (remove xs i)
once_removed zero [] once = tt
once_removed zero (x ∷ xs) once = once.1
once_removed (suc i) [] once = tt
once_removed (suc i) (x ∷ xs) once = (
  λ block is.
      none_of (is_block_at block) (take i xs) (drop (suc i) xs) (none_taken (is_block_at block) i xs (once.0 block is))
      (none_dropped (is_block_at block) (suc i) xs (once.0 block is)),
  once_removed i xs once.1,
)

same_block : (count : ℕ → ℕ) (block : ℕ) (layer : Layer) → is_block_at block (moved count layer) ≡ is_block_at block layer
same_block count block (Block live opening) = refl
same_block count block (Rendezvous call) = refl

any_moved : (count : ℕ → ℕ) (block other : ℕ) (xs : List Layer) → list_any (is_block_at other) (moved_to count block xs) ≡ list_any (is_block_at other) xs
unfolding moved_to
any_moved count block other [] = refl
any_moved count block other (x ∷ xs) =
    elim (cases_Bool (is_block_at block x)) [
      | inl here ↦ rw (here, same_block count other x) refl
      | inr later ↦ rw (later, same_block count other x, any_moved count block other xs) refl
    ]

pub length-moved_to : (count : ℕ → ℕ) (block : ℕ) (xs : List Layer) → length (moved_to count block xs) ≡ length xs
unfolding moved_to
length-moved_to count block [] = refl
length-moved_to count block (x ∷ xs) =
    elim (cases_Bool (is_block_at block x)) [
      | inl here ↦ rw here refl
      | inr later ↦ rw later (ap suc (length-moved_to count block xs))
    ]

-- with other counts
pub once_moved : (count : ℕ → ℕ) (block : ℕ) (xs : List Layer) → AreOnce xs → AreOnce (moved_to count block xs)
unfolding moved_to
once_moved count block [] once = tt
once_moved count block (x ∷ xs) once =
    elim (cases_Bool (is_block_at block x)) [
      | inl here ↦ rw here (λ other is. once.0 other (sym (same_block count other x) ∙ is), once.1)
      | inr later ↦
          rw later
          (λ other is. any_moved count block other xs ∙ once.0 other (sym (same_block count other x) ∙ is), once_moved count block xs once.1)
    ]

-- the count of a block, wherever it is found
pub live_found : (block i : ℕ) (d : Layer) (xs : List Layer) → AreOnce xs → i < length xs → is_block_at block (get_or xs i d) ≡ true
    → live_of (get_or xs i d) ≡ live_at block xs
unfolding live_at
live_found block i d [] once below is = absurd (omega (arith, below))
live_found block zero d (x ∷ xs) once below is = rw is refl
live_found block (suc i) d (x ∷ xs) once below is =
    elim (cases_Bool (is_block_at block x)) [
      | inl here ↦ absurd (true≢false (sym (list_any_at (is_block_at block) xs i d (omega (arith, below)) is) ∙ once.0 block here))
      | inr later ↦ rw later (live_found block i d xs once.1 (omega (arith, below)) is)
    ]

live_before : (block : ℕ) (xs : List Layer) (x : Layer) → is_block_at block x ≡ false → live_at block (xs ++ x ∷ []) ≡ live_at block xs
unfolding live_at
live_before block [] x other = rw other refl
live_before block (y ∷ ys) x other =
    elim (cases_Bool (is_block_at block y)) [
      | inl here ↦ rw here refl
      | inr later ↦ rw later (live_before block ys x other)
    ]

-- a member that isn't the block says nothing of it
pub live_shorter : (block place : ℕ) (d : Layer) (xs : List Layer) → place < length xs → is_block_at block (get_or xs place d) ≡ false
    → live_at block (take (place + 1) xs) ≡ live_at block (take place xs)
live_shorter block place d xs below other =
    let at : place + 1 ≡ suc place = omega arith in
    ap (λ n. live_at block (take n xs)) at
    ∙ ap (live_at block) (take-suc xs place d below)
    ∙ live_before block (take place xs) (get_or xs place d) other
