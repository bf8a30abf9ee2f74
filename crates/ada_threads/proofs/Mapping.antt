-- Threads that are changed one by one, from the first to the last.
use Rattle.std.proofs.Common.{◌≡◌, ℕ, zero, suc, ◌+◌, ◌<◌, ◌≤◌, List, [], ◌∷◌, length, map, slice_set, slice_index_or, refl, ap, ◌∙◌, arith}
use Rattle.ada_threads.specs.declared.thread.Thread.{Thread}
use Rattle.ada_threads.specs.Going.{unmarked}

-- the threads, of which the first ones are changed
pub changed_to : (Thread → Thread) → ℕ → List Thread → List Thread
changed_to change zero threads = threads
changed_to change (suc n) [] = []
changed_to change (suc n) (t ∷ rest) = change t ∷ changed_to change n rest

pub none_changed : (change : Thread → Thread) (threads : List Thread) → threads ≡ changed_to change 0 threads
unfolding changed_to
none_changed change threads = refl

pub all_changed : (change : Thread → Thread) (threads : List Thread) (n : ℕ) → length threads ≤ n
    → changed_to change n threads ≡ map change threads
unfolding changed_to
all_changed change [] zero many = refl
all_changed change [] (suc n) many = refl
all_changed change (t ∷ rest) zero many = absurd (omega (arith, many))
all_changed change (t ∷ rest) (suc n) many = ap (λ (r : List Thread). change t ∷ r) (all_changed change rest n (omega (arith, many)))

-- one more is changed
one_changed : (change : Thread → Thread) (threads : List Thread) (n : ℕ) (d : Thread) → n < length threads
    → slice_set (changed_to change n threads) n (change (slice_index_or (changed_to change n threads) n d)) ≡ changed_to change (suc n) threads
unfolding changed_to
one_changed change [] n d within = absurd (omega (arith, within))
one_changed change (t ∷ rest) zero d within = refl
one_changed change (t ∷ rest) (suc n) d within =
    ap (λ (r : List Thread). change t ∷ r) (one_changed change rest n d (omega (arith, within)))

pub next_changed : (change : Thread → Thread) (threads now : List Thread) (n : ℕ) (d x : Thread) → n < length threads
    → now ≡ changed_to change n threads → x ≡ change (slice_index_or now n d) → slice_set now n x ≡ changed_to change (n + 1) threads
next_changed change threads now n d x within is changes =
    ap (slice_set now n) changes ∙ (ap (λ (l : List Thread). slice_set l n (change (slice_index_or l n d))) is
    ∙ (one_changed change threads n d within ∙ ap (λ m. changed_to change m threads) (omega arith)))

-- one is changed, but for its mark
pub one_marked : (threads : List Thread) (n : ℕ) (d x : Thread) → n < length threads → unmarked x ≡ unmarked (slice_index_or threads n d)
    → map unmarked (slice_set threads n x) ≡ map unmarked threads
one_marked [] n d x within same = absurd (omega (arith, within))
one_marked (t ∷ rest) zero d x within same = ap (λ u. u ∷ map unmarked rest) same
one_marked (t ∷ rest) (suc n) d x within same = ap (λ (r : List Thread). unmarked t ∷ r) (one_marked rest n d x (omega (arith, within)) same)
