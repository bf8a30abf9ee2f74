-- One more task in a loop over the tasks.
use Rattle.std.proofs.Common.{◌≡◌, ℕ, ◌+◌, Bool, ◌&&◌, Option, refl, add-one}
use Rattle.std.specs.Option.{option_or}
use Rattle.ada_events.specs.Search.{first_below, all_below}

pub all_below_more : (test : ℕ → Bool) (n : ℕ) → all_below test (n + 1) ≡ (all_below test n && test n)
unfolding all_below
all_below_more test n = rw (add-one n) refl

pub first_below_more : {A : Type 0} (give : ℕ → Option A) (n : ℕ) → first_below give (n + 1) ≡ option_or (first_below give n) (give n)
unfolding first_below
first_below_more give n = rw (add-one n) refl
