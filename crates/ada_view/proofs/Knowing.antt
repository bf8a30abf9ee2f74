-- Queries of a task, by its record, and what a board shows of it.
use Rattle.std.proofs.Common.{◌≡◌, Bool, true, false, ◌&&◌, Some, refl}
use Rattle.std.specs.Bool.{then_some}
use Rattle.std.specs.Option.{unwrap_or}

-- what is told of a task that is there
pub told : {A : Type 0} (b : Bool) (x y : A) → b ≡ true → x ≡ y → Some x ≡ then_some b y
told b x y known same = rw (known, same) refl

-- what a board shows of a task: false where it isn't there
pub shown : (b x : Bool) → unwrap_or (then_some b x) false ≡ (b && x)
shown true x = refl
shown false x = refl
