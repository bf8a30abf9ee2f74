-- What is equal by the tests of the types of which lists are made is the same.
use Rattle.std.proofs.Common.{◌≡◌, ℕ, ℤ, eqb, Bool, true, false, ◌&&◌, List, [], ◌∷◌, refl}
use lib.Pointwise.{pointwise}
use mathlib.Core.Bool.{beq}
use Rattle.std.specs.Prelude.{Option, Some, None}
use Rattle.std.specs.Option.{option_eq}
use Rattle.std.specs.Ordering.{int_eq}
use Rattle.std.specs.Cmp.{signed_Decides}
use Rattle.std.proofs.lemmas.Bool.{and_parts, eqb-true, false≢true}
use Rattle.ada_events.specs.declared.names.Family.{Family}
use Rattle.ada_events.specs.declared.names.Entry.{Entry}
use Rattle.ada_events.specs.declared.names.Choice.{Choice}

family_of : (a b i j : ℤ) → a ≡ b → i ≡ j → (let x : Family = record { low = a; high = i } in x) ≡ (let y : Family = record { low = b; high = j } in y)
family_of a b i j lows highs = rw (lows, highs) refl

pub same_family : (x y : Family) → (int_eq x.low y.low && int_eq x.high y.high) ≡ true → x ≡ y
same_family x y same =
    let both = and_parts (int_eq x.low y.low) (int_eq x.high y.high) same in
    family_of x.low y.low x.high y.high ((signed_Decides x.low y.low).0 both.0) ((signed_Decides x.high y.high).0 both.1)

-- lists that are equal pair by pair are the same
pub pointwise_same : {A : Type 0} {E : A → A → Bool} → ((x y : A) → E x y ≡ true → x ≡ y) → (xs ys : List A) → pointwise E xs ys ≡ true → xs ≡ ys
pointwise_same sound [] [] same = refl
pointwise_same sound [] (y ∷ ys) same = absurd (false≢true same)
pointwise_same sound (x ∷ xs) [] same = absurd (false≢true same)
pointwise_same {A} {E} sound (x ∷ xs) (y ∷ ys) same =
    let both = and_parts (E x y) (pointwise E xs ys) same in
    rw (sound x y both.0, pointwise_same sound xs ys both.1) refl

entry_of : (a b : ℕ) (i j : ℤ) → a ≡ b → i ≡ j
    → (let x : Entry = record { family = a; index = i } in x) ≡ (let y : Entry = record { family = b; index = j } in y)
entry_of a b i j families indexes = rw (families, indexes) refl

same_entry : (x y : Entry) → (eqb x.family y.family && int_eq x.index y.index) ≡ true → x ≡ y
same_entry x y same =
    let both = and_parts (eqb x.family y.family) (int_eq x.index y.index) same in
    entry_of x.family y.family x.index y.index (eqb-true x.family y.family both.0) ((signed_Decides x.index y.index).0 both.1)

choice_of : (a b : Bool) (e f : Entry) → a ≡ b → e ≡ f
    → (let x : Choice = record { guard = a; entry = e } in x) ≡ (let y : Choice = record { guard = b; entry = f } in y)
choice_of a b e f guards entries = rw (guards, entries) refl

same_guard : (a b : Bool) → beq a b ≡ true → a ≡ b
same_guard true true same = refl
same_guard false false same = refl
same_guard true false same = absurd (false≢true same)
same_guard false true same = absurd (false≢true same)

pub same_choice : (x y : Choice) → (beq x.guard y.guard && (eqb x.entry.family y.entry.family && int_eq x.entry.index y.entry.index)) ≡ true
    → x ≡ y
same_choice x y same =
    let both = and_parts (beq x.guard y.guard) (eqb x.entry.family y.entry.family && int_eq x.entry.index y.entry.index) same in
    choice_of x.guard y.guard x.entry y.entry (same_guard x.guard y.guard both.0) (same_entry x.entry y.entry both.1)

pub same_due : (x y : Option ℤ) → option_eq int_eq x y ≡ true → x ≡ y
same_due None None same = refl
same_due None (Some j) same = absurd (false≢true same)
same_due (Some i) None same = absurd (false≢true same)
same_due (Some i) (Some j) same = rw ((signed_Decides i j).0 same) refl
