-- Tests whether what events, nests and outcomes are made of is the same; each test that is passed gives an equation.
use Rattle.std.proofs.Common.{◌≡◌, ℕ, ℤ, pos, negsuc, Bool, true, false, not, ◌&&◌, eqb, Option, Some, None, List, [], ◌∷◌, refl, sym, ap, arith, int_le}
use Rattle.std.proofs.lemmas.Bool.{and_parts, eqb-true, leb-true, false≢true}
use Rattle.ada_events.specs.declared.names.Family.{Family}
use Rattle.ada_events.specs.declared.names.Entry.{Entry}
use Rattle.ada_events.specs.declared.names.Choice.{Choice}
use Rattle.ada_events.specs.declared.names.Member.{Member}
use Rattle.ada_events.specs.declared.names.Member.TheVariants.{Block, Rendezvous}
use Rattle.ada_events.specs.declared.event.EventTail.{EventTail}
use Rattle.ada_events.specs.declared.event.EventTail.TheVariants as tail
use Rattle.ada_events.specs.declared.outcome.Outcome.{Outcome}
use Rattle.ada_events.specs.declared.outcome.Outcome.TheVariants.{Dead, Done, Held, Served, TaskingError, Cancelled, Accepted, TookElse, TookDelay}
use Rattle.ada_events.specs.declared.outcome.Outcome.TheVariants.{ProgramError, Awake, ActivationOk, ActivationFailed, BlockLeft, Raised, Nothing}
use Rattle.ada_events.specs.Entries.{same_index, same_entry}

abbrev pub same_Bool : Bool → Bool → Bool
same_Bool true b = b
same_Bool false b = not b

pub same_Bool-true : (a b : Bool) → same_Bool a b ≡ true → a ≡ b
same_Bool-true true b same = sym same
same_Bool-true false true same = same
same_Bool-true false false same = refl

pub same_index-true : (i j : ℤ) → same_index i j ≡ true → i ≡ j
same_index-true (pos m) (pos n) same =
    let both = and_parts (int_le (pos m) (pos n)) (int_le (pos n) (pos m)) same in
    ap pos (omega (arith, leb-true m n both.0, leb-true n m both.1))
same_index-true (negsuc m) (negsuc n) same =
    let both = and_parts (int_le (negsuc m) (negsuc n)) (int_le (negsuc n) (negsuc m)) same in
    ap negsuc (omega (arith, leb-true n m both.0, leb-true m n both.1))
same_index-true (pos m) (negsuc n) same = absurd (false≢true same)
same_index-true (negsuc m) (pos n) same = absurd (false≢true same)

abbrev pub same_option : {A : Type 0} → (A → A → Bool) → Option A → Option A → Bool
same_option same None None = true
same_option same (Some x) (Some y) = same x y
same_option same _ _ = false

pub same_option-true : {A : Type 0} (same : A → A → Bool) (a b : Option A) → ((x y : A) → same x y ≡ true → x ≡ y) → same_option same a b ≡ true → a ≡ b
same_option-true same None None sound passes = refl
same_option-true same (Some x) (Some y) sound passes = ap Some (sound x y passes)
same_option-true same None (Some y) sound passes = absurd (false≢true passes)
same_option-true same (Some x) None sound passes = absurd (false≢true passes)

abbrev pub same_list : {A : Type 0} → (A → A → Bool) → List A → List A → Bool
same_list same [] [] = true
same_list same (x ∷ xs) (y ∷ ys) = same x y && same_list same xs ys
same_list same _ _ = false

pub same_list-true : {A : Type 0} (same : A → A → Bool) (xs ys : List A) → ((x y : A) → same x y ≡ true → x ≡ y) → same_list same xs ys ≡ true → xs ≡ ys
same_list-true same [] [] sound passes = refl
same_list-true same (x ∷ xs) (y ∷ ys) sound passes =
    let both = and_parts (same x y) (same_list same xs ys) passes in
    rw (sound x y both.0, same_list-true same xs ys sound both.1) refl
same_list-true same [] (y ∷ ys) sound passes = absurd (false≢true passes)
same_list-true same (x ∷ xs) [] sound passes = absurd (false≢true passes)

abbrev pub same_family : Family → Family → Bool
same_family a b = same_index a.low b.low && same_index a.high b.high

pub same_family-true : (a b : Family) → same_family a b ≡ true → a ≡ b
same_family-true a b same =
    let both = and_parts (same_index a.low b.low) (same_index a.high b.high) same in
    made a.low b.low a.high b.high (same_index-true a.low b.low both.0) (same_index-true a.high b.high both.1)
  where
    made : (i j m n : ℤ) → i ≡ j → m ≡ n → (let x : Family = record { low = i; high = m } in x) ≡ (let y : Family = record { low = j; high = n } in y)
    made i j m n lows highs = rw (lows, highs) refl

pub same_entry-true : (a b : Entry) → same_entry a b ≡ true → a ≡ b
same_entry-true a b same =
    let both = and_parts (eqb a.family b.family) (same_index a.index b.index) same in
    made a.family b.family a.index b.index (eqb-true a.family b.family both.0) (same_index-true a.index b.index both.1)
  where
    made : (m n : ℕ) (i j : ℤ) → m ≡ n → i ≡ j
        → (let x : Entry = record { family = m; index = i } in x) ≡ (let y : Entry = record { family = n; index = j } in y)
    made m n i j families indexes = rw (families, indexes) refl

abbrev pub same_choice : Choice → Choice → Bool
same_choice a b = same_Bool a.guard b.guard && same_entry a.entry b.entry

pub same_choice-true : (a b : Choice) → same_choice a b ≡ true → a ≡ b
same_choice-true a b same =
    let both = and_parts (same_Bool a.guard b.guard) (same_entry a.entry b.entry) same in
    made a.guard b.guard a.entry b.entry (same_Bool-true a.guard b.guard both.0) (same_entry-true a.entry b.entry both.1)
  where
    made : (g h : Bool) (e f : Entry) → g ≡ h → e ≡ f
        → (let x : Choice = record { guard = g; entry = e } in x) ≡ (let y : Choice = record { guard = h; entry = f } in y)
    made g h e f guards entries = rw (guards, entries) refl

abbrev pub same_tail : EventTail → EventTail → Bool
same_tail tail.Nothing tail.Nothing = true
same_tail tail.Otherwise tail.Otherwise = true
same_tail (tail.Delays a) (tail.Delays b) = same_list (same_option same_index) a b
same_tail (tail.Terminate a) (tail.Terminate b) = same_Bool a b
same_tail _ _ = false

pub same_tail-true : (a b : EventTail) → same_tail a b ≡ true → a ≡ b
same_tail-true tail.Nothing tail.Nothing same = refl
same_tail-true tail.Otherwise tail.Otherwise same = refl
same_tail-true (tail.Delays a) (tail.Delays b) same =
    ap tail.Delays (same_list-true (same_option same_index) a b (λ x y. same_option-true same_index x y same_index-true) same)
same_tail-true (tail.Terminate a) (tail.Terminate b) same = ap tail.Terminate (same_Bool-true a b same)
same_tail-true _ _ same = absurd (false≢true same)

abbrev pub same_member : Member → Member → Bool
same_member (Block p) (Block q) = eqb p q
same_member (Rendezvous p) (Rendezvous q) = eqb p q
same_member _ _ = false

pub same_member-true : (a b : Member) → same_member a b ≡ true → a ≡ b
same_member-true (Block p) (Block q) same = ap Block (eqb-true p q same)
same_member-true (Rendezvous p) (Rendezvous q) same = ap Rendezvous (eqb-true p q same)
same_member-true (Block p) (Rendezvous q) same = absurd (false≢true same)
same_member-true (Rendezvous p) (Block q) same = absurd (false≢true same)

abbrev pub same_outcome : Outcome → Outcome → Bool
same_outcome Dead Dead = true
same_outcome Done Done = true
same_outcome Held Held = true
same_outcome Served Served = true
same_outcome TaskingError TaskingError = true
same_outcome Cancelled Cancelled = true
same_outcome (Accepted p m) (Accepted q n) = eqb p q && eqb m n
same_outcome TookElse TookElse = true
same_outcome (TookDelay m) (TookDelay n) = eqb m n
same_outcome ProgramError ProgramError = true
same_outcome Awake Awake = true
same_outcome ActivationOk ActivationOk = true
same_outcome ActivationFailed ActivationFailed = true
same_outcome BlockLeft BlockLeft = true
same_outcome Raised Raised = true
same_outcome Nothing Nothing = true
same_outcome _ _ = false

pub same_outcome-true : (a b : Outcome) → same_outcome a b ≡ true → a ≡ b
same_outcome-true Dead Dead same = refl
same_outcome-true Done Done same = refl
same_outcome-true Held Held same = refl
same_outcome-true Served Served same = refl
same_outcome-true TaskingError TaskingError same = refl
same_outcome-true Cancelled Cancelled same = refl
same_outcome-true (Accepted p m) (Accepted q n) same =
    let both = and_parts (eqb p q) (eqb m n) same in
    rw (eqb-true p q both.0, eqb-true m n both.1) refl
same_outcome-true TookElse TookElse same = refl
same_outcome-true (TookDelay m) (TookDelay n) same = ap TookDelay (eqb-true m n same)
same_outcome-true ProgramError ProgramError same = refl
same_outcome-true Awake Awake same = refl
same_outcome-true ActivationOk ActivationOk same = refl
same_outcome-true ActivationFailed ActivationFailed same = refl
same_outcome-true BlockLeft BlockLeft same = refl
same_outcome-true Raised Raised same = refl
same_outcome-true Nothing Nothing same = refl
same_outcome-true _ _ same = absurd (false≢true same)
