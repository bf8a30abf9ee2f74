-- Where the names that are bound stand among the names of a script.
use Rattle.std.proofs.Common.{◌≡◌, ℕ, zero, suc, ◌+◌, Bool, true, false, cond, List, [], ◌∷◌, ◌++◌, length, take, find, slice_get, Option, Some, None}
use Rattle.std.proofs.Common.{IfSome, is_some, refl, sym, ap, subst, ◌∙◌, add-one, arith}
use Rattle.std.specs.List.{position, position_from, IsDistinct, AllByRecursion}
use Rattle.std.specs.Option.{option_map, option_and_then}
use Rattle.std.specs.Map.{keys_of, values_of}
use Rattle.std.specs.Str.{bytes_eq}
use Rattle.std.proofs.lemmas.Iterator.Adapters.{position_from-zero}
use Rattle.std.proofs.lemmas.Cmp.{nat_list_eq_equiv}
use Rattle.indexmap.specs.IndexMap.{set_value_at, insert_entry}
use Rattle.ada_statements.specs.declared.meaning.Meaning.{Meaning}
use Rattle.ada_statements.specs.declared.meaning.Bound.{Bound}
use Rattle.ada_statements.specs.declared.places.Places.{Places}
use Rattle.ada_statements.specs.Scope.{Scope}
use Rattle.ada_statements.specs.Binding.{with_meaning}
use Rattle.ada_statements.specs.Binding.{is_bound_to, bound_to}
use Rattle.ada_statements.specs.internal.Places.{kept, place_bound_to, AreKept, IsNoted}

module _ {X : Type 0} (test : X → Bool) where
  -- places that are counted from the next number
  shift : (xs : List X) (n : ℕ) → position_from test (n + 1) xs ≡ option_map (λ i. i + 1) (position_from test n xs)
  shift [] n = refl
  shift (x ∷ xs) n = by (shift xs (n + 1)) (test x)
    where
      by : position_from test (n + 1 + 1) xs ≡ option_map (λ i. i + 1) (position_from test (n + 1) xs) → (same : Bool)
          → cond same (Some (n + 1)) (position_from test (n + 1 + 1) xs) ≡ option_map (λ i. i + 1) (cond same (Some n) (position_from test (n + 1) xs))
      by later true = refl
      by later false = later

  -- what is found stands at the place where it is
  pub find_placed : (xs : List X) → find test xs ≡ option_and_then (slice_get xs) (position_from test 0 xs)
  find_placed [] = refl
  find_placed (x ∷ xs) = by (find_placed xs) (shift xs 0) (test x)
    where
      behind : (place : Option ℕ) → option_and_then (slice_get xs) place ≡ option_and_then (slice_get (x ∷ xs)) (option_map (λ i. i + 1) place)
      behind None = refl
      behind (Some i) = rw add-one refl

      by : find test xs ≡ option_and_then (slice_get xs) (position_from test 0 xs) → position_from test 1 xs ≡ option_map (λ i. i + 1) (position_from test 0 xs)
          → (same : Bool)
          → cond same (Some x) (find test xs) ≡ option_and_then (slice_get (x ∷ xs)) (cond same (Some 0) (position_from test 1 xs))
      by later next true = refl
      by later next false = later ∙ behind (position_from test 0 xs) ∙ ap (option_and_then (slice_get (x ∷ xs))) (sym next)

-- a name that is bound is looked up by its place
module _ (names : Scope) {places : Option Places} (all : IfSome places (AreKept names)) (now : Places) (are : places ≡ Some now) (bound : Bound) where
  looked_up : bound_to names bound ≡ option_and_then (slice_get names) (kept now bound)
  looked_up =
      let here : AreKept names now = subst (λ some. IfSome some (AreKept names)) are all in
      find_placed (λ entry. is_bound_to bound entry.1) names ∙ ap (option_and_then (slice_get names)) (here bound)

  pub looked_up_here : (found : Option ℕ) (place : ℕ) → found ≡ kept now bound → found ≡ Some place → slice_get names place ≡ bound_to names bound
  looked_up_here found place is at = sym (looked_up ∙ ap (option_and_then (slice_get names)) (sym is ∙ at))

  pub looked_up_nowhere : (found : Option ℕ) → found ≡ kept now bound → found ≡ None → None ≡ bound_to names bound
  looked_up_nowhere found is at = sym (looked_up ∙ ap (option_and_then (slice_get names)) (sym is ∙ at))

-- ---- more places

module _ {X : Type 0} where
  take_one_more : (xs : List X) (i : ℕ) (x : X) → slice_get xs i ≡ Some x → take (i + 1) xs ≡ take i xs ++ x ∷ []
  take_one_more xs i x at = rw add-one (by xs i at)
    where
      by : (ys : List X) (j : ℕ) → slice_get ys j ≡ Some x → take (suc j) ys ≡ take j ys ++ x ∷ []
      by [] j e = absurd cc
      by (y ∷ ys) zero e = let same : y ≡ x = cc in ap (λ (z : X). z ∷ []) same
      by (y ∷ ys) (suc j) e = ap (λ (zs : List X). y ∷ zs) (by ys j e)

  length_taken : (xs : List X) (i : ℕ) (x : X) → slice_get xs i ≡ Some x → length (take i xs) ≡ i
  length_taken [] i x e = absurd cc
  length_taken (y ∷ ys) zero x e = refl
  length_taken (y ∷ ys) (suc i) x e = ap suc (length_taken ys i x e)

-- one more entry
module _ {X : Type 0} (test : X → Bool) where
  pub appended_failing : (xs : List X) (n : ℕ) (x : X) → test x ≡ false → position_from test n (xs ++ x ∷ []) ≡ position_from test n xs
  appended_failing [] n x fails = ap (λ t. cond t (Some n) None) fails
  appended_failing (y ∷ ys) n x fails = ap (cond (test y) (Some n)) (appended_failing ys (n + 1) x fails)

  pub appended_passing : (xs : List X) (n : ℕ) (x : X) → test x ≡ true → position_from test n xs ≡ None
      → position_from test n (xs ++ x ∷ []) ≡ Some (n + length xs)
  appended_passing [] n x passes none = ap (λ t. cond t (Some n) None) passes ∙ ap Some (omega arith)
  appended_passing (y ∷ ys) n x passes none = by (appended_passing ys (n + 1) x passes) (test y) none
    where
      by : (position_from test (n + 1) ys ≡ None → position_from test (n + 1) (ys ++ x ∷ []) ≡ Some (n + 1 + length ys)) → (same : Bool)
          → cond same (Some n) (position_from test (n + 1) ys) ≡ None
          → cond same (Some n) (position_from test (n + 1) (ys ++ x ∷ [])) ≡ Some (n + length (y ∷ ys))
      by later true e = absurd cc
      by later false e = later e ∙ ap Some (omega arith)

-- another value of one entry
module _ {K V : Type 0} (test : V → Bool) (new : V) where
  pub changed_alike : (es : List (K × V)) (n i : ℕ) (k : K) (old : V) → slice_get es i ≡ Some (k, old) → test new ≡ test old
      → position_from (λ e. test e.1) n (set_value_at es i new) ≡ position_from (λ e. test e.1) n es
  changed_alike [] n i k old at alike = refl
  changed_alike (e ∷ es) n zero k old at alike =
      let here : e.1 ≡ old = cc in
      ap (λ t. cond t (Some n) (position_from (λ e. test e.1) (n + 1) es)) (alike ∙ ap test (sym here))
  changed_alike (e ∷ es) n (suc i) k old at alike = ap (cond (test e.1) (Some n)) (changed_alike es (n + 1) i k old at alike)

  pub changed_passing : (es : List (K × V)) (n i : ℕ) (k : K) (old : V) → slice_get es i ≡ Some (k, old) → test new ≡ true
      → position_from (λ e. test e.1) n es ≡ None
      → position_from (λ e. test e.1) n (set_value_at es i new) ≡ Some (n + i)
  changed_passing [] n i k old at passes none = absurd cc
  changed_passing (e ∷ es) n zero k old at passes none = ap (λ t. cond t (Some n) (position_from (λ e. test e.1) (n + 1) es)) passes ∙ ap Some (omega arith)
  changed_passing (e ∷ es) n (suc i) k old at passes none = by (changed_passing es (n + 1) i k old at passes) (test e.1) none
    where
      by : (position_from (λ e. test e.1) (n + 1) es ≡ None → position_from (λ e. test e.1) (n + 1) (set_value_at es i new) ≡ Some (n + 1 + i)) → (same : Bool)
          → cond same (Some n) (position_from (λ e. test e.1) (n + 1) es) ≡ None
          → cond same (Some n) (position_from (λ e. test e.1) (n + 1) (set_value_at es i new)) ≡ Some (n + suc i)
      by later true e = absurd cc
      by later false e = later e ∙ ap Some (omega arith)

-- the place of one more name is noted
pub one_more_kept : (names : Scope) (i : ℕ) (name : List ℕ) (meaning : Meaning) (before after : Places) → slice_get names i ≡ Some (name, meaning)
    → AreKept (take i names) before → IsNoted before after meaning i → AreKept (take (i + 1) names) after
one_more_kept names i name meaning before after at all noted bound =
    let one_more : take (i + 1) names ≡ take i names ++ (name, meaning) ∷ [] = take_one_more names i (name, meaning) at in
    let many : length (take i names) ≡ i = length_taken names i (name, meaning) at in
    ap (λ list. place_bound_to list bound) one_more ∙ by many (is_bound_to bound meaning) refl
  where
    test : List ℕ × Meaning → Bool
    test entry = is_bound_to bound entry.1

    by : length (take i names) ≡ i → (same : Bool) → is_bound_to bound meaning ≡ same
        → position_from test 0 (take i names ++ (name, meaning) ∷ []) ≡ kept after bound
    by many true passes = appended_passing test (take i names) 0 (name, meaning) passes (all bound ∙ ((noted bound).1 passes).0) ∙ ap Some (omega (arith, many))
        ∙ sym ((noted bound).1 passes).1
    by many false fails = appended_failing test (take i names) 0 (name, meaning) fails ∙ all bound ∙ sym ((noted bound).0 fails)

-- a name that wasn't bound is bound, and its place is noted
pub changed_kept : (names : Scope) (i : ℕ) (name : List ℕ) (old new : Meaning) (before after : Places) → slice_get names i ≡ Some (name, old)
    → ((bound : Bound) → is_bound_to bound old ≡ false) → AreKept names before → IsNoted before after new i → AreKept (set_value_at names i new) after
changed_kept names i name old new before after at unbound all noted bound = by (is_bound_to bound new) refl
  where
    by : (same : Bool) → is_bound_to bound new ≡ same → place_bound_to (set_value_at names i new) bound ≡ kept after bound
    by true passes = changed_passing (is_bound_to bound) new names 0 i name old at passes (all bound ∙ ((noted bound).1 passes).0) ∙ ap Some (omega arith)
        ∙ sym ((noted bound).1 passes).1
    by false fails = changed_alike (is_bound_to bound) new names 0 i name old at (fails ∙ sym (unbound bound)) ∙ all bound ∙ sym ((noted bound).0 fails)

value_entry : (names : Scope) (i : ℕ) (meaning : Meaning) → slice_get (values_of names) i ≡ Some meaning → (name : List ℕ)
    × (slice_get names i ≡ Some (name, meaning))
value_entry [] i meaning at = absurd cc
value_entry (e ∷ es) zero meaning at = let same : e.1 ≡ meaning = cc in (e.0, ap (λ (m : Meaning). Some (e.0, m)) same)
value_entry (e ∷ es) (suc i) meaning at = value_entry es i meaning at

-- the same of places that are kept, if they are
pub rebound_kept : (names : Scope) (i : ℕ) (old new : Meaning) (was before after : Option Places) → before ≡ was → slice_get (values_of names) i ≡ Some old
    → ((bound : Bound) → is_bound_to bound old ≡ false) → IfSome was (AreKept names)
    → IfSome after (λ now. (places : Places) × (before ≡ Some places) × IsNoted places now new i) → IfSome after (AreKept (set_value_at names i new))
rebound_kept names i old new was before None same at unbound all noted = noted
rebound_kept names i old new was before (Some now) same at unbound all noted =
    let entry = value_entry names i old at in
    let kept_before : AreKept names noted.0 = subst (λ some. IfSome some (AreKept names)) (sym same ∙ noted.1) all in
    changed_kept names i entry.0 old new noted.0 now entry.1 unbound kept_before noted.2

-- ---- another meaning of a name, by its place

pub nothing_is_there : {V : Type 0} (found : Option V) → false ≡ is_some found → found ≡ None
nothing_is_there None e = refl
nothing_is_there (Some v) e = absurd cc

module _ (name : List ℕ) (change : Meaning → Meaning) (old : Meaning) where
  placed_from : (names : Scope) (i : ℕ) → position_from (bytes_eq name) 0 (keys_of names) ≡ Some i → slice_get (values_of names) i ≡ Some old
      → set_value_at names i (change old) ≡ with_meaning names name change
  placed_from [] i first at = absurd cc
  placed_from (e ∷ es) i first at = by (placed_from es) (shift (bytes_eq name) (keys_of es) 0) (bytes_eq name e.0) i first at
    where
      behind : ((j : ℕ) → position_from (bytes_eq name) 0 (keys_of es) ≡ Some j → slice_get (values_of es) j ≡ Some old
          → set_value_at es j (change old) ≡ with_meaning es name change)
          → (o : Option ℕ) → position_from (bytes_eq name) 0 (keys_of es) ≡ o → (j : ℕ) → option_map (λ i. i + 1) o ≡ Some j
          → slice_get (values_of (e ∷ es)) j ≡ Some old
          → set_value_at (e ∷ es) j (change old) ≡ e ∷ with_meaning es name change
      behind later None p j found at = absurd cc
      behind later (Some k) p zero found at = let wrong : k + 1 ≡ zero = cc in absurd (omega (arith, wrong))
      behind later (Some k) p (suc j) found at = let next : k + 1 ≡ suc j = cc in let same : k
          ≡ j = omega (arith, next) in ap (λ (rest : Scope). e ∷ rest) (later j (p ∙ ap Some same) at)

      by : ((j : ℕ) → position_from (bytes_eq name) 0 (keys_of es) ≡ Some j → slice_get (values_of es) j ≡ Some old
          → set_value_at es j (change old) ≡ with_meaning es name change)
          → position_from (bytes_eq name) 1 (keys_of es) ≡ option_map (λ i. i + 1) (position_from (bytes_eq name) 0 (keys_of es)) → (same : Bool) → (j : ℕ)
          → cond same (Some 0) (position_from (bytes_eq name) 1 (keys_of es)) ≡ Some j → slice_get (values_of (e ∷ es)) j ≡ Some old
          → set_value_at (e ∷ es) j (change old) ≡ cond same ((e.0, change e.1) ∷ es) (e ∷ with_meaning es name change)
      by later next true zero found at = let here : e.1 ≡ old = cc in ap (λ (m : Meaning). (e.0, change m) ∷ es) (sym here)
      by later next true (suc j) found at = absurd cc
      by later next false j found at = behind later (position_from (bytes_eq name) 0 (keys_of es)) refl j (sym next ∙ found) at

  pub set_at_place : (names : Scope) (i : ℕ) → position (bytes_eq name) (keys_of names) ≡ Some i → slice_get (values_of names) i ≡ Some old
      → set_value_at names i (change old) ≡ with_meaning names name change
  set_at_place names i first at = placed_from names i (sym (position_from-zero (bytes_eq name) (keys_of names)) ∙ first) at

-- ---- copies of names

-- no name stands twice
later_differs : (before : List ℕ) (es : Scope) (j : ℕ) (name : List ℕ) (meaning : Meaning)
    → AllByRecursion (λ other. bytes_eq before other ≡ false) (keys_of es) → slice_get es j ≡ Some (name, meaning)
    → bytes_eq before name ≡ false
later_differs before [] j name meaning all at = absurd cc
later_differs before (e ∷ es) zero name meaning all at = let same : e.0 ≡ name = cc in subst (λ other. bytes_eq before other ≡ false) same all.0
later_differs before (e ∷ es) (suc j) name meaning all at = later_differs before es j name meaning all.1 at

-- entries that are inserted in their order
next_inserted : (es : Scope) (j : ℕ) (name : List ℕ) (meaning : Meaning) → IsDistinct bytes_eq (keys_of es) → slice_get es j ≡ Some (name, meaning)
    → insert_entry bytes_eq (take j es) name meaning ≡ take (suc j) es
unfolding IsDistinct
next_inserted [] j name meaning apart at = absurd cc
next_inserted (e ∷ es) zero name meaning apart at = let same : e ≡ (name, meaning) = cc in ap (λ (entry : List ℕ × Meaning). entry ∷ []) (sym same)
next_inserted (e ∷ es) (suc j) name meaning apart at =
    let differs : bytes_eq name e.0 ≡ false = nat_list_eq_equiv.symm name e.0 ∙ later_differs e.0 es j name meaning apart.0 at in
    ap (λ t. cond t ((e.0, meaning) ∷ take j es) (e ∷ insert_entry bytes_eq (take j es) name meaning)) differs
    ∙ ap (λ (rest : Scope). e ∷ rest) (next_inserted es j name meaning apart.1 at)

pub inserted_next : (names : Scope) (i : ℕ) (name : List ℕ) (meaning : Meaning) → IsDistinct bytes_eq (keys_of names) → slice_get names i ≡ Some (name, meaning)
    → insert_entry bytes_eq (take i names) name meaning ≡ take (i + 1) names
inserted_next names i name meaning distinct at = rw add-one (next_inserted names i name meaning distinct at)

-- ---- the place of a name

-- a name stands at one place alone
placed_alone : (es : Scope) (n i : ℕ) (name : List ℕ) (meaning : Meaning) → IsDistinct bytes_eq (keys_of es) → slice_get es i ≡ Some (name, meaning)
    → position_from (bytes_eq name) n (keys_of es) ≡ Some (n + i)
unfolding IsDistinct
placed_alone [] n i name meaning apart at = absurd cc
placed_alone (e ∷ es) n zero name meaning apart at =
    let same : e.0 ≡ name = cc in
    let here : bytes_eq name e.0 ≡ true = ap (bytes_eq name) same ∙ nat_list_eq_equiv.refl name in
    ap (λ t. cond t (Some n) (position_from (bytes_eq name) (n + 1) (keys_of es))) here ∙ ap Some (omega arith)
placed_alone (e ∷ es) n (suc i) name meaning apart at =
    let differs : bytes_eq name e.0 ≡ false = nat_list_eq_equiv.symm name e.0 ∙ later_differs e.0 es i name meaning apart.0 at in
    ap (λ t. cond t (Some n) (position_from (bytes_eq name) (n + 1) (keys_of es))) differs
    ∙ placed_alone es (n + 1) i name meaning apart.1 at ∙ ap Some (omega arith)

pub only_place : (names : Scope) (i : ℕ) (name : List ℕ) (meaning : Meaning) → IsDistinct bytes_eq (keys_of names) → slice_get names i ≡ Some (name, meaning)
    → position (bytes_eq name) (keys_of names) ≡ Some i
only_place names i name meaning apart at =
    position_from-zero (bytes_eq name) (keys_of names) ∙ placed_alone names 0 i name meaning apart at ∙ ap Some (omega arith)
