-- What is spelled is read again: words, numbers, names and entries.
use Rattle.std.proofs.Common.{◌≡◌, ℕ, suc, ◌^◌, ◌<◌, ◌≤◌, Bool, true, false, eqb, leb, ◌||◌, ◌&&◌, List, [], ◌∷◌, ◌++◌, length, get_or, Option, Some, None, Ok}
use Rattle.std.proofs.Common.{ℤ, pos, negsuc, refl, sym, arith, inl, inr}
use Rattle.std.specs.Prelude.{IsTrue, IfSome, decimal}
use Rattle.std.specs.Fmt.{signed_decimal}
use Rattle.std.specs.List.{list_all}
use Rattle.std.specs.Str.{bytes_eq}
use Rattle.std.proofs.lemmas.Slice.Eq.{bytes_eq-Decides}
use Rattle.std.proofs.lemmas.Bool.{lt-ltb, le-leb, lt-leb, leb-true, ne_eqb}
use Rattle.std.proofs.lemmas.Bool.Decides.{eqb_tells}
use Rattle.std.proofs.lemmas.Fmt.{decimal_is_IsNumeral, decimal_nonempty}
use Rattle.std.proofs.lemmas.Str.Parse.{digit_at}
use Rattle.ada_events.specs.declared.names.Family.{Family}
use Rattle.ada_statements.specs.declared.statement.EntryName.{EntryName}
use Rattle.ada_statements.specs.Text.{is_name, is_digit, is_letter, is_name_byte}
use Rattle.ada_script.specs.internal.Number.{integer_of}
use Rattle.ada_script.specs.Spelling.{index_words, entry_words, bounds_words}
use Rattle.ada_statements.specs.Scope.{Scope, IsTaskName, IsMasterName, IsNewName, IsEntryName, IsIndex, IsMoment}
use Rattle.ada_script.specs.internal.Reading.{keyword_at, moment_at, index_at, pick_at, begins_number, optional_index_at}
use Rattle.ada_script.specs.internal.Reading.{number_is_next, bounds_at, name_at, task_name_at}
use Rattle.ada_script.specs.internal.Reading.{master_at, new_name_at, entry_name_at}
use Rattle.ada_script.proofs.Numbers.{natural_of-spelled, IsInteger}

-- ---- words and names

pub bytes_same : (word : List ℕ) → bytes_eq word word ≡ true
bytes_same word = (bytes_eq-Decides word word).1 refl

pub keyword_again : (keyword : List ℕ) (rest : List (List ℕ)) → keyword_at keyword (keyword ∷ rest) ≡ Ok (tt, rest)
unfolding keyword_at
keyword_again keyword rest = rw (bytes_same keyword) refl

pub name_again : (name : List ℕ) (rest : List (List ℕ)) → IsTrue (is_name name) → name_at (name ∷ rest) ≡ Ok (name, rest)
unfolding name_at
name_again name rest form = rw form refl

module _ (names : Scope) where
  pub task_again : (name : List ℕ) (rest : List (List ℕ)) → IsTaskName names name → task_name_at names (name ∷ rest) ≡ Ok (name, rest)
  unfolding task_name_at
  task_again name rest known = rw (name_again name rest known.0, known.1) refl

  pub master_again : (name : List ℕ) (rest : List (List ℕ)) → IsMasterName names name → master_at names (name ∷ rest) ≡ Ok (name, rest)
  unfolding master_at
  master_again name rest known = rw (name_again name rest known.0, known.1) refl

  pub new_name_again : (name : List ℕ) (rest : List (List ℕ)) → IsNewName names name → new_name_at names (name ∷ rest) ≡ Ok (name, rest)
  unfolding new_name_at
  new_name_again name rest new = rw (name_again name rest new.0, new.1) refl

-- ---- numbers

-- the first byte of a number is a digit
first_byte : (n : ℕ) → n < 2 ^ 64 → (48 ≤ get_or (decimal n) 0 0) × (get_or (decimal n) 0 0 ≤ 57)
first_byte n small = digit_at (decimal n) 0 (decimal_is_IsNumeral n small).0.1 (decimal_nonempty n small)

digit_begins : (word : List ℕ) → 0 < length word → (48 ≤ get_or word 0 0) × (get_or word 0 0 ≤ 57) → begins_number word ≡ true
digit_begins [] some range = absurd (omega arith)
digit_begins (b ∷ bytes) some range = rw (le-leb 48 b range.0, le-leb b 57 range.1) refl

decimal_begins : (n : ℕ) → n < 2 ^ 64 → begins_number (decimal n) ≡ true
decimal_begins n small = digit_begins (decimal n) (decimal_nonempty n small) (first_byte n small)

pub number_begins : (limit : ℕ) (z : ℤ) → limit ≤ 2 ^ 63 → IsInteger limit z → begins_number (signed_decimal z) ≡ true
number_begins limit (pos n) small lt = decimal_begins n (omega arith)
number_begins limit (negsuc n) small lt = refl

natural_first : (limit n : ℕ) (word : List ℕ) → limit ≤ 2 ^ 63 → n < limit → word ≡ decimal n → 0 < length word → 48 ≤ get_or word 0 0
    → integer_of limit word ≡ Some (pos n)
unfolding integer_of
natural_first limit n [] small lt e some digit = absurd (omega arith)
natural_first limit n (b ∷ bytes) small lt e some digit =
    elim (eqb_tells b 45) [
      | inl same ↦ absurd (omega (arith, same.1))
      | inr other ↦ rw (other.0, natural_of-spelled n (b ∷ bytes) (omega arith) (sym e), lt-ltb n limit lt) refl
    ]

pub integer_of-again : (limit : ℕ) (z : ℤ) → limit ≤ 2 ^ 63 → IsInteger limit z → integer_of limit (signed_decimal z) ≡ Some z
unfolding integer_of
integer_of-again limit (pos n) small lt = natural_first limit n (decimal n) small lt refl (decimal_nonempty n (omega arith)) (first_byte n (omega arith)).0
integer_of-again limit (negsuc n) small lt = rw (natural_of-spelled (suc n) (decimal (suc n)) (omega arith) refl, lt-ltb n limit lt) refl

is_moment : (z : ℤ) → IsMoment z → IsInteger (2 ^ 63) z
is_moment (pos n) fits = fits.sfits
is_moment (negsuc n) fits = fits.sfits

is_index : (z : ℤ) → IsIndex z → IsInteger (2 ^ 31) z
is_index (pos n) fits = fits.sfits
is_index (negsuc n) fits = fits.sfits

pub moment_again : (z : ℤ) (rest : List (List ℕ)) → IsMoment z → moment_at (signed_decimal z ∷ rest) ≡ Ok (z, rest)
unfolding moment_at
moment_again z rest fits = rw (integer_of-again (2 ^ 63) z (omega arith) (is_moment z fits)) refl

pub index_again : (z : ℤ) (rest : List (List ℕ)) → IsIndex z → index_at (signed_decimal z ∷ rest) ≡ Ok (z, rest)
unfolding index_at
index_again z rest fits = rw (integer_of-again (2 ^ 31) z (omega arith) (is_index z fits)) refl

index_begins : (z : ℤ) → IsIndex z → begins_number (signed_decimal z) ≡ true
index_begins z fits = number_begins (2 ^ 31) z (omega arith) (is_index z fits)

pub pick_again : (n : ℕ) (rest : List (List ℕ)) → n < 2 ^ 32 → pick_at (decimal n ∷ rest) ≡ Ok (n, rest)
unfolding pick_at
pick_again n rest lt = rw (natural_of-spelled n (decimal n) (omega arith) refl, lt-ltb n (2 ^ 32) lt) refl

pub optional_index_again : (index : Option ℤ) (rest : List (List ℕ)) → IfSome index IsIndex → number_is_next rest ≡ false
    → optional_index_at (index_words index ++ rest) ≡ Ok (index, rest)
unfolding optional_index_at
optional_index_again None rest fits next = rw next refl
optional_index_again (Some z) rest fits next = rw (index_begins z fits, index_again z rest fits) refl

pub bounds_again : (bounds : Option Family) (rest : List (List ℕ)) → IfSome bounds (λ b. IsIndex b.low × IsIndex b.high) → number_is_next rest ≡ false
    → bounds_at (bounds_words bounds ++ rest) ≡ Ok (bounds, rest)
unfolding bounds_at
bounds_again None rest fits next = rw next refl
bounds_again (Some b) rest fits next =
    rw (index_begins b.low fits.0, index_again b.low (signed_decimal b.high ∷ rest) fits.0, index_again b.high rest fits.1) refl

-- ---- entries

pub entry_again : (names : Scope) (task : List ℕ) (entry : EntryName) (rest : List (List ℕ)) → IsEntryName names task entry → number_is_next rest ≡ false
    → entry_name_at names task (entry_words entry ++ rest) ≡ Ok (entry, rest)
unfolding entry_name_at
entry_again names task entry rest fits next =
    rw (name_again entry.family (index_words entry.index ++ rest) fits.0, fits.1, optional_index_again entry.index rest fits.2 next) refl

-- a name doesn't begin as a number does
high_letter : (b : ℕ) (p q r t : Bool) → leb 65 b ≡ p → leb 97 b ≡ r → ((p && q) || (r && t)) ≡ true → 58 ≤ b
high_letter b true q r t low high e = omega (arith, leb-true 65 b low)
high_letter b false q true t low high e = omega (arith, leb-true 97 b high)
high_letter b false q false t low high e = absurd cc

not_begun : (b : ℕ) → 58 ≤ b → (is_digit b || eqb b 45) ≡ false
not_begun b high = rw (le-leb 48 b (omega arith), lt-leb b 57 (omega arith), ne_eqb b 45 (λ e. omega arith)) refl

second_of : (p q r : Bool) → (p && q && r) ≡ true → q ≡ true
second_of true true r e = refl
second_of true false r e = e
second_of false q r e = absurd cc

-- a name's first byte
pub name_letter : (b : ℕ) (bytes : List ℕ) → IsTrue (is_name (b ∷ bytes)) → 58 ≤ b
name_letter b bytes form =
    high_letter b (leb 65 b) (leb b 90) (leb 97 b) (leb b 122) refl refl (second_of (leb (length bytes) 15) (is_letter b) (list_all is_name_byte bytes) form)

pub name_begins : (name : List ℕ) → IsTrue (is_name name) → begins_number name ≡ false
name_begins [] form = absurd cc
name_begins (b ∷ bytes) form = not_begun b (name_letter b bytes form)
