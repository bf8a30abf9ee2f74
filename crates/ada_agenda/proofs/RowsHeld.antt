-- Sets of numbers in rows.
use Rattle.std.proofs.Common.{◌≡◌, ◌≢◌, ◌⊎◌, ℕ, zero, suc, ◌-◌, ◌≤◌, false, List, [], ◌∷◌, ◌++◌, length, get_or, refl, sym, ap, ◌∙◌, arith, inl, inr}
use Rattle.std.proofs.lemmas.Bool.{cases_lt, true≢false, false_from_ne_true}
use Rattle.std.proofs.lemmas.List.{get_or_past, get_or_append_left, get_or-append_right}
use Rattle.ada_step_laws.specs.declared.row.Row.{Row}
use Rattle.ada_step_laws.specs.Rows.{rank}
use Rattle.ada_step_laws.proofs.rows.Ranks.{one_rank}
use Rattle.ada_agenda.specs.Bits.{has}
use Rattle.ada_agenda.specs.Keeping.{has_key}
use Rattle.ada_agenda.specs.Rows.{keeps}
use Rattle.ada_agenda.specs.internal.Rows.{AreFilled}
use Rattle.ada_agenda.proofs.ThreeLevels.{none_held}

-- another row has another place
pub other_place : (row other : Row) (n k : ℕ) → (other ≢ row) ⊎ (k ≢ n) → (rank other ≢ rank row) ⊎ (k ≢ n)
other_place row other n k (inl apart) = inl (λ same. apart (one_rank other row same))
other_place row other n k (inr apart) = inr apart

-- there is nothing beyond the last row
pub none_beyond : (rows : List (List ℕ)) (r k : ℕ) → length rows ≤ r → keeps rows r k ≡ false
none_beyond rows r k beyond =
    ap (λ words. has words k) (get_or_past rows r [] beyond) ∙ none_held [] k (λ w. get_or_past [] w 0 (omega arith))

-- one row with nothing in it
pub one_row : (words : List ℕ) → ((k : ℕ) → has words k ≡ false) → (r k : ℕ) → keeps (words ∷ []) r k ≡ false
one_row words empty zero k = empty k
one_row words empty (suc r) k = none_beyond (words ∷ []) (suc r) k (omega arith)

-- one more row with nothing in it
pub none_with : (rows : List (List ℕ)) (words : List ℕ) → ((r k : ℕ) → keeps rows r k ≡ false) → ((k : ℕ) → has words k ≡ false) → (r k : ℕ)
    → keeps (rows ++ words ∷ []) r k ≡ false
none_with rows words none empty r k = elim (cases_lt r (length rows)) [
  | inl within ↦ ap (λ ws. has ws k) (get_or_append_left rows (words ∷ []) [] r within) ∙ none r k
  | inr beyond ↦
      let last : get_or (rows ++ words ∷ []) r [] ≡ get_or (words ∷ []) (r - length rows) [] = get_or-append_right rows (words ∷ []) (length rows) r []
      refl beyond in
      ap (λ ws. has ws k) last ∙ one_row words empty (r - length rows) k
]

abbrev no_bit : List ℕ
no_bit = 0 ∷ []

-- a word that is 0 alone holds no number
no_bits : (words : List ℕ) (r : ℕ) → length words ≡ 1 → get_or words 0 0 ≡ 0 → has words r ≡ false
no_bits words r one zeroth = none_held words r (λ w. elim (cases_lt w 1) [
  | inl first ↦ let is : w ≡ 0 = omega (arith, first) in ap (λ i. get_or words i 0) is ∙ zeroth
  | inr past ↦ get_or_past words w 0 (omega (arith, past, one))
])

-- no row has a number yet
pub none_filled : (rows : List (List ℕ)) → length rows ≡ 11 → ((r k : ℕ) → keeps rows r k ≡ false) → AreFilled rows no_bit
none_filled rows many none = record {
  one = refl;
  many = many;
  told = λ r k kept. absurd (true≢false (sym kept ∙ none r k));
  known = λ r bit. absurd (true≢false (sym bit ∙ no_bits no_bit r refl refl));
}

-- where no row has a bit, none has a number
pub none_kept : (rows : List (List ℕ)) (filled : List ℕ) → AreFilled rows filled → get_or filled 0 0 ≡ 0 → (row : Row) (k : ℕ) → has_key rows row k ≡ false
none_kept rows filled tied none row k =
    false_from_ne_true (has_key rows row k) (λ kept. true≢false (sym (tied.told (rank row) k kept) ∙ no_bits filled (rank row) tied.one none))
