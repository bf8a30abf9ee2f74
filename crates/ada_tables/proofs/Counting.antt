-- Going inwards through a nest to a block, layer by layer.
use Rattle.std.proofs.Common.{◌≡◌, ℕ, ◌+◌, ◌<◌, ◌≤◌, true, false, List, ◌∷◌, ◌++◌, length, get_or, set, take, drop, refl, ap, sym, ◌∙◌, arith}
use Rattle.std.proofs.lemmas.List.{drop_more, drop_all, take_all, take_more_set, drop-set-lt, append_assoc, append-nil, length-set, take-append-drop, drop-drop}
use Rattle.ada_tables.specs.declared.layers.Layer.{Layer}
use Rattle.ada_tables.specs.internal.Layers.{moved, moved_to, is_block_at}

-- the layers so far are counted, and the others are as they were
pub record IsCounted (count : ℕ → ℕ) (block : ℕ) (old now : List Layer) (at : ℕ) : Type 0 where
  pub done : moved_to count block old ≡ take at now ++ moved_to count block (drop at now)
  pub rest : drop at now ≡ drop at old
  pub long : length now ≡ length old

module _ (count : ℕ → ℕ) (block : ℕ) (old now : List Layer) (at : ℕ) where
  module _ (so_far : IsCounted count block old now at) where
    pub counting_ends : length now ≤ at → moved_to count block old ≡ now
    unfolding moved_to
    counting_ends past = so_far.done ∙ rw (drop_all at now past, take_all at now past) (append-nil now)

    module _ (read write : Layer) (within : at < length now) (read_is : read ≡ get_or now at read) (write_is : write ≡ moved count read) where
      head_is : drop at now ≡ read ∷ drop (at + 1) now
      head_is = drop_more now at read within ∙ ap (λ (x : Layer). x ∷ drop (at + 1) now) (sym read_is)

      pub counting_goes_on : is_block_at block read ≡ false → IsCounted count block old (set now at write) (at + 1)
      unfolding moved_to
      counting_goes_on other =
          let later : drop (at + 1) (set now at write) ≡ drop (at + 1) now = drop-set-lt (at + 1) now at write (omega arith) in
          let step : moved_to count block (drop at now) ≡ write ∷ moved_to count block (drop (at + 1) now) = rw (head_is, other, write_is) refl in
          record {
            done = so_far.done ∙ rw (take_more_set now at write within, later, append_assoc, step) refl;
            rest = later ∙ sym (drop-drop 1 at now) ∙ ap (drop 1) so_far.rest ∙ drop-drop 1 at old;
            long = length-set now at write ∙ so_far.long;
          }

      pub counting_stops : is_block_at block read ≡ true → moved_to count block old ≡ set now at write
      unfolding moved_to
      counting_stops here =
          let later : drop (at + 1) (set now at write) ≡ drop (at + 1) now = drop-set-lt (at + 1) now at write (omega arith) in
          let step : moved_to count block (drop at now) ≡ write ∷ drop (at + 1) now = rw (head_is, here, write_is) refl in
          so_far.done ∙ rw step (sym (sym (take-append-drop (at + 1) (set now at write)) ∙ rw (take_more_set now at write within, later, append_assoc) refl))
