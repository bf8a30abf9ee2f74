-- The rule between any two steps is kept by looks, publications and new places.
use Rattle.std.proofs.Common.{◌≡◌, ℕ, ◌≢◌, List, [], ◌∷◌, ◌++◌, set, refl, subst, ⊎_elim}
use mathlib.Core.List.{IsPrefix}
use mathlib.Core.Option.{some}
use lib.ListN.{get_elem?}
use Rattle.atomic_table.proofs.Lists.{at_set, at_snoc}
use Rattle.logbook.specs.Pages.{Book}
use Rattle.ada_events.specs.declared.board.Board.{Board}
use Rattle.ada_events.specs.Boards.{AreTrue}
use Rattle.ada_board.specs.Histories.{KnownHistory}
use Rattle.ada_board.specs.Publishing.{IsPublic, Follows}
use Rattle.ada_board.proofs.Beginnings.{prefix_refl, prefix_trans}

-- a place that has seen nothing
pub joined : (book : Book) (published : KnownHistory) (seen : List (List Board)) → IsPublic book published seen → IsPublic book published (seen ++ [] ∷ [])
joined book published seen rule = record {
  book_is = rule.book_is;
  true_list = rule.true_list;
  each = λ place boards at. ⊎_elim (λ (old : get_elem? seen place ≡ some boards). rule.each place boards old)
      (λ (e : [] ≡ boards). let P : List Board → Type 0 = λ l. IsPrefix l published.boards in subst P e (published.boards, refl))
      (at_snoc seen [] boards place at);
}

-- a step that lengthens the published list, or leaves it
pub follows : (book : Book) (place : ℕ) (seen : List Board) (before after : KnownHistory) → after.book ≡ book → AreTrue after.boards
    → IsPrefix before.boards after.boards
    → (all : List (List Board)) → IsPublic book before all → get_elem? all place ≡ some seen
    → (now : List Board) × IsPublic book after (set all place now) × Follows book seen before after now
follows book place seen before after named kept grows all rule at = (
  after.boards,
  record {
    book_is = named;
    true_list = kept;
    each = λ j boards e. ⊎_elim
        (λ (t : (j ≡ place) × (after.boards ≡ boards)). let P : List Board → Type 0 = λ l. IsPrefix l after.boards in subst P t.1 (prefix_refl after.boards))
        (λ (t : (j ≢ place) × (get_elem? all j ≡ some boards)). prefix_trans boards before.boards after.boards (rule.each j boards t.1) grows)
        (at_set all place j after.boards boards e);
  },
  record {
    book_is = named;
    true_list = kept;
    grows = grows;
    later = prefix_trans seen before.boards after.boards (rule.each place seen at) grows;
    whole = refl;
  },
)
