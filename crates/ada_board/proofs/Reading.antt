-- What a reader keeps, and what a read gives.
use Rattle.std.proofs.Common.{◌≡◌, zero, suc, List, [], ◌∷◌, refl, subst, arith}
use Rattle.std.specs.List.{All, Contains}
use Rattle.std.proofs.lemmas.List.Elements.{All-cons, All-weaker}
use mathlib.Core.List.{IsPrefix}
use Rattle.logbook.specs.Pages.{Book}
use Rattle.ada_events.specs.declared.board.Board.{Board}
use Rattle.ada_events.specs.Boards.{AreTrue}
use Rattle.ada_laws.proofs.searching.Gathering.{Contains-first, Contains-later}
use Rattle.ada_board.specs.Histories.{KnownHistory}
use Rattle.ada_board.specs.internal.Readers.{IsReader}
use Rattle.ada_board.specs.Sights.{Sight, Reads}
use Rattle.ada_board.proofs.Beginnings.{prefix_trans}

-- what begins a list begins each list that it begins
all_later : (xs ys : List Board) (told : List (List Board)) → IsPrefix xs ys → All (λ boards. IsPrefix boards xs) told → All (λ boards. IsPrefix boards ys) told
all_later xs ys told later =
    All-weaker (λ boards. IsPrefix boards xs) (λ boards. IsPrefix boards ys) (λ boards first. prefix_trans boards xs ys first later) told

-- one that is the first, or one of others
one_of : (first old new : List Board) (others : List (List Board)) → Contains (first ∷ old ∷ []) new → Contains others old → Contains (first ∷ others) new
one_of first old new others (zero, below, same) among = subst (λ (l : List Board). Contains (first ∷ others) l) same (Contains-first first others)
one_of first old new others (suc zero, below, same) among = subst (λ (l : List Board). Contains (first ∷ others) l) same (Contains-later first old others among)
one_of first old new others (suc (suc k), below, same) among = absurd (omega arith)

-- the second of a list may stand before the first
second_first : (first second new : List Board) (others : List (List Board)) → Contains (first ∷ second ∷ others) new → Contains (second ∷ first ∷ others) new
second_first first second new others (zero, below, same) = (1, omega arith, same)
second_first first second new others (suc zero, below, same) = (0, omega arith, same)
second_first first second new others (suc (suc k), below, same) = (suc (suc k), omega (arith, below), same)

pub learnt : (book : Book) (known after : KnownHistory) (mark : List Board) (sight : Sight) → IsReader book known sight
    → after.book ≡ book → IsPrefix known.boards after.boards → IsPrefix mark after.boards → Contains (mark ∷ known.boards ∷ []) after.boards
    → IsReader book after (record { seen = sight.seen; told = mark ∷ sight.told; met = sight.met })
learnt book known after mark sight reader named later marked one = record {
  book_is = named;
  seen_first = prefix_trans sight.seen known.boards after.boards reader.seen_first later;
  told_first = All-cons (λ boards. IsPrefix boards after.boards) mark sight.told marked
      (all_later known.boards after.boards sight.told later reader.told_first);
  met_first = prefix_trans sight.met known.boards after.boards reader.met_first later;
  one = second_first mark sight.seen after.boards sight.told (one_of mark known.boards after.boards (sight.seen ∷ sight.told) one reader.one);
}

pub reads : (book : Book) (known after : KnownHistory) (sight : Sight) (met : List Board) → IsReader book known sight
    → IsPrefix known.boards after.boards → AreTrue after.boards → IsPrefix sight.met met → IsPrefix met after.boards
    → Contains (met ∷ known.boards ∷ []) after.boards → Reads sight (record { seen = after.boards; told = []; met = met })
reads book known after sight met reader later kept grows first one = record {
  true_list = kept;
  seen = prefix_trans sight.seen known.boards after.boards reader.seen_first later;
  told = all_later known.boards after.boards sight.told later reader.told_first;
  fresh = refl;
  met = grows;
  met_first = first;
  one = one_of met known.boards after.boards (sight.seen ∷ sight.told) one reader.one;
}
