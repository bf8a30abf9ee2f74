-- The law, as its lemmas prove it.
use Rattle.ada_laws.proofs.boards.ShowingLaws.{no_boards_are_true, boards_stay_true}
use Rattle.ada_laws.proofs.showing.boards_stay_true.Goals as goal

pub returns-clause-none : goal.returns-clause-none
returns-clause-none c = no_boards_are_true

pub returns-clause-more : goal.returns-clause-more
returns-clause-more c = boards_stay_true
