-- The law, as its lemmas prove it.
use Rattle.ada_laws.proofs.boards.ShowingLaws.{new_boards_are_true, answers_are_shown}
use Rattle.ada_laws.proofs.showing.new_boards_are_true.Goals as goal

pub returns-clause-later : goal.returns-clause-later
returns-clause-later c = new_boards_are_true

pub returns-clause-answers : goal.returns-clause-answers
returns-clause-answers c = answers_are_shown
