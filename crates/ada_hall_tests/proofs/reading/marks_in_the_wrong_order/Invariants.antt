use Rattle.ada_hall_tests.proofs.reading.marks_in_the_wrong_order.Given as goal

-- the board of the history that was just made
abbrev pub ghosts-learnt_backwards : goal.ghosts-learnt_backwards
ghosts-learnt_backwards g a = record { book = a.history }
