use Rattle.ada_hall_tests.proofs.reading.board_never_opens.Given as goal

-- the board of the history that was just made
abbrev pub ghosts-all_taken : goal.ghosts-all_taken
ghosts-all_taken g a = record { book = a.history }
