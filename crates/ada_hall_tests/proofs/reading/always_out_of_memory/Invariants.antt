use Rattle.ada_hall_tests.proofs.reading.always_out_of_memory.Given as goal

-- the board of the history that was just made
abbrev pub ghosts-board_offered : goal.ghosts-board_offered
ghosts-board_offered g a = record { book = a.history }
