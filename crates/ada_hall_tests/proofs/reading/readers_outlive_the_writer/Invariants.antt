use Rattle.ada_hall_tests.proofs.reading.readers_outlive_the_writer.Given as goal

-- the board of the history that was just made
abbrev pub ghosts-outlived : goal.ghosts-outlived
ghosts-outlived g a = record { book = a.history }
