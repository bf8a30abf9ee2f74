use Rattle.ada_hall_tests.proofs.reading.each_read_looks.Given as goal

-- the board of the history that was just made
abbrev pub ghosts-each_read : goal.ghosts-each_read
ghosts-each_read g a = record { book = a.history }
