use Rattle.ada_hall_tests.proofs.threads.reader_takes_the_lock.Given as goal

-- the board of the history that was just made
abbrev pub ghosts-read_beside_the_lock : goal.ghosts-read_beside_the_lock
ghosts-read_beside_the_lock g a = record { book = a.history }
