use Rattle.ada_hall_tests.proofs.threads.answers_never_go_back.Given as goal

-- the board of the history that was just made
abbrev pub ghosts-watched : goal.ghosts-watched
ghosts-watched g a = record { book = a.history }
