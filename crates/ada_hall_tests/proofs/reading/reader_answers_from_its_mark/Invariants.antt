use Rattle.ada_hall_tests.proofs.reading.reader_answers_from_its_mark.Given as goal

-- the board of the history that was just made
abbrev pub ghosts-row_played : goal.ghosts-row_played
ghosts-row_played g a = record { book = a.history }
