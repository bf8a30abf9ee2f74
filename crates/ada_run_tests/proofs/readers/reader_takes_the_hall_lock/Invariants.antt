use Rattle.ada_run_tests.proofs.readers.reader_takes_the_hall_lock.Given as goal

-- the board of the history that was just made, the script that was read, and the blank ledger
abbrev pub ghosts-seen_beside-J-Naming : goal.ghosts-seen_beside-J-Naming
ghosts-seen_beside-J-Naming g a = record { book = a.history }

abbrev pub ghosts-seen_beside-J-Ledger : goal.ghosts-seen_beside-J-Ledger
ghosts-seen_beside-J-Ledger g a = record { name = a.blank.name; parts = a.blank.parts }

abbrev pub ghosts-seen_beside-J-Session : goal.ghosts-seen_beside-J-Session
ghosts-seen_beside-J-Session g a = record { script = a.script.now }
