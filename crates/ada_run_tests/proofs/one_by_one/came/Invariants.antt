use Rattle.ada_run_tests.proofs.one_by_one.came.Given as goal

-- the board of the history that was just made, the script that was read, and the blank ledger
abbrev pub ghosts-played-J-Naming : goal.ghosts-played-J-Naming
ghosts-played-J-Naming g a = record { book = a.history }

abbrev pub ghosts-played-J-Ledger : goal.ghosts-played-J-Ledger
ghosts-played-J-Ledger g a = record { name = a.blank.name; parts = a.blank.parts }

abbrev pub ghosts-played-J-Session : goal.ghosts-played-J-Session
ghosts-played-J-Session g a = record { script = a.script.now }
