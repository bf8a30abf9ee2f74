use Rattle.ada_hall_tests.proofs.scene.played.Given as goal

-- the board of the history that was just made, the script, and the blank ledger
abbrev pub ghosts-played_in-J-Naming : goal.ghosts-played_in-J-Naming
ghosts-played_in-J-Naming g a = record { book = a.history }

abbrev pub ghosts-played_in-J-Ledger : goal.ghosts-played_in-J-Ledger
ghosts-played_in-J-Ledger g a = record { name = a.blank.name; parts = a.blank.parts }

abbrev pub ghosts-played_in-J-Session : goal.ghosts-played_in-J-Session
ghosts-played_in-J-Session g a = record { script = a.script.now }
