use Rattle.ada_alloc_faults.proofs.halls.try_hall.Given as goal

-- the board of the history that was just made, the script that was read, and the blank ledger
abbrev pub ghosts-made-J-Naming : goal.ghosts-made-J-Naming
ghosts-made-J-Naming g a = record { book = a.history }

abbrev pub ghosts-made-J-Ledger : goal.ghosts-made-J-Ledger
ghosts-made-J-Ledger g a = record { name = a.blank.name; parts = a.blank.parts }

abbrev pub ghosts-made-J-Session : goal.ghosts-made-J-Session
ghosts-made-J-Session g a = record { script = a.script.now }

abbrev pub ghosts-played-J-Naming : goal.ghosts-played-J-Naming
ghosts-played-J-Naming g a = record { book = a.history }

abbrev pub ghosts-played-J-Ledger : goal.ghosts-played-J-Ledger
ghosts-played-J-Ledger g a = record { name = a.blank.name; parts = a.blank.parts }

abbrev pub ghosts-played-J-Session : goal.ghosts-played-J-Session
ghosts-played-J-Session g a = record { script = a.script.now }
