use Rattle.ada_run.proofs.running.run.Given as goal

abbrev pub ghosts-run_with-J-Ledger : goal.ghosts-run_with-J-Ledger
ghosts-run_with-J-Ledger g a = record { name = a.blank.name; parts = a.blank.parts }

abbrev pub ghosts-run_with-J-Naming : goal.ghosts-run_with-J-Naming
ghosts-run_with-J-Naming g a = record { book = a.history }

abbrev pub ghosts-run_with-J-Session : goal.ghosts-run_with-J-Session
ghosts-run_with-J-Session g a = record { script = a.script.now }
