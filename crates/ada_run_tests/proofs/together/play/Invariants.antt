use Rattle.ada_run_tests.proofs.together.play.Given as goal

-- the board of the history that was just made, the script that was read, and the blank ledger
abbrev pub ghosts-play_script-J-Naming : goal.ghosts-play_script-J-Naming
ghosts-play_script-J-Naming g a = record { book = a.history }

abbrev pub ghosts-play_script-J-Ledger : goal.ghosts-play_script-J-Ledger
ghosts-play_script-J-Ledger g a = record { name = a.blank.name; parts = a.blank.parts }

abbrev pub ghosts-play_script-J-Session : goal.ghosts-play_script-J-Session
ghosts-play_script-J-Session g a = record { script = a.script.now }
