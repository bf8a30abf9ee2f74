use Rattle.ada_bench.proofs.published.races.Given as goal

-- the board of the history that was just made
abbrev pub ghosts-race : goal.ghosts-race
ghosts-race g a = record { book = a.history }
