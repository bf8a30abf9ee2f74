use Rattle.ada_bench.proofs.published.ReadingJob.turn.Given as goal

-- the board of the history that was just made
abbrev pub ghosts-read_alone : goal.ghosts-read_alone
ghosts-read_alone g a = record { book = a.history }
