use Rattle.ada_bench.proofs.published.PublishingJob.turn.Given as goal

-- the board of the history that was just made
abbrev pub ghosts-publish_alone : goal.ghosts-publish_alone
ghosts-publish_alone g a = record { book = a.history }
