use Rattle.ada_alloc_faults.proofs.boards.try_offer.Given as goal

-- the board of the history that was just made
abbrev pub ghosts-offered : goal.ghosts-offered
ghosts-offered g a = record { book = a.history }
