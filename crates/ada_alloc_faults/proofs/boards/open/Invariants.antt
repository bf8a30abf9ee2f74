use Rattle.ada_alloc_faults.proofs.boards.open.Given as goal

-- the board of the history that was just made
abbrev pub ghosts-opened : goal.ghosts-opened
ghosts-opened g a = record { book = a.history }
