use Rattle.ada_example.proofs.playing.journal_of.Goals as goal

pub returns : goal.returns
returns c = rw (← c.new-journal.ensures.items) c.in_ok-ending.ensures.ok
