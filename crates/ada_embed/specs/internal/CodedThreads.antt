-- How the table behind a handle is coded.
use base.Stored.{Coded}
use Rattle.ada_embed.specs.SealedThreads.{threads_row}

abbrev pub threads_coded : Coded threads_row.Denot
threads_coded = threads_row.coded
