use Rattle.std.proofs.Common.{refl}
use Rattle.ada_records.proofs.recording.Queries.{main_records}
use Rattle.ada_records.proofs.record.Record.of_main.Goals as goal

pub returns : goal.returns
returns c = main_records _ refl
