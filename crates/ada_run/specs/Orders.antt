-- The command line: what its words order, by the words of `clap`.
use Rattle.std.specs.Prelude.{Bool, true, false, if◌then◌else◌, List, Option, Some, None, codes}
use Rattle.std.specs.Option.{option_map_or}
use Rattle.std.specs.Str.{bytes_eq}
use Rattle.clap.specs.Words.{App, Row, Rule, Shape, Text, Kinds, first_of, new_app, new_rule, with_rule, with_subcommand, subcommand_of}
use Rattle.clap.specs.Simple.{on_top}
use Rattle.clap.specs.Faults.{fault_of}
use Rattle.clap.specs.declared.builder.action.ArgAction.TheVariants.{SetTrue}
use Rattle.ada_run.specs.declared.order.Order.{Order}
use Rattle.ada_run.specs.declared.order.Order.TheVariants.{Replay, Run, RunFree}

abbrev pub replay_command : App
replay_command = new_app (codes "replay")

-- the flag `--free`, which is set or not
abbrev pub free_flag : Rule
free_flag = record (new_rule (codes "free")) { long = Some (codes "free"); action = Some SetTrue }

abbrev pub run_command : App
run_command = with_rule (new_app (codes "run")) free_flag

-- the program, which has a version
abbrev pub bare : App
bare = on_top (λ (s : Shape). record s { has_version = true }) (new_app (codes "adatask"))

-- the program with its two subcommands `replay` and `run`
abbrev pub adatask : App
adatask = with_subcommand (with_subcommand bare replay_command.top) run_command.top

-- the flag was met
abbrev pub is_free : List Row → Bool
is_free rows = option_map_or (λ text. bytes_eq text (codes "true")) (first_of (codes "free") rows) false

-- what the subcommand that was met orders: `run` to run, with its flag as the threads come; another, or none, to replay
abbrev pub ordered : Option (Text × List Row) → Order
ordered None = Replay
ordered (Some subcommand) =
    if bytes_eq subcommand.0 (codes "run") then (if is_free subcommand.1 then RunFree else Run) else Replay

-- what the words of a command line order, the program's own name first
abbrev pub order_named : List Text → Order
order_named words = ordered (subcommand_of adatask words)

-- why the words are refused, or answered with help or the version; empty where they aren't
abbrev pub refused_kinds : List Text → Kinds
refused_kinds words = fault_of adatask words
