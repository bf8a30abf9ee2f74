-- The flag of a command line, read among the rows of its subcommand.
use Rattle.std.proofs.Common.{◌≡◌, ℕ, false, Option, List, ap, ◌∙◌, codes}
use Rattle.std.specs.Option.{option_map_or}
use Rattle.std.specs.Str.{bytes_eq}
use Rattle.clap.specs.Words.{first_value, rows_of}
use Rattle.clap.specs.declared.parser.matches.Found.{Found}
use Rattle.clap.proofs.WalkLemmas.{first_value-rows}
use Rattle.ada_run.specs.Orders.{is_free}

pub free_is : (f : Found) (value : Option (List ℕ)) → value ≡ first_value f (codes "free")
    → option_map_or (λ (text : List ℕ). bytes_eq text (codes "true")) value false ≡ is_free (rows_of f)
free_is f value is = ap (λ t. option_map_or (λ (text : List ℕ). bytes_eq text (codes "true")) t false) (is ∙ first_value-rows f (codes "free"))
