-- What is known of the present journal.
use Rattle.std.specs.Prelude.{◌≡◌, ℕ, Bool, if◌then◌else◌, length}
use Rattle.ada_events.specs.Lawful.{IsLawful, IsSettled}
use Rattle.ada_lasting.specs.Naming.{Naming}
use Rattle.ada_lasting.specs.internal.Keeping.{AreInOrder, with_task}
use Rattle.ada_lasting.specs.Following.{Long}

-- the present journal is lawful and settled, and the names know how long it is
pub record IsPresent (kernel : Long) : Type 0 where
  pub lawful : IsLawful kernel.present
  pub settled : IsSettled kernel.present
  pub short : length kernel.present ≡ kernel.names.until
  pub order : AreInOrder kernel.names

-- the names with one for a task more, which has this number in the present journal, if one is made
abbrev pub named_next : Bool → Naming → ℕ → Naming
named_next more names task = if more then with_task names task else names
