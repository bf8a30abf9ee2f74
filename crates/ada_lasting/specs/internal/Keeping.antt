-- How names are kept: in order, at the beginning, for one more task, and for a longer present journal.
use Rattle.std.specs.Prelude.{◌≡◌, ◌≤◌, ℕ, suc, Bool, true, ◌&&◌, nat_lt, nat_le, List, [], ◌∷◌, ◌++◌}
use Rattle.std.specs.List.{list_all}
use Rattle.ada_lasting.specs.declared.rows.Row.{Row}
use Rattle.ada_lasting.specs.Naming.{Naming}

-- the lasting names rise, from the one number on, and are below the other
unfoldable pub rises_between : ℕ → ℕ → List Row → Bool
rises_between low high [] = true
rises_between low high (row ∷ rest) = nat_le low row.lasting && nat_lt row.lasting high && rises_between (suc row.lasting) high rest

-- the names are in order: those of the tasks and of the places rise, and the present journal grows
pub record AreInOrder (names : Naming) : Type 0 where
  pub tasks : rises_between 0 names.made names.tasks ≡ true
  pub places : rises_between 0 (suc names.since) names.places ≡ true
  pub grows : names.from ≤ names.until

-- what the rows name are numbers of tasks
abbrev pub name_tasks : List Row → Bool
name_tasks rows = list_all (λ (row : Row). nat_lt row.present 65536) rows

-- the names at the beginning: of the main program alone
abbrev pub first_names : Naming
first_names = record {
  tasks = (record { lasting = 0; present = 0 } ∷ []);
  places = [];
  made = 1;
  since = 0;
  from = 0;
  until = 0;
}

-- names for one more task, which has this number in the present journal
abbrev pub with_task : Naming → ℕ → Naming
with_task names present = record {
  tasks = names.tasks ++ (record { lasting = names.made; present = present } ∷ []);
  places = names.places;
  made = suc names.made;
  since = names.since;
  from = names.from;
  until = names.until;
}

-- names for a longer present journal
abbrev pub grown_to : Naming → ℕ → Naming
grown_to names until = record {
  tasks = names.tasks;
  places = names.places;
  made = names.made;
  since = names.since;
  from = names.from;
  until = until;
}
