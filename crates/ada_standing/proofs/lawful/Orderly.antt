-- Lawful journals are orderly.
use Rattle.std.proofs.Common.{List}
use Rattle.ada_events.specs.declared.event.Event.{Event}
use Rattle.ada_laws.specs.Unlimited.{IsLawfulUnlimited}
use Rattle.ada_laws.proofs.within.Parents.{masters_reach_by_parents-unlimited, tasks_depend_by_parents-unlimited}
use Rattle.ada_laws.proofs.held.Suspending.{suspended_exists-unlimited, suspended_once-unlimited}
use Rattle.ada_standing.proofs.alike.Orderly.{IsOrderly}
use Rattle.ada_standing.proofs.lawful.Climbing.{climb_of}
use Rattle.ada_standing.proofs.lawful.Living.{masters_lived_in, parents_lived_in}
use Rattle.ada_standing.proofs.lawful.Starting.{started_exist}
use Rattle.ada_standing.proofs.lawful.Waiting.{one_wait_takes, waits_end_timed}

pub lawful_orderly : (journal : List Event) → IsLawfulUnlimited journal → IsOrderly journal
lawful_orderly journal lawful = record {
  exist = λ task position held. suspended_exists-unlimited journal task position lawful held;
  once = λ task p q one other. suspended_once-unlimited journal task p q lawful one other;
  reach = λ x y known. masters_reach_by_parents-unlimited journal x y lawful known;
  depend = λ t y. tasks_depend_by_parents-unlimited journal t y lawful;
  climb = λ x known. climb_of journal x lawful known;
  masters = λ u x live depends. masters_lived_in journal u x lawful live depends;
  parents = λ p z lived is. parents_lived_in journal p z lawful lived is;
  starts = λ p task e s at says among. started_exist journal p task e s lawful at says among;
  meets = λ p q w v x y at there takes also. one_wait_takes journal p q w v x y lawful at there takes also;
  passes = λ p q w v x y at there ends also apart. waits_end_timed journal p q w v x y lawful at there ends also apart;
}
