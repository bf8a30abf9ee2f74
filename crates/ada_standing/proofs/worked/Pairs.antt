-- What stands for what in a pair of journals, and what has to be opened to compute it.
use Rattle.std.specs.Prelude.{ℕ}
use Rattle.ada_events.specs.Outcomes.{raised_in, choice_met, released_to, became, last_given, outcome_at, outcome_of}
use Rattle.ada_events.proofs.worked.Turns.{everything as every_rule}
use Rattle.ada_standing.specs.declared.renaming.Place.{Place}
use Rattle.ada_standing.specs.Renaming.{renamed_master, renamed_member, renamed_outcome}
use Rattle.ada_standing.specs.Names.{placed}
use Rattle.ada_standing.specs.StandsIn.{activator_of}
use Rattle.ada_standing.proofs.Deciding.{stands}

-- opens every definition
unfoldable pub everything : Unit {0}
unfolding every_rule raised_in choice_met released_to became last_given outcome_at outcome_of renamed_master renamed_member renamed_outcome placed
    activator_of stands
everything = tt

-- a position, and the position that stands for it
abbrev pub place : ℕ → ℕ → Place
place p q = record { old = p; new = q }
