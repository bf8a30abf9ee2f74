-- The ranks of the rows.
use Rattle.std.proofs.Common.{◌≡◌, List, [], ◌∷◌, get_or, sym, refl, ap, ◌∙◌}
use Rattle.ada_step_laws.specs.declared.row.Row.{Row}
use Rattle.ada_step_laws.specs.declared.row.Row.TheVariants.{Halting, Failing, Meeting, Cancelling, Passing, Waking, Activating, Terminating, QuittingBody}
use Rattle.ada_step_laws.specs.declared.row.Row.TheVariants.{QuittingBlock, Leaving}
use Rattle.ada_step_laws.specs.Rows.{rank}

abbrev all_rows : List Row
all_rows = Halting ∷ Failing ∷ Meeting ∷ Cancelling ∷ Passing ∷ Waking ∷ Activating ∷ Terminating ∷ QuittingBody ∷ QuittingBlock ∷ Leaving ∷ []

ranked : (row : Row) → get_or all_rows (rank row) Halting ≡ row
ranked Halting = refl
ranked Failing = refl
ranked Meeting = refl
ranked Cancelling = refl
ranked Passing = refl
ranked Waking = refl
ranked Activating = refl
ranked Terminating = refl
ranked QuittingBody = refl
ranked QuittingBlock = refl
ranked Leaving = refl

-- each row has a rank of its own
pub one_rank : (a b : Row) → rank a ≡ rank b → a ≡ b
one_rank a b same = sym (ranked a) ∙ ap (λ r. get_or all_rows r Halting) same ∙ ranked b
