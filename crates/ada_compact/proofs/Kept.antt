-- Tasks that are kept may still be named.
use Rattle.std.proofs.Common.{◌≡◌, ℕ, Bool, true, false, not, ◌||◌, Option, Some, None, List, [], ◌∷◌, refl, sym, ap, ◌∙◌, inl, inr}
use Rattle.std.specs.Prelude.{◌==◌, is_some}
use Rattle.std.specs.List.{list_all}
use Rattle.std.proofs.lemmas.Bool.{and_parts, or_cases, eqb-true, false≢true}
use Rattle.ada_events.specs.declared.event.Event.{Event}
use Rattle.ada_events.specs.declared.names.TaskNo.{TaskNo}
use Rattle.ada_events.specs.Phases.{lists_task}
use Rattle.ada_events.specs.Tasks.{has_task}
use Rattle.ada_standing.specs.Renaming.{Renaming}
use Rattle.ada_compact.specs.Kept.{AreNamed}
use Rattle.ada_compact.specs.internal.Keeping.{is_named}

-- what each task of a list passes, a listed one does
each_listed : (test : ℕ → Bool) (tasks : List TaskNo) (u : ℕ) → list_all (λ (t : TaskNo). test t.0) tasks ≡ true → lists_task u tasks ≡ true
    → test u ≡ true
each_listed test [] u all listed = absurd (false≢true listed)
each_listed test (t ∷ rest) u all listed =
    let both = and_parts (test t.0) (list_all (λ (t : TaskNo). test t.0) rest) all in
    elim (or_cases (t.0 == u) (lists_task u rest) listed) [
      | inl here ↦ ap test (sym (eqb-true t.0 u here)) ∙ both.0
      | inr later ↦ each_listed test rest u both.1 later
    ]

name_there : (exists : Bool) (o : Option ℕ) → (not exists || is_some o) ≡ true → exists ≡ true → (v : ℕ) × (o ≡ Some v)
name_there true (Some v) named exists = (v, refl)
name_there true None named exists = absurd (false≢true named)
name_there false o named exists = absurd (false≢true exists)

pub all_named : (journal : List Event) (names : Renaming) (tasks : List TaskNo)
    → list_all (λ (t : TaskNo). is_named journal names t.0) tasks ≡ true → AreNamed journal names tasks
all_named journal names tasks all u listed exists =
    name_there (has_task journal u) (names.task u) (each_listed (is_named journal names) tasks u all listed) exists
