-- Taking a member out of a nest keeps all else, since no member stands there twice.
use Rattle.std.proofs.Common.{◌≡◌, ℕ, List, [], ◌∷◌, refl, sym, ap, subst, inl, inr}
use Rattle.std.specs.List.{filter, Contains}
use Rattle.std.proofs.lemmas.Bool.{cases_eq, eq-eqb, ne_eqb}
use Rattle.ada_events.specs.declared.names.Member.{Member}
use Rattle.ada_events.specs.declared.names.Member.TheVariants.{Block, Rendezvous}
use Rattle.ada_events.specs.Nests.{nest}
use Rattle.ada_laws.proofs.searching.Gathering.{Contains-first, Contains-later}
use Rattle.ada_step_laws.specs.Changes.{is_apart_from, AreDistinct}
use Rattle.ada_step_laws.proofs.changing.Distinct.{nests_are_distinct}
use Rattle.ada_tables.specs.Dependents.{cut}
use Rattle.ada_records.specs.TableChanges.{CutsKeepTheRest}

pub all_apart : (call : ℕ) (members : List Member) → (Contains members (Rendezvous call) → ⊥) → filter (is_apart_from call) members ≡ members
all_apart call [] absent = refl
all_apart call (Block p ∷ rest) absent =
    ap (λ (xs : List Member). Block p ∷ xs) (all_apart call rest (λ has. absent (Contains-later (Block p) (Rendezvous call) rest has)))
all_apart call (Rendezvous met ∷ rest) absent =
    rw (ne_eqb met call (λ same. absent (subst (λ (n : ℕ). Contains (Rendezvous met ∷ rest) (Rendezvous n)) same (Contains-first (Rendezvous met) rest))))
    (ap (λ (xs : List Member). Rendezvous met ∷ xs) (all_apart call rest (λ has. absent (Contains-later (Rendezvous met) (Rendezvous call) rest has))))

kept_by_cut : (call : ℕ) (members : List Member) → AreDistinct members → filter (is_apart_from call) members ≡ cut call members
kept_by_cut call [] distinct = refl
kept_by_cut call (Block p ∷ rest) distinct = ap (λ (xs : List Member). Block p ∷ xs) (kept_by_cut call rest distinct.1)
kept_by_cut call (Rendezvous met ∷ rest) distinct =
    elim (cases_eq met call) [
      | inl same ↦
          rw (eq-eqb met call same)
          (all_apart call rest (λ has. distinct.0 (subst (λ (n : ℕ). Contains rest (Rendezvous n)) (sym same) has)))
      | inr other ↦ rw (ne_eqb met call other) (ap (λ (xs : List Member). Rendezvous met ∷ xs) (kept_by_cut call rest distinct.1))
    ]

pub cuts_keep_the_rest : CutsKeepTheRest
cuts_keep_the_rest journal task call lawful = kept_by_cut call (nest journal task) (nests_are_distinct journal task lawful)
