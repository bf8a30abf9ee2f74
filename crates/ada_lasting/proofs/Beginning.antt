-- At the beginning the kernel follows the empty journal.
use Rattle.std.proofs.Common.{◌≡◌, ℕ, zero, suc, ◌<◌, true, not, Some, [], map, refl, sym, ap, inl, arith}
use Rattle.std.specs.Prelude.{◌-◌}
use Rattle.std.proofs.lemmas.Bool.{and_parts, ltb-true, lt-ltb, lt-leb, ne_eqb}
use Rattle.std.specs.Option.{option_and_then}
use Rattle.std.proofs.lemmas.List.Elements.{All-nil}
use Rattle.std.proofs.lemmas.Option.{none-some, same_Some}
use Rattle.ada_events.specs.Tasks.{task_count, has_task, creation_of}
use Rattle.ada_events.specs.Phases.{is_terminated, is_completed}
use Rattle.ada_events.specs.Nests.{nest}
use Rattle.ada_events.specs.Search.{event_at, gathered}
use Rattle.ada_events.specs.Outcomes.{outcome_of, last_given}
use Rattle.ada_laws.proofs.asking.GroupLaws.{empty_is_settled}
use Rattle.ada_standing.specs.Renaming.{Renaming, renamed_outcome, renamed_member}
use Rattle.ada_standing.specs.StandsIn.{StandsIn, is_live, activator_of}
use Rattle.ada_lasting.specs.Naming.{found, renaming_of}
use Rattle.ada_lasting.specs.internal.Keeping.{first_names}
use Rattle.ada_lasting.specs.Following.{Long, Follows}
use Rattle.ada_lasting.specs.Remembering.{IsRemembered, KnowsMasters}

abbrev names : Renaming
names = renaming_of first_names

alone : (u v : ℕ) → names.task u ≡ Some v → (u ≡ 0) × (v ≡ 0)
unfolding found
alone zero v is = (refl, sym (same_Some 0 v is))
alone (suc u) v is = absurd (none-some v (rw (ne_eqb 0 (suc u) (λ same. omega (arith, same))) at is))

nowhere : (p q : ℕ) → names.position p ≡ Some q → ⊥
unfolding found
nowhere zero q is = none-some q is
nowhere (suc p) q is = none-some q (rw (lt-ltb 0 (suc p) (omega arith), lt-leb (suc p - 0) (0 - 0) (omega arith)) at is)

live_alone : (u : ℕ) → is_live [] u ≡ true → u ≡ 0
unfolding task_count
live_alone u live =
    let below : u < 1 = ltb-true u 1 (and_parts (has_task [] u) (not (is_terminated [] u)) live).0 in
    omega (arith, below)

nothing_done : renamed_outcome names (outcome_of [] 0) ≡ Some (outcome_of [] 0)
unfolding renamed_outcome outcome_of is_completed is_terminated last_given
nothing_done = refl

no_member : map Some (nest [] 0) ≡ map (renamed_member names) (nest [] 0)
unfolding nest gathered
no_member = refl

no_activator : activator_of [] 0 ≡ option_and_then names.task (activator_of [] 0)
unfolding activator_of creation_of
no_activator = refl

pub stands_empty : StandsIn [] [] names
unfolding found task_count creation_of is_terminated is_completed nest event_at
stands_empty = record {
  moments = refl;
  tasks = record {
    main = refl;
    live = λ u live. (0, ap names.task (live_alone u live));
    rising = λ s t u v first second less. absurd (omega (arith, (alone s u first).0, (alone t v second).0, less));
    others = λ v live. (0, ap Some (sym (live_alone v live)));
  };
  positions = record {
    within = λ p a is. absurd (nowhere p a is);
    one = λ p q a is also. absurd (nowhere p a is);
    holds = λ s t p q a b d e same is also less. absurd (nowhere p a is);
    blocks = λ s t p q a b live also inner too is named less. absurd (nowhere p a is);
  };
  same = λ u v is. rw ((alone u v is).0, (alone u v is).1) (record {
    existed = refl;
    exists = refl;
    terminated = refl;
    families = refl;
    activator = no_activator;
    outcome = nothing_done;
  });
  dependents = λ u v is live. rw ((alone u v is).0, (alone u v is).1) (record {
    master = refl;
    completed = refl;
    named = refl;
    within = λ unnamed. refl;
    abandoned = refl;
  });
  nests = λ u v is live. rw ((alone u v is).0, (alone u v is).1) (record {
    members = no_member;
    blocks = λ p q among placed. absurd (nowhere p q placed);
  });
  active = λ u v is live. rw ((alone u v is).0, (alone u v is).1) (record {
    started = refl;
    elaborated = refl;
    abnormal = refl;
    suspended = refl;
    held = λ p held. absurd (none-some held.event held.stands);
  });
}

-- the main program alone has a name, and no master
no_masters : KnowsMasters [] first_names []
no_masters = record { right = All-nil (IsRemembered []); complete = λ u v is other. absurd (other (alone u v is).0) }

-- a kernel whose present journal is empty, with the first names, follows the empty journal
pub begins : (kernel : Long) → kernel.present ≡ [] → kernel.names ≡ first_names → kernel.masters ≡ [] → kernel.group ≡ [] → Follows [] kernel
unfolding task_count
begins kernel empty first nobody nothing = record {
  lawful = tt;
  settled = empty_is_settled;
  stands = rw (empty, first) stands_empty;
  shown = rw nothing refl;
  before = inl nothing;
  length = rw first refl;
  made = rw first refl;
  masters = rw (first, nobody) no_masters;
}
