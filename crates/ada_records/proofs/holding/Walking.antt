-- Of a live task the tables find the same dependence as the journal, where the way outwards goes by holders.
use Rattle.ada_step_laws.specs.Holders.{IsHeld}
use Rattle.ada_laws.proofs.within.Parents.{tasks_depend_by_parents}
use Rattle.std.proofs.Common.{◌≡◌, ℕ, zero, suc, ◌<◌, Bool, true, false, ◌||◌, Option, Some, None, List, refl, sym, ap, ◌∙◌, subst, arith, inl, inr}
use Rattle.std.specs.Option.{option_map, option_map_or}
use Rattle.std.proofs.lemmas.Bool.{cases_eq, false_from_ne_true}
use Rattle.ada_events.specs.declared.event.Event.{Event}
use Rattle.ada_events.specs.declared.names.Master.{Master}
use Rattle.ada_events.specs.Says.{Creation}
use Rattle.ada_events.specs.Tasks.{task_count, creation_of}
use Rattle.ada_events.specs.Masters.{reaches as reaches_by, depends_on as depends_by}
use Rattle.ada_events.specs.Phases.{is_terminated}
use Rattle.ada_events.specs.Nests.{nest}
use Rattle.ada_events.specs.Lawful.{IsLawful}
use Rattle.ada_events.specs.Holders.{holds, encloses}
use Rattle.ada_tables.specs.Dependents.{Facts, reaches}
use Rattle.ada_records.specs.Facing.{HoldFacts}
use Rattle.ada_records.specs.internal.Facing.{SameDependents}
use Rattle.ada_step_laws.proofs.holding.Enclosing.{reaches_held}
use Rattle.ada_step_laws.proofs.holding.LiveHolders.{masters_are_held}

module _ (tasks : List Facts) (journal : List Event) (lawful : IsLawful journal) (hold : HoldFacts tasks journal) where
  none_reached : (n : ℕ) (y : Master) → reaches tasks n None y ≡ false
  unfolding reaches
  none_reached zero y = refl
  none_reached (suc n) y = none_reached n y

  mutual_step : (n t : ℕ) (y : Master) (o : Option Creation) → creation_of journal t ≡ o → is_terminated journal t ≡ false
      → ((x : Master) → IsHeld journal t x → reaches tasks t (Some x) y ≡ reaches_by journal x y)
      → reaches tasks t (option_map (λ (c : Creation). c.master) o) y
      ≡ option_map_or (λ (z : Master). reaches_by journal z y) (option_map (λ (c : Creation). c.master) o) false
  mutual_step n t y None says live walk = none_reached t y
  mutual_step n t y (Some c) says live walk = walk c.master (masters_are_held journal t c lawful says live)

  -- where a task depends, if the ways do the same
  by_master : (t : ℕ) (y : Master) → is_terminated journal t ≡ false → ((x : Master) → IsHeld journal t x → reaches tasks t (Some x) y ≡ reaches_by journal x y)
      → reaches tasks t (option_map (λ (c : Creation). c.master) (creation_of journal t)) y ≡ depends_by journal t y
  by_master t y live walk =
      mutual_step 0 t y (creation_of journal t) refl live walk ∙ sym (tasks_depend_by_parents journal (record { 0 = t }) y lawful)

  walks : (n : ℕ) (x y : Master) → n < suc (task_count journal) → IsHeld journal n x → reaches tasks n (Some x) y ≡ reaches_by journal x y
  unfolding reaches
  walks zero x y low is = absurd (omega (arith, is.before))
  walks (suc n) x y low is =
      let below : n < task_count journal = omega arith in
      elim (cases_eq is.holder n) [
        | inl same ↦
            let here : holds n (nest journal n) x ≡ true = subst (λ (t : ℕ). holds t (nest journal t) x ≡ true) same is.held in
            let live : is_terminated journal n ≡ false = subst (λ (t : ℕ). is_terminated journal t ≡ false) same is.live in
            rw (hold.facts n below, here)
            (ap (λ (b : Bool). encloses n (nest journal n) x y || b) (by_master n y live (λ z at. walks n z y (omega arith) at))
            ∙ sym (reaches_held journal n x y lawful below here))
        | inr other ↦
            let free : holds n (nest journal n) x ≡ false = false_from_ne_true _ (λ has. other (sym (is.alone n has))) in
            rw (hold.facts n below, free)
            (walks n x y (omega arith) (record {
              holder = is.holder;
              before = omega (arith, is.before, other);
              held = is.held;
              live = is.live;
              alone = is.alone;
            }))
      ]

  pub same_dependents : (y : Master) → SameDependents tasks journal y
  same_dependents y u below live =
      rw (hold.facts u below) (by_master u y live (λ x at. walks u x y (omega arith) at))
