-- One more event of two journals of which the second stands in for the first, and what the names after it say.
use Rattle.std.proofs.Common.{◌≡◌, ℕ, suc, ◌<◌, ◌≤◌, true, false, ◌&&◌, eqb, Some, List, ◌∷◌, length, refl, sym, ap, ◌∙◌}
use Rattle.std.proofs.Common.{arith, ◌⊎◌, inl, inr, is_some}
use Rattle.std.specs.Option.{option_map}
use Rattle.std.proofs.lemmas.Bool.{cases_Bool, cases_eq, and_parts, and_right, eq-eqb, eqb-true, ne_eqb, ltb-true}
use Rattle.std.proofs.lemmas.Option.{same_Some}
use Rattle.ada_events.specs.declared.event.Event.{Event}
use Rattle.ada_events.specs.declared.names.Master.{Master}
use Rattle.ada_events.specs.declared.names.Master.TheVariants.{Body, Block}
use Rattle.ada_events.specs.declared.names.Member.{Member}
use Rattle.ada_events.specs.declared.names.Member.TheVariants.{Block as BlockMember, Rendezvous}
use Rattle.ada_events.specs.Says.{creation_in}
use Rattle.ada_events.specs.Tasks.{task_count}
use Rattle.ada_events.specs.Phases.{is_completed, is_terminated}
use Rattle.ada_events.specs.Forced.{task_no}
use Rattle.ada_laws.proofs.searching.Searching.{option_map-some}
use Rattle.ada_standing.specs.Renaming.{Renaming, renamed_master, renamed_member, renamed_event}
use Rattle.ada_standing.specs.internal.Next.{next_names}
use Rattle.ada_standing.specs.StandsIn.{StandsIn}
use Rattle.ada_standing.proofs.alike.Orderly.{IsOrderly}
use Rattle.ada_standing.proofs.held.Renamed.{IsRenamed, is_renamed}
use Rattle.ada_standing.proofs.held.Fitting.{FitsHeld}

pub record AreNext (old new : List Event) (names : Renaming) (event copy : Event) : Type 0 where
  pub stands : StandsIn old new names
  pub orderly : IsOrderly old
  pub also : IsOrderly new
  pub fits : FitsHeld old event
  pub fitted : FitsHeld new copy
  pub renamed : renamed_event names event ≡ Some copy

-- what is used of the tasks after the event: those that stand for others are terminated alike, and completed alike

abbrev pub TerminatedKept : (old new : List Event) (names : Renaming) (event copy : Event) → Type 0
TerminatedKept old new names event copy =
    (u v : ℕ) → (next_names old new event names).task u ≡ Some v → is_terminated (copy ∷ new) v ≡ is_terminated (event ∷ old) u

abbrev pub CompletedKept : (old new : List Event) (names : Renaming) (event copy : Event) → Type 0
CompletedKept old new names event copy =
    (u v : ℕ) → (next_names old new event names).task u ≡ Some v → is_terminated (event ∷ old) u ≡ false
    → is_completed (copy ∷ new) v ≡ is_completed (event ∷ old) u

module _ (old new : List Event) (names : Renaming) (event copy : Event) (next : AreNext old new names event copy) where
  pub is_like : IsRenamed names event copy
  is_like = is_renamed names event copy next.renamed

  pub task_existed : (u v : ℕ) → names.task u ≡ Some v → u < task_count old
  task_existed u v named = ltb-true u (task_count old) (next.stands.same u v named).existed

  pub task_exists : (u v : ℕ) → names.task u ≡ Some v → v < task_count new
  task_exists u v named = ltb-true v (task_count new) (next.stands.same u v named).exists

  -- who stood for a task still does
  pub task_later : (u v : ℕ) → names.task u ≡ Some v → (next_names old new event names).task u ≡ Some v
  task_later u v named =
      rw (and_right (is_some (creation_in event)) (eqb u (task_count old))
      (ne_eqb u (task_count old) (λ same. omega (arith, same, task_existed u v named)))) named

  -- a task is new, or it was kept
  pub task_cases : (u v : ℕ) → (next_names old new event names).task u ≡ Some v
      → ((is_some (creation_in event) ≡ true) × (u ≡ task_count old) × (v ≡ task_count new)) ⊎ (names.task u ≡ Some v)
  task_cases u v named = elim (cases_Bool (is_some (creation_in event) && eqb u (task_count old))) [
    | inl made ↦
        let both = and_parts (is_some (creation_in event)) (eqb u (task_count old)) made in
        inl (both.0, eqb-true u (task_count old) both.1, sym (same_Some (task_count new) v (rw made at named)))
    | inr kept ↦ inr (rw kept at named)
  ]

  pub position_existed : (p a : ℕ) → names.position p ≡ Some a → p ≤ length old
  position_existed p a placed = (next.stands.positions.within p a placed).0

  pub position_exists : (p a : ℕ) → names.position p ≡ Some a → a ≤ length new
  position_exists p a placed = (next.stands.positions.within p a placed).1

  pub position_later : (p a : ℕ) → names.position p ≡ Some a → (next_names old new event names).position p ≡ Some a
  position_later p a placed =
      rw (ne_eqb p (suc (length old)) (λ same. omega (arith, same, position_existed p a placed))) placed

  pub position_newest : (next_names old new event names).position (suc (length old)) ≡ Some (suc (length new))
  position_newest = rw (eq-eqb (suc (length old)) (suc (length old)) refl) refl

  pub position_cases : (p a : ℕ) → (next_names old new event names).position p ≡ Some a
      → ((p ≡ suc (length old)) × (a ≡ suc (length new))) ⊎ (names.position p ≡ Some a)
  position_cases p a placed = elim (cases_eq p (suc (length old))) [
    | inl same ↦ inl (same, sym (same_Some (suc (length new)) a (rw (eq-eqb p (suc (length old)) same) at placed)))
    | inr other ↦ inr (rw (ne_eqb p (suc (length old)) other) at placed)
  ]

  pub master_later : (m n : Master) → renamed_master names m ≡ Some n → renamed_master (next_names old new event names) m ≡ Some n
  unfolding renamed_master
  master_later (Body t) n same =
      let (v, named, made) = option_map-some (λ v. Body (task_no v)) (names.task t.0) n same in
      ap (option_map (λ v. Body (task_no v))) (task_later t.0 v named) ∙ ap Some made
  master_later (Block p) n same =
      let (q, placed, made) = option_map-some Block (names.position p) n same in
      ap (option_map Block) (position_later p q placed) ∙ ap Some made

  pub member_later : (x y : Member) → renamed_member names x ≡ Some y → renamed_member (next_names old new event names) x ≡ Some y
  unfolding renamed_member
  member_later (BlockMember p) y same =
      let (q, placed, made) = option_map-some BlockMember (names.position p) y same in
      ap (option_map BlockMember) (position_later p q placed) ∙ ap Some made
  member_later (Rendezvous p) y same =
      let (q, placed, made) = option_map-some Rendezvous (names.position p) y same in
      ap (option_map Rendezvous) (position_later p q placed) ∙ ap Some made
