-- What a task depends on, what it was made within, and whether it is abandoned, alike after one more event.
use Rattle.std.proofs.Common.{◌≡◌, ℕ, true, false, eqb, Option, Some, None, List, ◌∷◌, refl, sym, ap, ◌∙◌, subst, inl, inr}
use Rattle.std.specs.Option.{option_map, option_and_then}
use Rattle.std.proofs.lemmas.Bool.{cases_Bool, or_cases, or_left, or_right, or_parts}
use Rattle.std.proofs.lemmas.Option.{same_Some}
use Rattle.ada_events.specs.declared.event.Event.{Event}
use Rattle.ada_events.specs.declared.names.Master.{Master}
use Rattle.ada_events.specs.declared.names.Master.TheVariants.{Body, Block}
use Rattle.ada_events.specs.Search.{is_some_and}
use Rattle.ada_events.specs.Says.{Creation, Closing, closing_in}
use Rattle.ada_events.specs.Tasks.{creation_of}
use Rattle.ada_events.specs.Phases.{has_start, is_completed, is_terminated, has_ended}
use Rattle.ada_events.specs.Termination.{is_complete, is_abandoned}
use Rattle.ada_events.specs.Forced.{task_no}
use Rattle.ada_laws.specs.Masters.{parent_of}
use Rattle.ada_laws.proofs.searching.Searching.{option_map-some}
use Rattle.ada_laws.proofs.searching.Growing.{is_terminated-more}
use Rattle.ada_laws.proofs.within.Framing.{IsBlockOf, block_later}
use Rattle.ada_laws.proofs.forced.Parts.{is_over}
use Rattle.ada_standing.specs.Renaming.{Renaming, renamed_master, renamed_parent}
use Rattle.ada_standing.specs.internal.Next.{next_names}
use Rattle.ada_standing.specs.StandsIn.{IsSameDependent, made_within}
use Rattle.ada_standing.proofs.alike.Kinds.{AreBoth}
use Rattle.ada_standing.proofs.alike.Orderly.{IsLivedIn}
use Rattle.ada_standing.proofs.alike.Pairs.{live_from}
use Rattle.ada_standing.proofs.alike.Mastering.{eqb_alike, lived_forth, parent_lived, complete_alike}
use Rattle.ada_standing.proofs.kept.Fitting.{IsMaker}
use Rattle.ada_standing.proofs.kept.Saying.{closing_said}
use Rattle.ada_standing.proofs.kept.Naming.{AreNext, AreOld, AreMade, like, old_task, next_cases, master_later, creation_older, creation_newest}
use Rattle.ada_standing.proofs.kept.Terminating.{unterminated_before, made_fresh, terminated_old}
use Rattle.ada_standing.proofs.kept.Phases.{unnamed_before, completed_old, completed_kept, ended_old, named_kept}
use Rattle.ada_standing.proofs.kept.Making.{is_closed, block_complete, complete_more, abandoned_is, never_abandoned, no_abandoned, waiting_from}
use Rattle.ada_standing.proofs.kept.Making.{making_keeps_complete, creations_forth, creations_none, makers_named}

over_more : (event : Event) (before : List Event) (c : Creation) → IsMaker before c → is_over before c ≡ true → is_over (event ∷ before) c ≡ true
over_more event before c maker over =
    elim (or_cases (is_complete before c.under) (is_terminated before c.by) over) [
      | inl complete ↦
          or_left (is_complete (event ∷ before) c.under) (is_terminated (event ∷ before) c.by) (complete_more event before c maker complete)
      | inr ended ↦
          or_right (is_complete (event ∷ before) c.under) (is_terminated (event ∷ before) c.by) (is_terminated-more event before c.by ended)
    ]

abbrev under_of : Creation → Master
under_of c = c.under

body_stands : (names : Renaming) (s t : ℕ) (y : Master) → names.task s ≡ Some t → renamed_master names (Body (task_no s)) ≡ Some y → y ≡ Body (task_no t)
unfolding renamed_master
body_stands names s t y named is =
    let (v, also, same) = option_map-some (λ v. Body (task_no v)) (names.task s) y is in
    sym same ∙ ap (λ (n : ℕ). Body (task_no n)) (same_Some v t (sym also ∙ named))

block_stands : (names : Renaming) (p : ℕ) (y : Master) → renamed_master names (Block p) ≡ Some y → (q : ℕ) × (names.position p ≡ Some q) × (y ≡ Block q)
unfolding renamed_master
block_stands names p y is =
    let (q, placed, same) = option_map-some Block (names.position p) y is in
    (q, placed, sym same)

complete_body : (journal : List Event) (x : Master) (u : ℕ) → x ≡ Body (task_no u) → is_complete journal x ≡ is_completed journal u
unfolding is_complete
complete_body journal x u is = rw is refl

module _ (old new : List Event) (names : Renaming) (event other : Event) (next : AreNext old new names event other) where
  -- the parent of an older task
  parent_later : (u : ℕ) (o : Option Master) → IsLivedIn old (Body (task_no u)) → parent_of old (Body (task_no u)) ≡ o
      → option_and_then (renamed_master names) o ≡ option_and_then (renamed_master (next_names old new event names)) o
  parent_later u None lived is = refl
  parent_later u (Some z) lived is =
      let within = parent_lived old (Body (task_no u)) z next.orderly lived is in
      let (w, named, beside) = lived_forth old new names z next.stands within in
      named ∙ sym (master_later old new names event other next z w named)

  master_old : (u v : ℕ) → AreOld old new names u v → is_terminated old u ≡ false
      → parent_of (other ∷ new) (Body (task_no v)) ≡ renamed_parent (next_names old new event names) (event ∷ old) (Body (task_no u))
  master_old u v was still =
      let lived = IsLivedIn.body (task_no u) (live_from old u was.below still) in
      rw (creation_older other new v was.below_too, creation_older event old u was.below)
      ((next.stands.dependents u v was.named still).master ∙ parent_later u (parent_of old (Body (task_no u))) lived refl)

  pub master_kept : (u v : ℕ) → (next_names old new event names).task u ≡ Some v → is_terminated (event ∷ old) u ≡ false
      → parent_of (other ∷ new) (Body (task_no v)) ≡ renamed_parent (next_names old new event names) (event ∷ old) (Body (task_no u))
  master_kept u v named still =
      elim (next_cases old new names event other next u v named) [
        | inl was ↦ master_old u v was (unterminated_before event old u still)
        | inr made ↦
            rw (
              creation_newest other new v made.stand made.says_too made.newest_too,
              creation_newest event old u made.creation made.says made.newest,
            )
            (sym (master_later old new names event other next made.creation.master made.stand.master made.same.master))
      ]

  -- what an older task was made within, while no start names it
  under_named : (u v : ℕ) (c d : Creation) → AreOld old new names u v → is_terminated old u ≡ false → has_start old u ≡ false → creation_of old u ≡ Some c
      → creation_of new v ≡ Some d → renamed_master names c.under ≡ Some d.under
  under_named u v c d was still never is has =
      let within : option_map under_of (creation_of new v) ≡ option_and_then (renamed_master names) (option_map under_of (creation_of old u)) =
      (next.stands.dependents u v was.named still).within never in
      let there : option_map under_of (creation_of new v) ≡ Some d.under = ap (option_map under_of) has in
      let here : option_and_then (renamed_master names) (option_map under_of (creation_of old u)) ≡ renamed_master names c.under =
      ap (λ (o : Option Creation). option_and_then (renamed_master names) (option_map under_of o)) is in
      sym here ∙ (sym within ∙ there)

  within_old : (u v : ℕ) (o : Option Creation) → AreOld old new names u v → is_terminated old u ≡ false → has_start old u ≡ false → creation_of old u ≡ o
      → made_within (other ∷ new) v ≡ option_and_then (renamed_master (next_names old new event names)) (made_within (event ∷ old) u)
  within_old u v None was still never none =
      rw (
        creation_older other new v was.below_too,
        creation_older event old u was.below,
        creations_none old new names event other next u v was none,
        none,
      ) refl
  within_old u v (Some c) was still never is =
      let (d, has) = creations_forth old new names event other next u v c was is in
      rw (creation_older other new v was.below_too, creation_older event old u was.below, has, is)
      (sym (master_later old new names event other next c.under d.under (under_named u v c d was still never is has)))

  pub within_kept : (u v : ℕ) → (next_names old new event names).task u ≡ Some v → is_terminated (event ∷ old) u ≡ false → has_start (event ∷ old) u ≡ false
      → made_within (other ∷ new) v ≡ option_and_then (renamed_master (next_names old new event names)) (made_within (event ∷ old) u)
  within_kept u v named still never =
      elim (next_cases old new names event other next u v named) [
        | inl was ↦ within_old u v (creation_of old u) was (unterminated_before event old u still) (unnamed_before event old u never) refl
        | inr made ↦
            rw (
              creation_newest other new v made.stand made.says_too made.newest_too,
              creation_newest event old u made.creation made.says made.newest,
            )
            (sym (master_later old new names event other next made.creation.under made.stand.under made.same.under))
      ]

  -- a block is closed now as the one that stands for it
  pub closes_now : (p q : ℕ) → names.position p ≡ Some q
      → is_some_and (closing_in other) (λ (k : Closing). eqb k.block q) ≡ is_some_and (closing_in event) (λ (k : Closing). eqb k.block p)
  closes_now p q placed =
      elim (closing_said names event other (like old new names event other next)) [
        | AreBoth.neither none none_too ↦ rw (none, none_too) refl
        | AreBoth.both c d says says_too same ↦
            rw (says, says_too) (sym (eqb_alike names.position c.block p d.block q next.stands.positions.one same.block placed))
      ]

  block_alike : (p q s t : ℕ) → names.position p ≡ Some q → IsBlockOf old s p → IsBlockOf new t q → AreOld old new names s t
      → is_complete old (Block p) ≡ false → is_complete new (Block q) ≡ false → is_complete (other ∷ new) (Block q) ≡ is_complete (event ∷ old) (Block p)
  block_alike p q s t placed block block_too makers unfinished unfinished_too =
      let here = or_parts (is_closed old p) (has_ended old s) (sym (block_complete old s p block) ∙ unfinished) in
      let there = or_parts (is_closed new q) (has_ended new t) (sym (block_complete new t q block_too) ∙ unfinished_too) in
      block_complete (other ∷ new) t q (block_later other new t q block_too)
      ∙ (rw (here.0, there.0, closes_now p q placed, ended_old old new names event other next s t makers) refl
      ∙ sym (block_complete (event ∷ old) s p (block_later event old s p block)))

  under_complete : (c d : Creation) → AreOld old new names c.by d.by → is_terminated old c.by ≡ false → IsMaker old c → IsMaker new d
      → renamed_master names c.under ≡ Some d.under → is_complete old c.under ≡ false → is_complete new d.under ≡ false
      → is_complete (other ∷ new) d.under ≡ is_complete (event ∷ old) c.under
  under_complete c d makers still maker maker_too named unfinished unfinished_too =
      elim maker.within [
        | inl body ↦
            let stand = body_stands names c.by d.by d.under makers.named (sym (ap (renamed_master names) body) ∙ named) in
            complete_body (other ∷ new) d.under d.by stand
            ∙ (completed_old old new names event other next c.by d.by makers still ∙ sym (complete_body (event ∷ old) c.under c.by body))
        | inr (p, block, is) ↦
            let (q, placed, stand) = block_stands names p d.under (sym (ap (renamed_master names) is) ∙ named) in
            elim maker_too.within [
              | inl body ↦ absurd (differ q d.by (sym stand ∙ body))
              | inr (b, block_too, has) ↦
                  let same : q ≡ b = same_block q b (sym stand ∙ has) in
                  ap (is_complete (other ∷ new)) stand
                  ∙ (block_alike p q c.by d.by placed block (subst (IsBlockOf new d.by) (sym same) block_too) makers
                  (ap (is_complete old) (sym is) ∙ unfinished) (ap (is_complete new) (sym stand) ∙ unfinished_too)
                  ∙ ap (is_complete (event ∷ old)) (sym is))
            ]
      ]
    where
      differ : (q t : ℕ) → Block q ≡ Body (task_no t) → ⊥
      differ q t same = cc

      same_block : (q b : ℕ) → Block q ≡ Block b → q ≡ b
      same_block q b same = cc

  over_alike : (u v : ℕ) (c d : Creation) → AreOld old new names u v → is_terminated old u ≡ false → has_start old u ≡ false → has_start new v ≡ false
      → creation_of old u ≡ Some c → creation_of new v ≡ Some d → is_over (other ∷ new) d ≡ is_over (event ∷ old) c
  over_alike u v c d was still never never_too is has =
      let maker = next.fits.makers u c is in
      let maker_too = next.fits_too.makers v d has in
      let same : is_over new d ≡ is_over old c =
      sym (abandoned_is new v d has never_too) ∙ ((next.stands.dependents u v was.named still).abandoned ∙ abandoned_is old u c is never) in
      elim (cases_Bool (is_over old c)) [
        | inl over ↦ over_more other new d maker_too (same ∙ over) ∙ sym (over_more event old c maker over)
        | inr goes_on ↦
            let here = or_parts (is_complete old c.under) (is_terminated old c.by) goes_on in
            let there = or_parts (is_complete new d.under) (is_terminated new d.by) (same ∙ goes_on) in
            let makers = (makers_named old new names event other next u v c d was is has (waiting_from old u c never here.1)).0 in
            rw (
              terminated_old old new names event other next c.by d.by makers,
              under_complete c d makers here.1 maker maker_too (under_named u v c d was still never is has) here.0 there.0,
            ) refl
      ]

  abandoned_old : (u v : ℕ) (o : Option Creation) → AreOld old new names u v → is_terminated old u ≡ false → has_start (event ∷ old) u ≡ false
      → has_start (other ∷ new) v ≡ false → creation_of old u ≡ o → is_abandoned (other ∷ new) v ≡ is_abandoned (event ∷ old) u
  abandoned_old u v None was still never never_too none =
      no_abandoned (other ∷ new) v (creation_older other new v was.below_too ∙ creations_none old new names event other next u v was none)
      ∙ sym (no_abandoned (event ∷ old) u (creation_older event old u was.below ∙ none))
  abandoned_old u v (Some c) was still never never_too is =
      let (d, has) = creations_forth old new names event other next u v c was is in
      abandoned_is (other ∷ new) v d (creation_older other new v was.below_too ∙ has) never_too
      ∙ (over_alike u v c d was still (unnamed_before event old u never) (unnamed_before other new v never_too) is has
      ∙ sym (abandoned_is (event ∷ old) u c (creation_older event old u was.below ∙ is) never))

  abandoned_made : (u v : ℕ) → AreMade old new names event other u v → is_abandoned (other ∷ new) v ≡ is_abandoned (event ∷ old) u
  abandoned_made u v made =
      let c = made.creation in
      let d = made.stand in
      let both = made_fresh old new names event other next u v made in
      let making = next.fits.making c made.says in
      let making_too = next.fits_too.making d made.says_too in
      let makers = old_task old new names event other next c.by d.by made.same.by in
      let complete : is_complete (other ∷ new) d.under ≡ is_complete (event ∷ old) c.under =
      making_keeps_complete other new d.under d made.says_too making_too.within
      ∙ (complete_alike old new names c.under d.under next.stands making.within made.same.under
      ∙ sym (making_keeps_complete event old c.under c made.says making.within)) in
      abandoned_is (other ∷ new) v d (creation_newest other new v d made.says_too made.newest_too) both.1.unnamed
      ∙ (rw (terminated_old old new names event other next c.by d.by makers, complete) refl
      ∙ sym (abandoned_is (event ∷ old) u c (creation_newest event old u c made.says made.newest) both.0.unnamed))

  pub abandoned_kept : (u v : ℕ) → (next_names old new event names).task u ≡ Some v → is_terminated (event ∷ old) u ≡ false
      → is_abandoned (other ∷ new) v ≡ is_abandoned (event ∷ old) u
  abandoned_kept u v named still =
      let starts = named_kept old new names event other next u v named still in
      elim (cases_Bool (has_start (event ∷ old) u)) [
        | inl started ↦ never_abandoned (other ∷ new) v (starts ∙ started) ∙ sym (never_abandoned (event ∷ old) u started)
        | inr never ↦
            elim (next_cases old new names event other next u v named) [
              | inl was ↦ abandoned_old u v (creation_of old u) was (unterminated_before event old u still) never (starts ∙ never) refl
              | inr made ↦ abandoned_made u v made
            ]
      ]

  pub dependents_kept : (u v : ℕ) → (next_names old new event names).task u ≡ Some v → is_terminated (event ∷ old) u ≡ false
      → IsSameDependent (event ∷ old) (other ∷ new) (next_names old new event names) u v
  dependents_kept u v named still = record {
    master = master_kept u v named still;
    completed = completed_kept old new names event other next u v named still;
    named = named_kept old new names event other next u v named still;
    within = λ never. within_kept u v named still never;
    abandoned = abandoned_kept u v named still;
  }
