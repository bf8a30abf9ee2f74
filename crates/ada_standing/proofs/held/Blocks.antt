-- The blocks of nests are alike after one more event of both journals, and their order is kept.
use Rattle.std.proofs.Common.{◌≡◌, ℕ, suc, ◌<◌, ◌≤◌, ◌+◌, Bool, true, false, ◌||◌, eqb, Option, Some, None, List, [], ◌∷◌, length, map, refl, sym, ap, ◌∙◌}
use Rattle.std.proofs.Common.{inl, inr, arith}
use Rattle.std.specs.Option.{option_map, option_len, option_and_then}
use Rattle.std.specs.List.{list_any}
use Rattle.std.proofs.Math.Bool.{or-true}
use Rattle.std.proofs.lemmas.Bool.{cases_eq, or_cases, or_left, or_right, eqb-true, eq-eqb, false_from_ne_true, true≢false, false≢true}
use Rattle.std.proofs.lemmas.Option.{none-some, same_Some}
use Rattle.ada_events.specs.declared.event.Event.{Event}
use Rattle.ada_events.specs.declared.names.Master.TheVariants.{Block}
use Rattle.ada_events.specs.declared.names.Member.{Member}
use Rattle.ada_events.specs.declared.names.Member.TheVariants.{Block as BlockMember, Rendezvous}
use Rattle.ada_events.specs.Search.{event_at}
use Rattle.ada_events.specs.Says.{Creation, Opening, creation_in, opening_in}
use Rattle.ada_events.specs.Tasks.{task_count}
use Rattle.ada_events.specs.Phases.{is_terminated, has_ended}
use Rattle.ada_events.specs.Nests.{nest}
use Rattle.ada_events.specs.Termination.{is_complete, is_complete_block}
use Rattle.ada_laws.specs.Masters.{parent_of}
use Rattle.ada_laws.proofs.searching.Searching.{event_at-newest, event_at-older, event_at-within}
use Rattle.ada_laws.proofs.searching.Growing.{is_terminated-more, has_ended-more}
use Rattle.ada_laws.proofs.within.Leaving.{unleft_before}
use Rattle.ada_laws.proofs.within.Owners.{IsOwnBlock}
use Rattle.ada_laws.proofs.forced.Parts.{closes_block}
use Rattle.ada_standing.specs.Renaming.{Renaming, renamed_master, renamed_member}
use Rattle.ada_standing.specs.internal.Next.{next_names}
use Rattle.ada_events.specs.Holders.{is_block}
use Rattle.ada_standing.specs.StandsIn.{IsSameBlock, IsSameNest, KeepsPositions, is_live}
use Rattle.ada_standing.proofs.alike.Kinds.{AreBoth}
use Rattle.ada_standing.proofs.alike.Pairs.{ended_alike, live_from, live_parts}
use Rattle.ada_standing.proofs.lawful.Nesting.{nested_own, own_nested}
use Rattle.ada_standing.proofs.held.Saying.{openings_both, closings_both}
use Rattle.ada_standing.proofs.held.Fitting.{FitsHeld}
use Rattle.ada_standing.proofs.held.Setting.{AreNext, TerminatedKept, CompletedKept, is_like, task_later, task_cases, position_existed, position_cases}
use Rattle.ada_standing.proofs.held.Setting.{master_later}
use Rattle.ada_standing.proofs.held.Positions.{order_kept, within_kept, one_kept, holds_kept}
use Rattle.ada_standing.proofs.held.Phases.{positions_alike, ended_kept}
use Rattle.ada_standing.proofs.held.Nests.{members_kept}
use Rattle.ada_events.proofs.Positions.{event_at-other}

-- the parent of a block, and whether it is complete, by what opened it

parent_is : (journal : List Event) (p : ℕ) (e : Event) (o : Opening) → event_at journal p ≡ Some e → opening_in e ≡ Some o
    → parent_of journal (Block p) ≡ Some o.under
parent_is journal p e o at says = rw (at, says) refl

complete_is : (journal : List Event) (p : ℕ) (e : Event) (o : Opening) → event_at journal p ≡ Some e → opening_in e ≡ Some o
    → is_complete journal (Block p) ≡ (list_any (closes_block p) journal || has_ended journal o.by)
unfolding is_complete is_complete_block
complete_is journal p e o at says = rw (at, says) refl

-- an own block that isn't the newest event was an own block before
own_earlier : (event : Event) (before : List Event) (task p : ℕ) → p ≤ length before → IsOwnBlock (event ∷ before) task p → IsOwnBlock before task p
own_earlier event before task p within own = record {
  block = record {
    event = own.block.event;
    opening = own.block.opening;
    stands = sym (event_at-other event before p (λ same. omega (arith, same, within))) ∙ own.block.stands;
    says = own.block.says;
    by = own.block.by;
  };
  unleft = unleft_before event before p own.unleft;
}

-- the block that stands for one of a nest is in the nest that stands for that
block_there : (names : Renaming) (p q : ℕ) (xs ys : List Member) → names.position p ≡ Some q → map Some ys ≡ map (renamed_member names) xs
    → list_any (is_block p) xs ≡ true → list_any (is_block q) ys ≡ true
unfolding renamed_member
block_there names p q [] ys placed same has = absurd (false≢true has)
block_there names p q (x ∷ xs) [] placed same has = absurd cc
block_there names p q (BlockMember r ∷ xs) (y ∷ ys) placed same has =
    let head : Some y ≡ option_map BlockMember (names.position r) = cc in
    let tail : map Some ys ≡ map (renamed_member names) xs = cc in
    elim (or_cases (eqb r p) (list_any (is_block p) xs) has) [
      | inl here ↦
          let block : Some y ≡ Some (BlockMember q) = head ∙ (ap (λ n. option_map BlockMember (names.position n)) (eqb-true r p here)
          ∙ ap (option_map BlockMember) placed) in
          or_left (is_block q y) (list_any (is_block q) ys) (ap (is_block q) (same_Some y (BlockMember q) block) ∙ eq-eqb q q refl)
      | inr later ↦ or_right (is_block q y) (list_any (is_block q) ys) (block_there names p q xs ys placed tail later)
    ]
block_there names p q (Rendezvous call ∷ xs) (y ∷ ys) placed same has =
    or_right (is_block q y) (list_any (is_block q) ys) (block_there names p q xs ys placed (cc) has)

-- closed now, or closed or ended before, where who had ended stays so
still_complete : (n a b e f : Bool) → (b || e) ≡ (a || e) → (e ≡ true → f ≡ true) → ((n || b) || f) ≡ ((n || a) || f)
still_complete n a b true f same ends = rw (ends refl) (or-true (n || b) ∙ sym (or-true (n || a)))
still_complete n true true false f same ends = refl
still_complete n false false false f same ends = refl
still_complete n true false false f same ends = absurd (false≢true same)
still_complete n false true false f same ends = absurd (true≢false same)

count_next : (event : Event) (before : List Event) → task_count (event ∷ before) ≤ suc (task_count before)
unfolding task_count
count_next event before = one (creation_in event)
  where
    one : (o : Option Creation) → option_len o + task_count before ≤ suc (task_count before)
    one None = omega arith
    one (Some c) = omega arith

-- who is within a block was there before the event
within_exists : (event : Event) (before : List Event) (task p : ℕ) → FitsHeld before event → list_any (is_block p) (nest before task) ≡ true
    → task ≡ task_count before → ⊥
within_exists event before task p fits inside same =
    false≢true (sym (ap (list_any (is_block p)) (ap (nest before) same ∙ fits.empty)) ∙ inside)

live_before : (event : Event) (before : List Event) (task p : ℕ) → FitsHeld before event → is_live (event ∷ before) task ≡ true
    → list_any (is_block p) (nest before task) ≡ true → is_live before task ≡ true
live_before event before task p fits live inside =
    let parts = live_parts (event ∷ before) task live in
    let count = count_next event before in
    elim (cases_eq task (task_count before)) [
      | inl same ↦ absurd (within_exists event before task p fits inside same)
      | inr other ↦
          live_from before task (omega (arith, parts.0, count, other))
          (false_from_ne_true (is_terminated before task) (λ was. true≢false (sym (is_terminated-more event before task was) ∙ parts.1)))
    ]

module _ (old new : List Event) (names : Renaming) (event copy : Event) (next : AreNext old new names event copy) where
  closes_alike_now : (p q : ℕ) → names.position p ≡ Some q → closes_block q copy ≡ closes_block p event
  closes_alike_now p q placed = elim (closings_both names event copy (is_like old new names event copy next)) [
    | AreBoth.both k l is has same ↦
        rw (is, has) (positions_alike old new names event copy next k.block p l.block q same.block placed)
    | AreBoth.neither is has ↦ rw (is, has) refl
  ]

  -- the order of blocks within which live tasks are
  pub blocks_kept : (s t p q a b : ℕ) → is_live (event ∷ old) s ≡ true → is_live (event ∷ old) t ≡ true
      → list_any (is_block p) (nest (event ∷ old) s) ≡ true → list_any (is_block q) (nest (event ∷ old) t) ≡ true
      → (next_names old new event names).position p ≡ Some a → (next_names old new event names).position q ≡ Some b → p < q → a < b
  blocks_kept s t p q a b live lives inside also first second less =
      let one = nested_own (event ∷ old) s p inside in
      let other = nested_own (event ∷ old) t q also in
      order_kept old new names event copy next p q a b first second less (event_at-within (event ∷ old) q other.block.event other.block.stands)
      (λ was kept within.
      let here = own_nested old s p (own_earlier event old s p (omega (arith, less, within)) one) in
      let there = own_nested old t q (own_earlier event old t q within other) in
      next.stands.positions.blocks s t p q a b (live_before event old s p next.fits live here) (live_before event old t q next.fits lives there)
      here there was kept less)

  pub positions_kept : KeepsPositions (event ∷ old) (copy ∷ new) (next_names old new event names)
  positions_kept = record {
    within = λ p a placed. within_kept old new names event copy next p a placed;
    one = λ p q a first second. one_kept old new names event copy next p q a first second;
    holds = λ s t p q a b d e kind first second less. holds_kept old new names event copy next s t p q a b d e kind first second less;
    blocks = λ s t p q a b live lives inside also first second less. blocks_kept s t p q a b live lives inside also first second less;
  }

  module _ (terminated_kept : TerminatedKept old new names event copy) (completed_kept : CompletedKept old new names event copy) where
    -- a block that is opened now
    block_newest : (o : Opening) → opening_in event ≡ Some o
        → IsSameBlock (event ∷ old) (copy ∷ new) (next_names old new event names) (suc (length old)) (suc (length new))
    block_newest o opens = elim (openings_both names event copy (is_like old new names event copy next)) [
      | AreBoth.both x y is has same ↦ record {
        within =
            parent_is (copy ∷ new) (suc (length new)) copy y (event_at-newest copy new) has
            ∙ (sym (master_later old new names event copy next x.under y.under same.under)
            ∙ ap (option_and_then (renamed_master (next_names old new event names)))
            (sym (parent_is (event ∷ old) (suc (length old)) event x (event_at-newest event old) is)));
        complete =
            complete_is (copy ∷ new) (suc (length new)) copy y (event_at-newest copy new) has
            ∙ ((λ i. (next.fitted.unclosed ∙ sym next.fits.unclosed) i || ended_kept old new names event copy next terminated_kept completed_kept x.by y.by
            (task_later old new names event copy next x.by y.by same.by) i)
            ∙ sym (complete_is (event ∷ old) (suc (length old)) event x (event_at-newest event old) is));
      }
      | AreBoth.neither is has ↦ absurd (none-some o (sym is ∙ opens))
    ]

    -- a block that was in a nest before
    block_older : (u v p q : ℕ) → names.task u ≡ Some v → is_terminated old u ≡ false → names.position p ≡ Some q → IsOwnBlock old u p
        → IsSameBlock (event ∷ old) (copy ∷ new) (next_names old new event names) p q
    block_older u v p q kept still placed own =
        let nests = next.stands.nests u v kept still in
        let inside = own_nested old u p own in
        let there = nested_own new v q (block_there names p q (nest old u) (nest new v) placed nests.members inside) in
        let same = nests.blocks p q inside placed in
        let o = own.block.opening in
        let r = there.block.opening in
        let at = event_at-older event old p own.block.event own.block.stands in
        let at_q = event_at-older copy new q there.block.event there.block.stands in
        let under : renamed_master names o.under ≡ Some r.under =
        ap (option_and_then (renamed_master names)) (sym (parent_is old p own.block.event o own.block.stands own.block.says))
        ∙ (sym same.within ∙ parent_is new q there.block.event r there.block.stands there.block.says) in
        let by : names.task o.by ≡ Some r.by = ap names.task own.block.by ∙ (kept ∙ ap Some (sym there.block.by)) in
        let before : (list_any (closes_block q) new || has_ended old o.by) ≡ (list_any (closes_block p) old || has_ended old o.by) =
        ap (λ b. list_any (closes_block q) new || b) (sym (ended_alike old new names o.by r.by next.stands by))
        ∙ (sym (complete_is new q there.block.event r there.block.stands there.block.says)
        ∙ (same.complete ∙ complete_is old p own.block.event o own.block.stands own.block.says)) in
        record {
          within =
              parent_is (copy ∷ new) q there.block.event r at_q there.block.says
              ∙ (sym (master_later old new names event copy next o.under r.under under)
              ∙ ap (option_and_then (renamed_master (next_names old new event names)))
              (sym (parent_is (event ∷ old) p own.block.event o at own.block.says)));
          complete =
              complete_is (copy ∷ new) q there.block.event r at_q there.block.says
              ∙ ((λ i. (closes_alike_now p q placed i || list_any (closes_block q) new) || ended_kept old new names event copy next terminated_kept
              completed_kept o.by r.by (task_later old new names event copy next o.by r.by by) i)
              ∙ (still_complete (closes_block p event) (list_any (closes_block p) old) (list_any (closes_block q) new) (has_ended old o.by)
              (has_ended (event ∷ old) o.by) before (has_ended-more event old o.by)
              ∙ sym (complete_is (event ∷ old) p own.block.event o at own.block.says)));
        }

    pub block_kept : (u v : ℕ) → (next_names old new event names).task u ≡ Some v → is_terminated (event ∷ old) u ≡ false → (p q : ℕ)
        → list_any (is_block p) (nest (event ∷ old) u) ≡ true → (next_names old new event names).position p ≡ Some q
        → IsSameBlock (event ∷ old) (copy ∷ new) (next_names old new event names) p q
    block_kept u v named still p q inside placed =
        let own = nested_own (event ∷ old) u p inside in
        elim (position_cases old new names event copy next p q placed) [
          | inl newest ↦
              let at : event ≡ own.block.event = same_Some event own.block.event
              (sym (event_at-newest event old) ∙ (ap (event_at (event ∷ old)) (sym newest.0) ∙ own.block.stands)) in
              rw (newest.0, newest.1) (block_newest own.block.opening (ap opening_in at ∙ own.block.says))
          | inr was ↦
              let within : p ≤ length old = position_existed old new names event copy next p q was in
              let earlier = own_earlier event old u p within own in
              elim (task_cases old new names event copy next u v named) [
                | inl made ↦ absurd (within_exists event old u p next.fits (own_nested old u p earlier) made.1)
                | inr kept ↦
                    block_older u v p q kept
                    (false_from_ne_true (is_terminated old u) (λ was. true≢false (sym (is_terminated-more event old u was) ∙ still))) was earlier
              ]
        ]

    -- a live task is within the same as the one that stands for it
    pub nest_kept : (u v : ℕ) → (next_names old new event names).task u ≡ Some v → is_terminated (event ∷ old) u ≡ false
        → IsSameNest (event ∷ old) (copy ∷ new) (next_names old new event names) u v
    nest_kept u v named still = record {
      members = members_kept old new names event copy next terminated_kept completed_kept u v named still;
      blocks = λ p q inside placed. block_kept u v named still p q inside placed;
    }
