-- Positions that are placed kind by kind are kept apart, and in their order.
use Rattle.std.proofs.Common.{◌≡◌, ℕ, ◌<◌, ◌≤◌, true, ◌&&◌, Option, Some, None, List, length, refl, sym, ap, ◌∙◌, subst, arith, inl, inr, is_some}
use Rattle.std.specs.List.{list_any}
use Rattle.std.proofs.lemmas.Bool.{and_parts, or_cases, cases_lt, cases_eq, false≢true}
use Rattle.std.proofs.lemmas.Option.{same_Some}
use Rattle.ada_events.specs.declared.event.Event.{Event}
use Rattle.ada_events.specs.Search.{event_at}
use Rattle.ada_events.specs.Says.{Wait as SaidWait, call_in, wait_in, delay_in, start_in, closing_in, held_in}
use Rattle.ada_events.specs.Calls.{is_pending}
use Rattle.ada_events.specs.Nests.{nest}
use Rattle.ada_events.specs.Lawful.{IsLawful}
use Rattle.ada_laws.specs.Suspension.{IsSuspendedAt}
use Rattle.ada_laws.proofs.searching.Searching.{event_at-within, option_map_or-true}
use Rattle.ada_laws.proofs.searching.Saying.{held_in-wait}
use Rattle.ada_laws.proofs.forced.Stepping.{pending_parts}
use Rattle.ada_laws.proofs.held.Suspending.{suspended_exists, suspended_once}
use Rattle.ada_laws.proofs.within.Owners.{block_in_nest}
use Rattle.ada_standing.specs.Names.{Names, placed, renaming_of}
use Rattle.ada_standing.specs.Holds.{is_same_kind, is_timed_wait}
use Rattle.ada_events.specs.Holders.{is_block}
use Rattle.ada_standing.specs.StandsIn.{KeepsPositions, is_live}
use Rattle.ada_standing.proofs.alike.Mastering.{task_one}
use Rattle.ada_standing.proofs.alike.Pairs.{live_from, active_parts}
use Rattle.ada_compact.specs.declared.comparison.kinds.Kind.{Kind}
use Rattle.ada_compact.specs.declared.comparison.kinds.Kind.TheVariants.{Call, Wait, Delay, Start, Close, Block}
use Rattle.ada_compact.specs.internal.Keeping.{AreTasksRight}
use Rattle.ada_compact.specs.internal.Kinds.{has_kind, is_kind_at, is_ordered, is_ordered_at, is_no_past_wait, IsAlikePlace, ArePlacesRight}
use Rattle.ada_compact.proofs.Positions.{placed_all, order_among}

-- an event of a kind stands within the journal
kind_within : (journal : List Event) (kind : Kind) (p : ℕ) → is_kind_at journal kind p ≡ true → p ≤ length journal
unfolding is_kind_at
kind_within journal kind p has =
    let (event, stands, _) = option_map_or-true (has_kind kind) (event_at journal p) has in
    event_at-within journal p event stands

ordered_from : (journal : List Event) (kind : Kind) (p : ℕ) (event : Event) → event_at journal p ≡ Some event → is_ordered kind event ≡ true
    → is_ordered_at journal kind p ≡ true
unfolding is_ordered_at
ordered_from journal kind p event stands has = rw stands has

of_both : (kind : Kind) (d e : Event) → (is_ordered kind d ≡ true) × (is_ordered kind e ≡ true)
    → (kind : Kind) × (is_ordered kind d ≡ true) × (is_ordered kind e ≡ true)
of_both kind d e both = (kind, both.0, both.1)

-- two events of one kind among which the order counts are of some kind together
shared_kind : (d e : Event) → is_same_kind d e ≡ true → (kind : Kind) × (is_ordered kind d ≡ true) × (is_ordered kind e ≡ true)
shared_kind d e same =
    elim (or_cases _ (is_some (closing_in d) && is_some (closing_in e)) same) [
      | inr closes ↦ of_both Close d e (and_parts (is_some (closing_in d)) (is_some (closing_in e)) closes)
      | inl others ↦
          elim (or_cases _ (is_some (start_in d) && is_some (start_in e)) others) [
            | inr starts ↦ of_both Start d e (and_parts (is_some (start_in d)) (is_some (start_in e)) starts)
            | inl rest ↦
                elim (or_cases _ (is_some (delay_in d) && is_some (delay_in e)) rest) [
                  | inr delays ↦ of_both Delay d e (and_parts (is_some (delay_in d)) (is_some (delay_in e)) delays)
                  | inl first ↦
                      elim (or_cases (is_some (call_in d) && is_some (call_in e)) (is_timed_wait d && is_timed_wait e) first) [
                        | inl calls ↦ of_both Call d e (and_parts (is_some (call_in d)) (is_some (call_in e)) calls)
                        | inr waits ↦ of_both Wait d e (and_parts (is_timed_wait d) (is_timed_wait e) waits)
                      ]
                ]
          ]
    ]

-- what stands in a nest as a block was opened there
block_opened : (journal : List Event) (u p : ℕ) → list_any (is_block p) (nest journal u) ≡ true → is_ordered_at journal Block p ≡ true
block_opened journal u p inside =
    let opened = (block_in_nest journal u p inside).0 in
    ordered_from journal Block p opened.event opened.stands (rw opened.says refl)

said_wait : (o : Option SaidWait) → is_some o ≡ true → (w : SaidWait) × (o ≡ Some w)
said_wait None says = absurd (false≢true says)
said_wait (Some w) says = (w, refl)

-- a wait that holds its task up
wait_holds : (journal : List Event) (p : ℕ) → is_kind_at journal Wait p ≡ true → is_no_past_wait journal p ≡ true → (u : ℕ) × IsSuspendedAt journal u p
unfolding is_kind_at is_no_past_wait
wait_holds journal p has now =
    let (event, stands, waits) = option_map_or-true (has_kind Wait) (event_at journal p) has in
    let (w, says) = said_wait (wait_in event) waits in
    let pending : is_pending journal p w.by ≡ true = rw (stands, says) at now in
    let both = pending_parts journal p w.by pending in
    (w.by, record { event = event; stands = stands; holds = held_in-wait event w says; unreleased = both.0; live = both.1 })

suspended_live : (journal : List Event) (u p : ℕ) → IsLawful journal → IsSuspendedAt journal u p → is_live journal u ≡ true
suspended_live journal u p lawful held = live_from journal u (suspended_exists journal u p lawful held) (active_parts journal u held.live).1

module _ (old new : List Event) (names : Names) (right : ArePlacesRight old new names) (tasks : AreTasksRight old new (renaming_of names)) where
  -- of two positions of one kind among which the order counts, the later has the later image
  in_order : (kind : Kind) (p q a b : ℕ) → is_ordered_at old kind p ≡ true → is_ordered_at old kind q ≡ true → placed names.places p ≡ Some a
      → placed names.places q ≡ Some b → p < q → a < b
  in_order kind p q a b has also first second before =
      order_among (is_ordered_at old kind) names.places 0 0 p q a b right.olds (right.rise kind) first second has also before

  there : (p a : ℕ) → placed names.places p ≡ Some a → IsAlikePlace old new (record { old = p; new = a })
  there p a at = placed_all (IsAlikePlace old new) names.places right.alike p a at

  ordered_apart : (kind : Kind) (p q a : ℕ) → is_ordered_at old kind p ≡ true → is_ordered_at old kind q ≡ true → placed names.places p ≡ Some a
      → placed names.places q ≡ Some a → p ≡ q
  ordered_apart kind p q a has also first second =
      elim (cases_lt p q) [
        | inl before ↦
            let less : a < a = in_order kind p q a a has also first second before in
            absurd (omega (arith, less))
        | inr least ↦
            elim (cases_eq p q) [
              | inl same ↦ same
              | inr differs ↦
                  let less : a < a = in_order kind q p a a also has second first (omega (arith, least, differs)) in
                  absurd (omega (arith, less))
            ]
      ]

  -- two positions at which tasks are suspended: each of the tasks that stand for these is suspended at the image
  held_apart : (s t p q a : ℕ) → IsLawful old → IsSuspendedAt old s p → IsSuspendedAt old t q → placed names.places p ≡ Some a
      → placed names.places q ≡ Some a → p ≡ q
  held_apart s t p q a lawful one other first second =
      let (u, named) = tasks.keeps.live s (suspended_live old s p lawful one) in
      let (v, also) = tasks.keeps.live t (suspended_live old t q lawful other) in
      let like = ((tasks.stands s u named).active one.live).held p one in
      let alike = ((tasks.stands t v also).active other.live).held q other in
      let at : like.at ≡ alike.at = same_Some like.at a (sym like.renamed ∙ first) ∙ sym (same_Some alike.at a (sym alike.renamed ∙ second)) in
      let event : like.held.event ≡ alike.held.event = same_Some _ _ (sym like.held.stands ∙ (ap (event_at new) at ∙ alike.held.stands)) in
      let same : u ≡ v = same_Some u v (sym like.held.holds ∙ (ap held_in event ∙ alike.held.holds)) in
      let task : s ≡ t = task_one old new (renaming_of names) s t u tasks.keeps named (also ∙ ap Some (sym same)) in
      suspended_once old t p q lawful (subst (λ (n : ℕ). IsSuspendedAt old n p) task one) other

  waits_apart : (p q a : ℕ) → is_kind_at old Wait p ≡ true → is_kind_at old Wait q ≡ true → placed names.places p ≡ Some a
      → placed names.places q ≡ Some a → p ≡ q
  waits_apart p q a has also first second =
      let one = there p a first in
      let (s, held) = wait_holds old p has one.waits in
      let (t, holds) = wait_holds old q also (there q a second).waits in
      held_apart s t p q a one.lawful held holds first second

  kind_apart : (kind : Kind) (p q a : ℕ) → is_kind_at old kind p ≡ true → is_kind_at old kind q ≡ true → placed names.places p ≡ Some a
      → placed names.places q ≡ Some a → p ≡ q
  unfolding is_kind_at is_ordered_at
  kind_apart Wait p q a has also first second = waits_apart p q a has also first second
  kind_apart Call p q a has also first second = ordered_apart Call p q a has also first second
  kind_apart Delay p q a has also first second = ordered_apart Delay p q a has also first second
  kind_apart Start p q a has also first second = ordered_apart Start p q a has also first second
  kind_apart Close p q a has also first second = ordered_apart Close p q a has also first second
  kind_apart Block p q a has also first second = ordered_apart Block p q a has also first second

  apart : (p q a : ℕ) → placed names.places p ≡ Some a → placed names.places q ≡ Some a → p ≡ q
  apart p q a first second =
      let one = there p a first in
      let other = there q a second in
      let also : is_kind_at old one.one q ≡ true = sym (other.kinds one.one) ∙ one.kinds one.one ∙ one.has in
      kind_apart one.one p q a one.has also first second

  pub keeps_positions : KeepsPositions old new (renaming_of names)
  keeps_positions = record {
    within = λ p a at.
        let one = there p a at in
        (kind_within old one.one p one.has, kind_within new one.one a (one.kinds one.one ∙ one.has));
    one = apart;
    holds = λ s t p q a b d e same first second before.
        let (kind, has, also) = shared_kind d.event e.event same in
        in_order kind p q a b (ordered_from old kind p d.event d.stands has) (ordered_from old kind q e.event e.stands also) first second before;
    blocks = λ s t p q a b live lives inside within first second before.
        in_order Block p q a b (block_opened old s p inside) (block_opened old t q within) first second before;
  }
