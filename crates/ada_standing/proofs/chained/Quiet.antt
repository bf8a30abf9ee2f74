-- Settled journals are quiet, so that others stand in for them with fewer names.
use Rattle.std.proofs.Common.{◌≡◌, ℕ, zero, suc, ◌<◌, true, false, not, ◌&&◌, ◌||◌, eqb, Option, Some, None, List, sym, ap, ◌∙◌, subst}
use Rattle.std.proofs.Common.{arith, inl, inr}
use Rattle.std.specs.Bool.{then_some}
use Rattle.std.specs.List.{list_any}
use Rattle.std.proofs.lemmas.Bool.{cases_eq, and_cases, and_parts, or_parts, not_from_false, false_from_ne_true, true≢false}
use Rattle.std.proofs.lemmas.Option.{same_Some}
use Rattle.ada_events.specs.declared.event.Event.{Event}
use Rattle.ada_events.specs.declared.event.Event.TheVariants.{Gone}
use Rattle.ada_events.specs.declared.names.Master.{Master}
use Rattle.ada_events.specs.declared.names.Master.TheVariants.{Body, Block}
use Rattle.ada_events.specs.Search.{is_some_and, first_below}
use Rattle.ada_events.specs.Says.{Creation, Opening, Call, Closing, opening_at, call_in, closing_in}
use Rattle.ada_events.specs.Tasks.{task_count, creation_of}
use Rattle.ada_events.specs.Phases.{has_start, is_completed, is_terminated, has_ended}
use Rattle.ada_events.specs.Nests.{is_left, is_left_close, nest}
use Rattle.ada_events.specs.Termination.{all_terminated, is_complete, is_complete_block, is_abandoned}
use Rattle.ada_events.specs.Forced.{task_no, is_to_go, gone}
use Rattle.ada_events.specs.Lawful.{IsSettled}
use Rattle.ada_laws.specs.Suspension.{IsSuspendedAt}
use Rattle.ada_laws.specs.Unlimited.{IsLawfulUnlimited}
use Rattle.ada_laws.proofs.searching.Searching.{option_map-some, option_map_or-false, option_or-none, any_event-found}
use Rattle.ada_laws.proofs.searching.Saying.{held_in-call, held_in-closing}
use Rattle.ada_laws.proofs.forced.Rows.{settled_at_rest}
use Rattle.ada_laws.proofs.queues.CallLaws.{no_open_call_to_a_finished_task, then_none}
use Rattle.ada_events.specs.Holders.{is_block}
use Rattle.ada_standing.specs.StandsIn.{is_live, made_within}
use Rattle.ada_standing.specs.Laws.{FewerNamesStandIn}
use Rattle.ada_standing.proofs.alike.Orderly.{IsLivedIn}
use Rattle.ada_standing.proofs.alike.Pairs.{live_from, live_parts, active_parts}
use Rattle.ada_standing.proofs.kept.Fitting.{IsMaker}
use Rattle.ada_standing.proofs.held.Members.{list_any-at}
use Rattle.ada_standing.proofs.lawful.Fitting.{all_makers}
use Rattle.ada_standing.proofs.lawful.Nesting.{own_nested}
use Rattle.ada_standing.proofs.lawful.Orderly.{lawful_orderly}
use Rattle.ada_standing.proofs.chained.Closing.{closed_own}
use Rattle.ada_standing.proofs.chained.Fewer.{IsQuiet, fewer_stand_in}

below_none : {A : Type 0} (give : ℕ → Option A) (n u : ℕ) → first_below give n ≡ None → u < n → give u ≡ None
unfolding first_below
below_none give zero u none below = absurd (omega (arith, below))
below_none give (suc n) u none below =
    let both = option_or-none (first_below give n) (give n) none in
    elim (cases_eq u n) [
      | inl same ↦ rw same both.1
      | inr other ↦ below_none give n u both.0 (omega arith)
    ]

-- where nothing is forced no live task is abandoned
unabandoned : (journal : List Event) (u : ℕ) → IsSettled journal → is_live journal u ≡ true → is_abandoned journal u ≡ false
unfolding gone is_to_go
unabandoned journal u settled live =
    let parts = live_parts journal u live in
    let none = below_none (λ u. then_some (is_to_go journal u) (Gone (task_no u))) (task_count journal) u (settled_at_rest journal settled).no_gone parts.0 in
    let ends = is_completed journal u && all_terminated journal (Body (task_no u)) in
    elim (and_cases (not (is_terminated journal u)) (ends || is_abandoned journal u) (then_none (is_to_go journal u) (Gone (task_no u)) none)) [
      | inl ended ↦ absurd (true≢false (sym (not_from_false (is_terminated journal u) parts.1) ∙ ended))
      | inr stays ↦ (or_parts ends (is_abandoned journal u) stays).1
    ]

-- a block that isn't closed isn't left
unclosed_unleft : (journal : List Event) (p : ℕ)
    → list_any (λ (e : Event). is_some_and (closing_in e) (λ (c : Closing). eqb c.block p)) journal ≡ false → is_left journal p ≡ false
unfolding is_left
unclosed_unleft journal p none = false_from_ne_true _ (λ left.
    let (q, e, at, passes) = any_event-found (λ q e. is_some_and (closing_in e) (λ (c : Closing). eqb c.block p) && is_left_close journal q) journal left in
    let closes = (and_parts (is_some_and (closing_in e) (λ (c : Closing). eqb c.block p)) (is_left_close journal q) passes).0 in
    true≢false (sym (list_any-at (λ (e : Event). is_some_and (closing_in e) (λ (c : Closing). eqb c.block p)) journal q e at closes) ∙ none))

-- a block that isn't complete isn't left
incomplete_unleft : (journal : List Event) (p : ℕ) → is_complete journal (Block p) ≡ false → is_left journal p ≡ false
unfolding is_complete is_complete_block
incomplete_unleft journal p fails =
    unclosed_unleft journal p
    (or_parts (list_any (λ (e : Event). is_some_and (closing_in e) (λ (c : Closing). eqb c.block p)) journal)
    (is_some_and (opening_at journal p) (λ (o : Opening). has_ended journal o.by)) fails).0

-- what the maker of a task made it within is live tasks', where it isn't complete, and the maker is live
maker_lived : (journal : List Event) (c : Creation) → IsMaker journal c → is_complete journal c.under ≡ false → is_terminated journal c.by ≡ false
    → IsLivedIn journal c.under
maker_lived journal c maker fails still =
    let live = live_from journal c.by maker.exists still in
    elim maker.within [
      | inl body ↦ subst (IsLivedIn journal) (sym body) (IsLivedIn.body (task_no c.by) live)
      | inr (p, block, is) ↦
          let unleft = incomplete_unleft journal p (ap (is_complete journal) (sym is) ∙ fails) in
          subst (IsLivedIn journal) (sym is) (IsLivedIn.block c.by p live (own_nested journal c.by p (record { block = block; unleft = unleft })))
    ]

made_lived : (journal : List Event) (u : ℕ) (m : Master) → IsLawfulUnlimited journal → IsSettled journal → is_live journal u ≡ true
    → has_start journal u ≡ false → made_within journal u ≡ Some m → IsLivedIn journal m
unfolding is_abandoned
made_lived journal u m lawful settled live unstarted is =
    let (c, says, under) = option_map-some (λ (c : Creation). c.under) (creation_of journal u) m is in
    let fails : is_some_and (creation_of journal u) (λ (c : Creation). is_complete journal c.under || is_terminated journal c.by) ≡ false =
    elim (and_cases (is_some_and (creation_of journal u) (λ (c : Creation). is_complete journal c.under || is_terminated journal c.by))
    (not (has_start journal u)) (unabandoned journal u settled live)) [
      | inl none ↦ none
      | inr started ↦ absurd (true≢false (sym (not_from_false (has_start journal u) unstarted) ∙ started))
    ] in
    let both = or_parts (is_complete journal c.under) (is_terminated journal c.by)
    (option_map_or-false (λ (c : Creation). is_complete journal c.under || is_terminated journal c.by) (creation_of journal u) c fails says) in
    subst (IsLivedIn journal) under (maker_lived journal c (all_makers journal u c lawful says) both.0 both.1)

open_callee : (journal : List Event) (u p : ℕ) (held : IsSuspendedAt journal u p) (c : Call) → IsSettled journal → call_in held.event ≡ Some c
    → is_terminated journal c.callee ≡ false
open_callee journal u p held c settled says =
    let by : u ≡ c.by = same_Some u c.by (sym held.holds ∙ held_in-call held.event c says) in
    (active_parts journal c.callee (no_open_call_to_a_finished_task journal settled c p (record {
      stands = record { event = held.event; stands = held.stands; says = says };
      unreleased = held.unreleased;
      live = subst (λ (n : ℕ). has_ended journal n ≡ false) by held.live;
    })).0).1

closing_inside : (journal : List Event) (u p : ℕ) (held : IsSuspendedAt journal u p) (k : Closing) → IsLawfulUnlimited journal
    → closing_in held.event ≡ Some k → (is_live journal u ≡ true) × (list_any (is_block k.block) (nest journal u) ≡ true)
closing_inside journal u p held k lawful says =
    let by : k.by ≡ u = same_Some k.by u (sym (held_in-closing held.event k says) ∙ held.holds) in
    let live = live_from journal u ((lawful_orderly journal lawful).exist u p held) (active_parts journal u held.live).1 in
    let own = closed_own journal p held.event k lawful held.stands says held.unreleased (subst (λ (n : ℕ). has_ended journal n ≡ false) (sym by) held.live) in
    (live, subst (λ (n : ℕ). list_any (is_block k.block) (nest journal n) ≡ true) by (own_nested journal k.by k.block own))

settled_quiet : (journal : List Event) → IsLawfulUnlimited journal → IsSettled journal → IsQuiet journal
settled_quiet journal lawful settled = record {
  orderly = lawful_orderly journal lawful;
  callees = λ u p held c says. open_callee journal u p held c settled says;
  closes = λ u p held k says. closing_inside journal u p held k lawful says;
  within = λ u m live unstarted is. made_lived journal u m lawful settled live unstarted is;
}

pub fewer_names_stand_in : FewerNamesStandIn
fewer_names_stand_in old new names fewer stands enough lawful settled =
    fewer_stand_in old new names fewer stands enough (settled_quiet old lawful settled)
