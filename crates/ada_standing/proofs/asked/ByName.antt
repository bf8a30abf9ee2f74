-- The causes that have to do with tasks and empty lists apply alike.
use Rattle.std.proofs.Common.{◌≡◌, ◌⊎◌, ℕ, true, false, not, Option, Some, None, List, [], ◌∷◌, refl, sym, ap, ◌∙◌, subst, inl, inr}
use Rattle.std.specs.Option.{option_map}
use Rattle.std.proofs.lemmas.List.{length-map}
use Rattle.std.proofs.lemmas.Bool.{or_cases, false_from_ne_true}
use Rattle.std.proofs.lemmas.Option.{none-some, same_Some}
use Rattle.ada_events.specs.declared.event.Event.{Event}
use Rattle.ada_events.specs.declared.request.Request.{Request}
use Rattle.ada_events.specs.declared.request.Request.TheVariants.{Create, Activate, Elaborated, Wait, End, Complete, Abort}
use Rattle.ada_events.specs.declared.names.Master.{Master}
use Rattle.ada_events.specs.declared.names.Master.TheVariants.{Body, Block}
use Rattle.ada_events.specs.Search.{is_some_and, event_at}
use Rattle.ada_events.specs.Masters.{same_master, reaches}
use Rattle.ada_events.specs.Phases.{is_elaborated}
use Rattle.ada_events.specs.Nests.{frame}
use Rattle.ada_events.specs.Asks.{asker, body_task, named_tasks}
use Rattle.ada_events.specs.Refusals.{is_during_activation, is_not_activating, is_not_your_master, has_empty_list}
use Rattle.ada_laws.specs.Masters.{parent_of}
use Rattle.ada_laws.proofs.searching.Searching.{option_map_or-true}
use Rattle.ada_laws.proofs.within.Reaching.{same_master-true}
use Rattle.ada_standing.specs.Renaming.{Renaming, renamed_master}
use Rattle.ada_standing.specs.StandsIn.{StandsIn, is_live}
use Rattle.ada_standing.specs.Asking.{asked_task, asked_master, renamed_request}
use Rattle.ada_standing.proofs.alike.Orderly.{IsOrderly, IsLivedIn, IsClimb}
use Rattle.ada_standing.proofs.alike.Pairs.{live_alike, live_parts}
use Rattle.ada_standing.proofs.alike.Mastering.{lived_forth, lived_known, parent_lived, reaches_alike}
use Rattle.ada_standing.proofs.asked.Naming.{asked_for, HaveNames, IsAsker, asker_live, IsAsking}
use Rattle.ada_standing.proofs.asked.Nested.{frame_alike, frame_lived}
use Rattle.ada_events.proofs.Positions.{event_at-other}

elaborated_alike : (old new : List Event) (names : Renaming) (u : ℕ) → StandsIn old new names → IsAsker old names u
    → is_elaborated new (asked_for names u) ≡ is_elaborated old u
elaborated_alike old new names u stands asker = rw asker.named (stands.active u asker.stand asker.named asker.active).elaborated

pub during_alike : (old new : List Event) (names : Renaming) (request : Request) → StandsIn old new names → IsAsking old names request
    → is_during_activation new (renamed_request names request) ≡ is_during_activation old request
unfolding is_during_activation renamed_request asker
during_alike old new names (Wait by choices tail pick) stands asking = ap not (elaborated_alike old new names by.0 stands (asking.by by.0 refl))
during_alike old new names (End by raised) stands asking = ap not (elaborated_alike old new names by.0 stands (asking.by by.0 refl))
during_alike old new names (Complete by) stands asking = ap not (elaborated_alike old new names by.0 stands (asking.by by.0 refl))
during_alike old new names _ stands asking = refl

pub not_activating_alike : (old new : List Event) (names : Renaming) (request : Request) → StandsIn old new names → IsAsking old names request
    → is_not_activating new (renamed_request names request) ≡ is_not_activating old request
unfolding is_not_activating renamed_request asker
not_activating_alike old new names (Elaborated by ok) stands asking = elaborated_alike old new names by.0 stands (asking.by by.0 refl)
not_activating_alike old new names _ stands asking = refl

-- what is reached from a master is that, or is reached from its parent
reached_ways : (journal : List Event) (x z : Master) → IsOrderly journal → IsLivedIn journal x → reaches journal x z ≡ true
    → (x ≡ z) ⊎ ((w : Master) × (parent_of journal x ≡ Some w) × (reaches journal w z ≡ true))
reached_ways journal x z orderly lived reached =
    elim (or_cases (same_master x z) (is_some_and (parent_of journal x) (λ (w : Master). reaches journal w z))
    (sym (orderly.reach x z (lived_known journal x lived)) ∙ reached)) [
      | inl same ↦ inl (same_master-true x z same)
      | inr further ↦ inr (option_map_or-true (λ (w : Master). reaches journal w z) (parent_of journal x) further)
    ]

-- what is reached from a master that live tasks are within is one too
reached_lived : (journal : List Event) (x z : Master) → IsOrderly journal → IsClimb journal x → IsLivedIn journal x → reaches journal x z ≡ true
    → IsLivedIn journal z
reached_lived journal x z orderly (IsClimb.top m none) lived reached =
    elim (reached_ways journal x z orderly lived reached) [
      | inl same ↦ subst (IsLivedIn journal) same lived
      | inr further ↦ absurd (none-some further.0 (sym none ∙ further.1))
    ]
reached_lived journal x z orderly (IsClimb.up m w is climb) lived reached =
    elim (reached_ways journal x z orderly lived reached) [
      | inl same ↦ subst (IsLivedIn journal) same lived
      | inr further ↦
          let one : further.0 ≡ w = same_Some further.0 w (sym further.1 ∙ is) in
          reached_lived journal w z orderly climb (parent_lived journal x w orderly lived is) (subst (λ (y : Master). reaches journal y z ≡ true) one further.2)
    ]

-- a block without a name is reached by nobody, nor is a block at a position that is none

pub block_unreached : (old new : List Event) (names : Renaming) (x : Master) (p : ℕ) → StandsIn old new names → IsOrderly old → IsLivedIn old x
    → names.position p ≡ None → reaches old x (Block p) ≡ false
unfolding renamed_master
block_unreached old new names x p stands orderly lived unnamed =
    false_from_ne_true (reaches old x (Block p)) (λ reached.
    let within = reached_lived old x (Block p) orderly (orderly.climb x (lived_known old x lived)) lived reached in
    let (y, is, beside) = lived_forth old new names (Block p) stands within in
    none-some y (sym (ap (option_map Block) unnamed) ∙ is))

no_event : (journal : List Event) → event_at journal 0 ≡ None
unfolding event_at
no_event [] = refl
no_event (event ∷ before) = event_at-other event before 0 (λ same. absurd (cc)) ∙ no_event before

nothing_unreached : (journal : List Event) (x : Master) → IsOrderly journal → IsLivedIn journal x → reaches journal x (Block 0) ≡ false
nothing_unreached journal x orderly lived =
    false_from_ne_true (reaches journal x (Block 0)) (λ reached.
    let within = reached_lived journal x (Block 0) orderly (orderly.climb x (lived_known journal x lived)) lived reached in
    let known = lived_known journal (Block 0) within in
    none-some known.event (sym (no_event journal) ∙ known.stands))

-- a master is reached from the frame of the task that asks as the one that stands for it is

named_reached : (old new : List Event) (names : Renaming) (u : ℕ) (z w : Master) → StandsIn old new names → IsOrderly old → IsOrderly new
    → (asker : IsAsker old names u) → is_live old u ≡ true → renamed_master names z ≡ Some w
    → reaches new (frame new asker.stand) w ≡ reaches old (frame old u) z
named_reached old new names u z w stands orderly also asker live is =
    let v = asker.stand in
    let lives = live_alike old new names u v stands asker.named ∙ live in
    let lived = frame_lived old u live in
    let members = (stands.nests u v asker.named (live_parts old u live).1).members in
    sym (reaches_alike old new names (frame old u) z (frame new v) w stands orderly also (orderly.climb (frame old u) (lived_known old (frame old u) lived))
    lived (frame_lived new v lives) (frame_alike names old new u v asker.named members) is)

master_alike : (old new : List Event) (names : Renaming) (u : ℕ) (z : Master) → StandsIn old new names → IsOrderly old → IsOrderly new
    → (asker : IsAsker old names u) → HaveNames names (body_task z)
    → reaches new (frame new asker.stand) (asked_master names z) ≡ reaches old (frame old u) z
unfolding asked_master renamed_master
master_alike old new names u (Body t) stands orderly also asker have =
    let named : names.task t.0 ≡ Some have.0.0 = have.0.1 in
    named_reached old new names u (Body t) (Body (asked_task names t)) stands orderly also asker (asker_live old new names u stands asker)
    (rw named refl)
master_alike old new names u (Block p) stands orderly also asker have = by_name (names.position p) refl
  where
    live : is_live old u ≡ true
    live = asker_live old new names u stands asker

    by_name : (o : Option ℕ) → names.position p ≡ o → reaches new (frame new asker.stand) (asked_master names (Block p)) ≡ reaches old (frame old u) (Block p)
    by_name (Some q) is =
        rw is (named_reached old new names u (Block p) (Block q) stands orderly also asker live (ap (option_map Block) is))
    by_name None is =
        rw is
        (nothing_unreached new (frame new asker.stand) also
        (frame_lived new asker.stand (live_alike old new names u asker.stand stands asker.named ∙ live))
        ∙ sym (block_unreached old new names (frame old u) p stands orderly (frame_lived old u live) is))

pub not_your_master_alike : (old new : List Event) (names : Renaming) (request : Request) → StandsIn old new names → IsOrderly old → IsOrderly new
    → IsAsking old names request → is_not_your_master new (renamed_request names request) ≡ is_not_your_master old request
unfolding is_not_your_master renamed_request asker named_tasks
not_your_master_alike old new names (Create by master families) stands orderly also asking =
    let asker = asking.by by.0 refl in
    rw asker.named (ap not (master_alike old new names by.0 master stands orderly also asker asking.tasks))
not_your_master_alike old new names _ stands orderly also asking = refl

pub empty_list_alike : (names : Renaming) (request : Request) → has_empty_list (renamed_request names request) ≡ has_empty_list request
unfolding has_empty_list renamed_request
empty_list_alike names (Activate by tasks) = rw (length-map tasks (asked_task names)) refl
empty_list_alike names (Abort by tasks) = rw (length-map tasks (asked_task names)) refl
empty_list_alike names (Wait by choices tail pick) = refl
empty_list_alike names _ = refl
