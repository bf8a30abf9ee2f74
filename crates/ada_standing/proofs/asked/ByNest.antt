-- The causes that have to do with the nest of the task that asks apply alike.
use Rattle.std.proofs.Common.{◌≡◌, ℕ, true, false, not, List, refl, ap}
use Rattle.std.specs.List.{list_any}
use Rattle.ada_events.specs.declared.event.Event.{Event}
use Rattle.ada_events.specs.declared.request.Request.{Request}
use Rattle.ada_events.specs.declared.request.Request.TheVariants.{Open, Elaborated, Wait, End, Close, Complete}
use Rattle.ada_events.specs.declared.request.Tail.TheVariants.{Nothing, Otherwise, Delays, Terminate}
use Rattle.ada_events.specs.declared.names.Choice.{Choice}
use Rattle.ada_events.specs.Nests.{nest}
use Rattle.ada_events.specs.Asks.{asker}
use Rattle.ada_events.specs.Limits.{is_too_deep}
use Rattle.ada_events.specs.Refusals.{is_rendezvous, is_rendezvous_for, nests_same_family, terminates_in_accept, is_not_in_accept, has_no_block}
use Rattle.ada_events.specs.Refusals.{is_still_nested}
use Rattle.ada_standing.specs.Renaming.{Renaming}
use Rattle.ada_standing.specs.StandsIn.{StandsIn}
use Rattle.ada_standing.specs.Asking.{renamed_request}
use Rattle.ada_standing.proofs.alike.Orderly.{IsOrderly}
use Rattle.ada_standing.proofs.alike.Pairs.{active_parts}
use Rattle.ada_standing.proofs.asked.Naming.{IsAsker, IsAsking}
use Rattle.ada_standing.proofs.asked.Nested.{AreRenamed, same_lengths, members_alike, rendezvous_alike, innermost_rendezvous, family_alike}
use Rattle.ada_standing.proofs.asked.ByEntry.{any_same}

pub nests_alike : (old new : List Event) (names : Renaming) (u : ℕ) → StandsIn old new names → (asker : IsAsker old names u)
    → AreRenamed names (nest old u) (nest new asker.stand)
nests_alike old new names u stands asker = (stands.nests u asker.stand asker.named (active_parts old u asker.active).1).members

pub same_family_alike : (old new : List Event) (names : Renaming) (request : Request) → StandsIn old new names → IsOrderly old
    → IsAsking old names request → nests_same_family new (renamed_request names request) ≡ nests_same_family old request
unfolding nests_same_family renamed_request asker
same_family_alike old new names (Wait by choices tail pick) stands orderly asking =
    let asker = asking.by by.0 refl in
    rw asker.named
    (any_same (λ (c : Choice). list_any (is_rendezvous_for old c.entry.family) (nest old by.0))
    (λ (c : Choice). list_any (is_rendezvous_for new c.entry.family) (nest new asker.stand)) choices
    (λ c.
    members_alike names (is_rendezvous_for old c.entry.family) (is_rendezvous_for new c.entry.family) (nest old by.0) (nest new asker.stand)
    (nests_alike old new names by.0 stands asker)
    (λ x y within is. family_alike old new names by.0 c.entry.family x y stands orderly within is)))
same_family_alike old new names _ stands orderly asking = refl

pub terminate_alike : (old new : List Event) (names : Renaming) (request : Request) → StandsIn old new names → IsAsking old names request
    → terminates_in_accept new (renamed_request names request) ≡ terminates_in_accept old request
unfolding terminates_in_accept renamed_request asker
terminate_alike old new names (Wait by choices (Terminate guard) pick) stands asking =
    let asker = asking.by by.0 refl in
    rw asker.named
    (members_alike names is_rendezvous is_rendezvous (nest old by.0) (nest new asker.stand) (nests_alike old new names by.0 stands asker)
    (λ x y within is. rendezvous_alike names x y is))
terminate_alike old new names (Wait by choices (Nothing) pick) stands asking = refl
terminate_alike old new names (Wait by choices (Otherwise) pick) stands asking = refl
terminate_alike old new names (Wait by choices (Delays pauses) pick) stands asking = refl
terminate_alike old new names _ stands asking = refl

pub not_in_accept_alike : (old new : List Event) (names : Renaming) (request : Request) → StandsIn old new names → IsAsking old names request
    → is_not_in_accept new (renamed_request names request) ≡ is_not_in_accept old request
unfolding is_not_in_accept renamed_request asker
not_in_accept_alike old new names (End by raised) stands asking =
    let asker = asking.by by.0 refl in
    rw asker.named
    (ap not (innermost_rendezvous names (nest old by.0) (nest new asker.stand) false (nests_alike old new names by.0 stands asker)))
not_in_accept_alike old new names _ stands asking = refl

pub no_block_alike : (old new : List Event) (names : Renaming) (request : Request) → StandsIn old new names → IsAsking old names request
    → has_no_block new (renamed_request names request) ≡ has_no_block old request
unfolding has_no_block renamed_request asker
no_block_alike old new names (Close by) stands asking =
    let asker = asking.by by.0 refl in
    rw asker.named (innermost_rendezvous names (nest old by.0) (nest new asker.stand) true (nests_alike old new names by.0 stands asker))
no_block_alike old new names _ stands asking = refl

pub still_nested_alike : (old new : List Event) (names : Renaming) (request : Request) → StandsIn old new names → IsAsking old names request
    → is_still_nested new (renamed_request names request) ≡ is_still_nested old request
unfolding is_still_nested renamed_request asker
still_nested_alike old new names (Complete by) stands asking =
    let asker = asking.by by.0 refl in
    rw (asker.named, same_lengths names (nest old by.0) (nest new asker.stand) (nests_alike old new names by.0 stands asker)) refl
still_nested_alike old new names (Elaborated by ok) stands asking =
    let asker = asking.by by.0 refl in
    rw (asker.named, same_lengths names (nest old by.0) (nest new asker.stand) (nests_alike old new names by.0 stands asker)) refl
still_nested_alike old new names _ stands asking = refl

pub too_deep_alike : (old new : List Event) (names : Renaming) (request : Request) → StandsIn old new names → IsAsking old names request
    → is_too_deep new (renamed_request names request) ≡ is_too_deep old request
unfolding is_too_deep renamed_request asker
too_deep_alike old new names (Open by) stands asking =
    let asker = asking.by by.0 refl in
    rw (asker.named, same_lengths names (nest old by.0) (nest new asker.stand) (nests_alike old new names by.0 stands asker)) refl
too_deep_alike old new names (Wait by choices tail pick) stands asking =
    let asker = asking.by by.0 refl in
    rw (asker.named, same_lengths names (nest old by.0) (nest new asker.stand) (nests_alike old new names by.0 stands asker)) refl
too_deep_alike old new names _ stands asking = refl
