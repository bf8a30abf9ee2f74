-- Nests of tasks that stand for one another: of the same length, with members that pass tests alike, and frames that stand for one another.
use Rattle.std.proofs.Common.{◌≡◌, ℕ, ◌-◌, Bool, true, Option, Some, None, List, [], ◌∷◌, length, map, refl, sym, ap, ◌∙◌, subst}
use Rattle.std.specs.Option.{option_map, option_map_or}
use Rattle.std.specs.List.{list_any, Contains, slice_get}
use Rattle.std.proofs.lemmas.List.{length-map}
use Rattle.std.proofs.lemmas.Option.{none-some, same_Some, slice_get-map}
use Rattle.ada_events.specs.declared.event.Event.{Event}
use Rattle.ada_events.specs.declared.names.Master.{Master}
use Rattle.ada_events.specs.declared.names.Master.TheVariants.{Body, Block}
use Rattle.ada_events.specs.declared.names.Member.{Member}
use Rattle.ada_events.specs.declared.names.Member.TheVariants.{Block as BlockMember, Rendezvous}
use Rattle.ada_events.specs.Nests.{nest, innermost, innermost_block, frame}
use Rattle.ada_events.specs.Calls.{is_open_call}
use Rattle.ada_events.specs.Forced.{task_no}
use Rattle.ada_events.specs.Refusals.{is_rendezvous, is_rendezvous_for}
use Rattle.ada_laws.proofs.searching.Gathering.{Contains-first, Contains-later}
use Rattle.ada_laws.proofs.within.Members.{nest_open}
use Rattle.ada_laws.proofs.searching.Searching.{option_map-some, option_map_or-true}
use Rattle.ada_standing.specs.Renaming.{Renaming, renamed_master, renamed_member}
use Rattle.ada_standing.specs.StandsIn.{StandsIn, is_live}
use Rattle.ada_standing.proofs.alike.Orderly.{IsOrderly, IsLivedIn}
use Rattle.ada_standing.proofs.alike.Kinds.{AreBoth, calls_alike}
use Rattle.ada_standing.proofs.alike.Pairs.{IsPair, pair_forth}
use Rattle.ada_standing.proofs.alike.Calling.{open_held}
use Rattle.ada_standing.proofs.lawful.Nesting.{IsOwn, frame_own, own_nested}

-- the second list is what the members of the first one are renamed to
abbrev pub AreRenamed : Renaming → List Member → List Member → Type 0
AreRenamed names xs ys = map Some ys ≡ map (renamed_member names) xs

pub same_lengths : (names : Renaming) (xs ys : List Member) → AreRenamed names xs ys → length ys ≡ length xs
same_lengths names xs ys same = sym (length-map ys Some) ∙ (ap length same ∙ length-map xs (renamed_member names))

-- tests that renamed members pass alike
pub members_alike : (names : Renaming) (test there : Member → Bool) (xs ys : List Member) → AreRenamed names xs ys
    → ((x y : Member) → Contains xs x → renamed_member names x ≡ Some y → there y ≡ test x) → list_any there ys ≡ list_any test xs
members_alike names test there [] [] same alike = refl
members_alike names test there [] (y ∷ ys) same alike = absurd (cc)
members_alike names test there (x ∷ xs) [] same alike = absurd (cc)
members_alike names test there (x ∷ xs) (y ∷ ys) same alike =
    let head : Some y ≡ renamed_member names x = cc in
    rw (
      alike x y (Contains-first x xs) (sym head),
      members_alike names test there xs ys (cc) (λ a b within is. alike a b (Contains-later x a xs within) is),
    ) refl

-- the innermost members stand for one another
pub innermost_alike : (names : Renaming) (xs ys : List Member) → AreRenamed names xs ys
    → option_map Some (innermost ys) ≡ option_map (renamed_member names) (innermost xs)
innermost_alike names xs ys same =
    sym (slice_get-map Some ys (length ys - 1))
    ∙ (ap (λ (l : List (Option Member)). slice_get l (length ys - 1)) same
    ∙ (slice_get-map (renamed_member names) xs (length ys - 1)
    ∙ ap (λ n. option_map (renamed_member names) (slice_get xs (n - 1))) (same_lengths names xs ys same)))

-- renamed members are rendezvous alike
pub rendezvous_alike : (names : Renaming) (x y : Member) → renamed_member names x ≡ Some y → is_rendezvous y ≡ is_rendezvous x
unfolding renamed_member
rendezvous_alike names (BlockMember p) y is = ap is_rendezvous (sym (option_map-some BlockMember (names.position p) y is).2)
rendezvous_alike names (Rendezvous call) y is = ap is_rendezvous (sym (option_map-some Rendezvous (names.position call) y is).2)

pub innermost_rendezvous : (names : Renaming) (xs ys : List Member) (default : Bool) → AreRenamed names xs ys
    → option_map_or is_rendezvous (innermost ys) default ≡ option_map_or is_rendezvous (innermost xs) default
innermost_rendezvous names xs ys default same = by_option (innermost xs) (innermost ys) (innermost_alike names xs ys same)
  where
    by_option : (o n : Option Member) → option_map Some n ≡ option_map (renamed_member names) o
        → option_map_or is_rendezvous n default ≡ option_map_or is_rendezvous o default
    by_option None None is = refl
    by_option (Some x) (Some y) is = rendezvous_alike names x y (sym (same_Some (Some y) (renamed_member names x) is))
    by_option None (Some y) is = absurd (none-some (Some y) (sym is))
    by_option (Some x) None is = absurd (none-some (renamed_member names x) is)

-- a rendezvous with a call at which a task is suspended is for the family that the rendezvous is for with the call that stands for it
pair_rendezvous : (old new : List Event) (names : Renaming) (family p q : ℕ) → IsPair old new names p q
    → is_rendezvous_for new family (Rendezvous q) ≡ is_rendezvous_for old family (Rendezvous p)
unfolding is_rendezvous_for
pair_rendezvous old new names family p q pair =
    elim (calls_alike old new names p q pair.held.event pair.holds.event pair.alike) [
      | AreBoth.both c b is has same ↦ rw (pair.held.stands, pair.holds.stands, is, has, same.entry) refl
      | AreBoth.neither is has ↦ rw (pair.held.stands, pair.holds.stands, is, has) refl
    ]

open_pair : (old new : List Event) (names : Renaming) (p : ℕ) → StandsIn old new names → IsOrderly old → is_open_call old p ≡ true
    → (q : ℕ) × IsPair old new names p q
unfolding is_open_call
open_pair old new names p stands orderly opened =
    let (e, at, opens) = option_map_or-true _ _ opened in
    let (t, held) = open_held old p e at opens in
    pair_forth old new names t p stands orderly held

-- the rendezvous of a nest are for the families that the renamed ones are for
pub family_alike : (old new : List Event) (names : Renaming) (u family : ℕ) (x y : Member) → StandsIn old new names → IsOrderly old
    → Contains (nest old u) x → renamed_member names x ≡ Some y → is_rendezvous_for new family y ≡ is_rendezvous_for old family x
unfolding renamed_member is_rendezvous_for
family_alike old new names u family (BlockMember p) y stands orderly within is =
    ap (is_rendezvous_for new family) (sym (option_map-some BlockMember (names.position p) y is).2)
family_alike old new names u family (Rendezvous call) y stands orderly within is =
    let (q, placed, made) = option_map-some Rendezvous (names.position call) y is in
    let (at, pair) = open_pair old new names call stands orderly (nest_open old u call within) in
    let one : at ≡ q = same_Some at q (sym pair.placed ∙ placed) in
    ap (is_rendezvous_for new family) (sym made)
    ∙ (ap (λ n. is_rendezvous_for new family (Rendezvous n)) (sym one) ∙ pair_rendezvous old new names family call at pair)

-- frames stand for one another

blocks_alike : (names : Renaming) (outer beside : Master) (xs ys : List Member) → AreRenamed names xs ys → renamed_master names outer ≡ Some beside
    → renamed_master names (innermost_block outer xs) ≡ Some (innermost_block beside ys)
unfolding innermost_block renamed_member renamed_master
blocks_alike names outer beside [] [] same is = is
blocks_alike names outer beside [] (y ∷ ys) same is = absurd (cc)
blocks_alike names outer beside (x ∷ xs) [] same is = absurd (cc)
blocks_alike names outer beside (BlockMember p ∷ xs) (y ∷ ys) same is =
    let head : Some y ≡ option_map BlockMember (names.position p) = cc in
    let (q, placed, made) = option_map-some BlockMember (names.position p) y (sym head) in
    subst (λ (m : Member). renamed_master names (innermost_block (Block p) xs) ≡ Some (innermost_block beside (m ∷ ys))) made
    (blocks_alike names (Block p) (Block q) xs ys (cc) (ap (option_map Block) placed))
blocks_alike names outer beside (Rendezvous call ∷ xs) (y ∷ ys) same is =
    let head : Some y ≡ option_map Rendezvous (names.position call) = cc in
    let (q, placed, made) = option_map-some Rendezvous (names.position call) y (sym head) in
    subst (λ (m : Member). renamed_master names (innermost_block outer xs) ≡ Some (innermost_block beside (m ∷ ys))) made
    (blocks_alike names outer beside xs ys (cc) is)

pub frame_alike : (names : Renaming) (old new : List Event) (u v : ℕ) → names.task u ≡ Some v → AreRenamed names (nest old u) (nest new v)
    → renamed_master names (frame old u) ≡ Some (frame new v)
unfolding frame renamed_master
frame_alike names old new u v named same =
    blocks_alike names (Body (task_no u)) (Body (task_no v)) (nest old u) (nest new v) same (ap (option_map (λ w. Body (task_no w))) named)

-- a live task is within its frame
pub frame_lived : (journal : List Event) (u : ℕ) → is_live journal u ≡ true → IsLivedIn journal (frame journal u)
frame_lived journal u live = by_own (frame journal u) (frame_own journal u)
  where
    by_own : (x : Master) → IsOwn journal u x → IsLivedIn journal x
    by_own x (IsOwn.own_body) = IsLivedIn.body (task_no u) live
    by_own x (IsOwn.own_block p own) = IsLivedIn.block u p live (own_nested journal u p own)
