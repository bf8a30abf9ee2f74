-- Masters that live tasks are within: the same reach one another, the same tasks depend on them, and they are complete alike.
use Rattle.std.proofs.Common.{◌≡◌, ℕ, ◌<◌, Bool, true, false, not, ◌||◌, eqb, Option, Some, None, List, [], ◌∷◌, map, refl, sym, ap, ◌∙◌}
use Rattle.std.proofs.Common.{subst, inl, inr, arith}
use Rattle.std.specs.Option.{option_map, option_map_or, option_and_then}
use Rattle.std.specs.List.{list_any}
use Rattle.std.proofs.lemmas.Bool.{cases_order, or_cases, or_left, or_right, or_parts, eq-eqb, eqb-true, true≢false, false≢true}
use Rattle.std.proofs.lemmas.Bool.{true_from_ne_false}
use Rattle.std.proofs.lemmas.Option.{same_Some}
use Rattle.ada_events.specs.declared.event.Event.{Event}
use Rattle.ada_events.specs.declared.names.Master.{Master}
use Rattle.ada_events.specs.declared.names.Master.TheVariants.{Body, Block}
use Rattle.ada_events.specs.declared.names.Member.{Member}
use Rattle.ada_events.specs.declared.names.Member.TheVariants.{Block as BlockMember, Rendezvous}
use Rattle.ada_events.specs.Search.{all_below}
use Rattle.ada_events.specs.Tasks.{task_count}
use Rattle.ada_events.specs.Masters.{same_master, reaches, depends_on}
use Rattle.ada_events.specs.Phases.{is_terminated}
use Rattle.ada_events.specs.Nests.{nest}
use Rattle.ada_events.specs.Termination.{all_terminated, is_complete}
use Rattle.ada_events.specs.Forced.{task_no}
use Rattle.ada_laws.specs.Masters.{parent_of, IsKnown}
use Rattle.ada_laws.proofs.searching.Searching.{all_below-fails, all_below-holds, option_map-some}
use Rattle.ada_laws.proofs.within.Reaching.{reaches-same}
use Rattle.ada_laws.proofs.within.Parents.{same_truth}
use Rattle.ada_standing.specs.Renaming.{Renaming, renamed_master, renamed_member, renamed_parent}
use Rattle.ada_events.specs.Holders.{is_block}
use Rattle.ada_standing.specs.StandsIn.{StandsIn, KeepsTasks, is_live}
use Rattle.ada_standing.proofs.alike.Orderly.{IsOrderly, IsLivedIn, IsClimb}
use Rattle.ada_standing.proofs.lawful.Nesting.{nested_own}
use Rattle.ada_standing.proofs.alike.Pairs.{live_from, live_parts, live_alike, live_back}

-- no task stands for two
pub task_one : (old new : List Event) (names : Renaming) (s t v : ℕ) → KeepsTasks old new names → names.task s ≡ Some v → names.task t ≡ Some v → s ≡ t
task_one old new names s t v keeps first second = elim (cases_order s t) [
  | inl same ↦ same
  | inr other ↦ elim other [
    | inl less ↦
        let below : v < v = keeps.rising s t v v first second less in
        omega arith
    | inr more ↦
        let below : v < v = keeps.rising t s v v second first more in
        omega arith
  ]
]

-- two numbers are the same alike, where what stands for them is
pub eqb_alike : (to : ℕ → Option ℕ) (s t u v : ℕ) → ((s t v : ℕ) → to s ≡ Some v → to t ≡ Some v → s ≡ t) → to s ≡ Some u → to t ≡ Some v → eqb s t ≡ eqb u v
eqb_alike to s t u v one first second =
    same_truth (eqb s t) (eqb u v)
    (λ same. eq-eqb u v (same_Some u v (sym first ∙ (ap to (eqb-true s t same) ∙ second))))
    (λ same. eq-eqb s t (one s t v (first ∙ ap Some (eqb-true u v same)) second))

-- the block in the nest of a task, and the one that stands for it

block_forth : (names : Renaming) (p : ℕ) (xs ys : List Member) → map Some ys ≡ map (renamed_member names) xs → list_any (is_block p) xs ≡ true
    → (q : ℕ) × (names.position p ≡ Some q) × (list_any (is_block q) ys ≡ true)
unfolding renamed_member
block_forth names p [] ys same has = absurd (false≢true has)
block_forth names p (x ∷ xs) [] same has = absurd cc
block_forth names p (BlockMember r ∷ xs) (y ∷ ys) same has =
    let head : Some y ≡ option_map BlockMember (names.position r) = cc in
    let tail : map Some ys ≡ map (renamed_member names) xs = cc in
    elim (or_cases (eqb r p) (list_any (is_block p) xs) has) [
      | inl here ↦
          let (q, is, made) = option_map-some BlockMember (names.position r) y (sym head) in
          let first : is_block q y ≡ true = ap (is_block q) (sym made) ∙ eq-eqb q q refl in
          (q, ap names.position (sym (eqb-true r p here)) ∙ is, or_left (is_block q y) (list_any (is_block q) ys) first)
      | inr later ↦
          let (q, is, there) = block_forth names p xs ys tail later in
          (q, is, or_right (is_block q y) (list_any (is_block q) ys) there)
    ]
block_forth names p (Rendezvous call ∷ xs) (y ∷ ys) same has =
    let (q, is, there) = block_forth names p xs ys (cc) has in
    (q, is, or_right (is_block q y) (list_any (is_block q) ys) there)

block_back : (names : Renaming) (q : ℕ) (xs ys : List Member) → map Some ys ≡ map (renamed_member names) xs → list_any (is_block q) ys ≡ true
    → (p : ℕ) × (names.position p ≡ Some q) × (list_any (is_block p) xs ≡ true)
unfolding renamed_member
block_back names q xs [] same has = absurd (false≢true has)
block_back names q [] (y ∷ ys) same has = absurd cc
block_back names q (x ∷ xs) (Rendezvous call ∷ ys) same has =
    let (p, is, there) = block_back names q xs ys (cc) has in
    (p, is, or_right (is_block p x) (list_any (is_block p) xs) there)
block_back names q (x ∷ xs) (BlockMember r ∷ ys) same has =
    let head : Some (BlockMember r) ≡ renamed_member names x = cc in
    elim (or_cases (eqb r q) (list_any (is_block q) ys) has) [
      | inl here ↦
          let (p, is, made) = member_back names x r (sym head) in
          (p, is ∙ ap Some (eqb-true r q here), or_left (is_block p x) (list_any (is_block p) xs) made)
      | inr later ↦
          let (p, is, there) = block_back names q xs ys (cc) later in
          (p, is, or_right (is_block p x) (list_any (is_block p) xs) there)
    ]
  where
    member_back : (names : Renaming) (x : Member) (r : ℕ) → renamed_member names x ≡ Some (BlockMember r)
        → (p : ℕ) × (names.position p ≡ Some r) × (is_block p x ≡ true)
    member_back names (BlockMember p) r same =
        let (q, is, made) = option_map-some BlockMember (names.position p) (BlockMember r) same in
        (p, is ∙ ap Some cc, eq-eqb p p refl)
    member_back names (Rendezvous call) r same =
        let (q, is, made) = option_map-some Rendezvous (names.position call) (BlockMember r) same in
        absurd cc

-- a master that live tasks are within has one that stands for it, which live tasks are within too

pub lived_forth : (old new : List Event) (names : Renaming) (x : Master) → StandsIn old new names → IsLivedIn old x
    → (y : Master) × (renamed_master names x ≡ Some y) × IsLivedIn new y
unfolding renamed_master
lived_forth old new names x stands (IsLivedIn.body t live) =
    let (v, named) = stands.tasks.live t.0 live in
    (Body (task_no v), rw named refl, IsLivedIn.body (task_no v) (live_alike old new names t.0 v stands named ∙ live))
lived_forth old new names x stands (IsLivedIn.block task p live within) =
    let (v, named) = stands.tasks.live task live in
    let same = stands.nests task v named (live_parts old task live).1 in
    let (q, placed, there) = block_forth names p (nest old task) (nest new v) same.members within in
    (Block q, rw placed refl, IsLivedIn.block v q (live_alike old new names task v stands named ∙ live) there)

pub lived_back : (old new : List Event) (names : Renaming) (y : Master) → StandsIn old new names → IsLivedIn new y
    → (x : Master) × (renamed_master names x ≡ Some y) × IsLivedIn old x
unfolding renamed_master
lived_back old new names y stands (IsLivedIn.body t live) =
    let (u, named, lives) = live_back old new names t.0 stands live in
    (Body (task_no u), rw named refl, IsLivedIn.body (task_no u) lives)
lived_back old new names y stands (IsLivedIn.block task q live within) =
    let (u, named, lives) = live_back old new names task stands live in
    let same = stands.nests u task named (live_parts old u lives).1 in
    let (p, placed, there) = block_back names q (nest old u) (nest new task) same.members within in
    (Block p, rw placed refl, IsLivedIn.block u p lives there)

pub lived_known : (journal : List Event) (x : Master) → IsLivedIn journal x → IsKnown journal x
lived_known journal x (IsLivedIn.body t live) = (live_parts journal t.0 live).0
lived_known journal x (IsLivedIn.block task p live within) =
    let block = (nested_own journal task p within).block in
    record { event = block.event; opening = block.opening; stands = block.stands; says = block.says }

-- the parent of such a master is one too
pub parent_lived : (journal : List Event) (x z : Master) → IsOrderly journal → IsLivedIn journal x → parent_of journal x ≡ Some z → IsLivedIn journal z
parent_lived journal x z orderly (IsLivedIn.body t live) is =
    orderly.masters t.0 z live (orderly.depend t z ∙ rw is (reaches-same journal z))
parent_lived journal x z orderly (IsLivedIn.block task p live within) is = orderly.parents p z (IsLivedIn.block task p live within) is

-- and what stands for it is the parent of what stands for the master
pub parent_alike : (old new : List Event) (names : Renaming) (x y : Master) → StandsIn old new names → IsLivedIn old x → renamed_master names x ≡ Some y
    → parent_of new y ≡ renamed_parent names old x
unfolding renamed_master
parent_alike old new names x y stands (IsLivedIn.body t live) is =
    let (v, named, made) = option_map-some (λ v. Body (task_no v)) (names.task t.0) y is in
    subst (λ (m : Master). parent_of new m ≡ renamed_parent names old (Body t)) made
    (stands.dependents t.0 v named (live_parts old t.0 live).1).master
parent_alike old new names x y stands (IsLivedIn.block task p live within) is =
    let (v, named) = stands.tasks.live task live in
    let (q, placed, made) = option_map-some Block (names.position p) y is in
    subst (λ (m : Master). parent_of new m ≡ renamed_parent names old (Block p)) made
    ((stands.nests task v named (live_parts old task live).1).blocks p q within placed).within

-- masters are the same alike
pub same_master_alike : (old new : List Event) (names : Renaming) (x z y w : Master) → StandsIn old new names → renamed_master names x ≡ Some y
    → renamed_master names z ≡ Some w → same_master x z ≡ same_master y w
unfolding renamed_master
same_master_alike old new names (Body t) (Body s) y w stands first second =
    let (u, is, made) = option_map-some (λ v. Body (task_no v)) (names.task t.0) y first in
    let (v, has, makes) = option_map-some (λ v. Body (task_no v)) (names.task s.0) w second in
    rw (← made, ← makes)
    (eqb_alike names.task t.0 s.0 u v (λ s t v one other. task_one old new names s t v stands.tasks one other) is has)
same_master_alike old new names (Block p) (Block q) y w stands first second =
    let (a, is, made) = option_map-some Block (names.position p) y first in
    let (b, has, makes) = option_map-some Block (names.position q) w second in
    rw (← made, ← makes) (eqb_alike names.position p q a b stands.positions.one is has)
same_master_alike old new names (Body t) (Block q) y w stands first second =
    let (u, is, made) = option_map-some (λ v. Body (task_no v)) (names.task t.0) y first in
    let (b, has, makes) = option_map-some Block (names.position q) w second in
    rw (← made, ← makes) refl
same_master_alike old new names (Block p) (Body s) y w stands first second =
    let (a, is, made) = option_map-some Block (names.position p) y first in
    let (v, has, makes) = option_map-some (λ v. Body (task_no v)) (names.task s.0) w second in
    rw (← made, ← makes) refl

-- from the one the same is reached as from the other
pub reaches_alike : (old new : List Event) (names : Renaming) (x z y w : Master) → StandsIn old new names → IsOrderly old → IsOrderly new → IsClimb old x
    → IsLivedIn old x → IsLivedIn new y → renamed_master names x ≡ Some y → renamed_master names z ≡ Some w → reaches old x z ≡ reaches new y w
reaches_alike old new names x z y w stands orderly also (IsClimb.top m none) lived there first second =
    let at_top : parent_of new y ≡ None = parent_alike old new names x y stands lived first ∙ ap (option_and_then (renamed_master names)) none in
    rw (
      orderly.reach x z (lived_known old x lived),
      also.reach y w (lived_known new y there),
      none,
      at_top,
      same_master_alike old new names x z y w stands first second,
    ) refl
reaches_alike old new names x z y w stands orderly also (IsClimb.up m parent is climb) lived there first second =
    let within = parent_lived old x parent orderly lived is in
    let (other, named, beside) = lived_forth old new names parent stands within in
    let parent_is : parent_of new y ≡ Some other =
    parent_alike old new names x y stands lived first ∙ (ap (option_and_then (renamed_master names)) is ∙ named) in
    rw (
      orderly.reach x z (lived_known old x lived),
      also.reach y w (lived_known new y there),
      is,
      parent_is,
      same_master_alike old new names x z y w stands first second,
      reaches_alike old new names parent z other w stands orderly also climb within beside named second,
    ) refl

by_parent : (old new : List Event) (names : Renaming) (u v : ℕ) (z w : Master) (o : Option Master) → StandsIn old new names → IsOrderly old → IsOrderly new
    → names.task u ≡ Some v → is_live old u ≡ true → renamed_master names z ≡ Some w → parent_of old (Body (task_no u)) ≡ o
    → option_map_or (λ (m : Master). reaches old m z) o false
    ≡ option_map_or (λ (m : Master). reaches new m w) (option_and_then (renamed_master names) o) false
by_parent old new names u v z w None stands orderly also named live is parent = refl
by_parent old new names u v z w (Some m) stands orderly also named live is parent =
    let within = parent_lived old (Body (task_no u)) m orderly (IsLivedIn.body (task_no u) live) parent in
    let (other, stand, beside) = lived_forth old new names m stands within in
    rw stand
    (reaches_alike old new names m z other w stands orderly also (orderly.climb m (lived_known old m within)) within beside stand is)

-- a live task depends on a master as the task that stands for it does
pub depends_alike : (old new : List Event) (names : Renaming) (u v : ℕ) (z w : Master) → StandsIn old new names → IsOrderly old → IsOrderly new
    → names.task u ≡ Some v → is_live old u ≡ true → renamed_master names z ≡ Some w → depends_on old u z ≡ depends_on new v w
depends_alike old new names u v z w stands orderly also named live is =
    let same = (stands.dependents u v named (live_parts old u live).1).master in
    orderly.depend (task_no u) z
    ∙ (by_parent old new names u v z w (parent_of old (Body (task_no u))) stands orderly also named live is refl
    ∙ (ap (λ (o : Option Master). option_map_or (λ (m : Master). reaches new m w) o false) (sym same) ∙ sym (also.depend (task_no v) w)))

-- a test of all tasks that terminated ones pass
pub all_alike : (old new : List Event) (names : Renaming) (test there : ℕ → Bool) → StandsIn old new names
    → ((u v : ℕ) → names.task u ≡ Some v → is_live old u ≡ true → test u ≡ there v) → ((u : ℕ) → test u ≡ false → is_terminated old u ≡ false)
    → ((v : ℕ) → there v ≡ false → is_terminated new v ≡ false) → all_below test (task_count old) ≡ all_below there (task_count new)
all_alike old new names test there stands alike here beside =
    same_truth (all_below test (task_count old)) (all_below there (task_count new))
    (λ all. true_from_ne_false (all_below there (task_count new)) (λ fails.
    let (v, below, fail) = all_below-fails there (task_count new) fails in
    let (u, named, live) = live_back old new names v stands (live_from new v below (beside v fail)) in
    true≢false (sym (all_below-holds test (task_count old) u all (live_parts old u live).0) ∙ (alike u v named live ∙ fail))))
    (λ all. true_from_ne_false (all_below test (task_count old)) (λ fails.
    let (u, below, fail) = all_below-fails test (task_count old) fails in
    let live = live_from old u below (here u fail) in
    let (v, named) = stands.tasks.live u live in
    let lives = live_alike old new names u v stands named ∙ live in
    true≢false (sym (all_below-holds there (task_count new) v all (live_parts new v lives).0) ∙ (sym (alike u v named live) ∙ fail))))

pub all_terminated_alike : (old new : List Event) (names : Renaming) (z w : Master) → StandsIn old new names → IsOrderly old → IsOrderly new
    → renamed_master names z ≡ Some w → all_terminated old z ≡ all_terminated new w
unfolding all_terminated
all_terminated_alike old new names z w stands orderly also is =
    all_alike old new names (λ u. not (depends_on old u z) || is_terminated old u) (λ v. not (depends_on new v w) || is_terminated new v) stands
    (λ u v named live. rw (depends_alike old new names u v z w stands orderly also named live is, (stands.same u v named).terminated) refl)
    (λ u fail. (or_parts (not (depends_on old u z)) (is_terminated old u) fail).1)
    (λ v fail. (or_parts (not (depends_on new v w)) (is_terminated new v) fail).1)

pub complete_alike : (old new : List Event) (names : Renaming) (x y : Master) → StandsIn old new names → IsLivedIn old x → renamed_master names x ≡ Some y
    → is_complete new y ≡ is_complete old x
unfolding renamed_master is_complete
complete_alike old new names x y stands (IsLivedIn.body t live) is =
    let (v, named, made) = option_map-some (λ v. Body (task_no v)) (names.task t.0) y is in
    rw (← made) (stands.dependents t.0 v named (live_parts old t.0 live).1).completed
complete_alike old new names x y stands (IsLivedIn.block task p live within) is =
    let (v, named) = stands.tasks.live task live in
    let (q, placed, made) = option_map-some Block (names.position p) y is in
    rw (← made) ((stands.nests task v named (live_parts old task live).1).blocks p q within placed).complete
