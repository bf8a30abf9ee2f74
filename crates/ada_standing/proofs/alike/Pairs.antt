-- What holds tasks up in one journal and in another, position by position.
use Rattle.std.proofs.Common.{◌≡◌, ℕ, ◌<◌, true, false, not, Option, Some, None, List, refl, sym, ap, ◌∙◌, subst, arith, inl, inr, ◌≢◌}
use Rattle.std.specs.Option.{option_map, option_and_then}
use Rattle.std.proofs.lemmas.Bool.{cases_Bool, and_from, and_parts, or_parts, lt-ltb, ltb-true, not_from_false, not-true}
use Rattle.std.proofs.lemmas.Option.{same_Some, none-some}
use Rattle.std.proofs.Math.Bool.{or-true}
use Rattle.ada_events.specs.declared.event.Event.{Event}
use Rattle.ada_events.specs.Search.{first_given, event_at}
use Rattle.ada_events.specs.Tasks.{has_task, task_count}
use Rattle.ada_events.specs.Phases.{is_completed, is_terminated, has_ended}
use Rattle.ada_laws.specs.Suspension.{IsSuspendedAt}
use Rattle.ada_laws.proofs.searching.Searching.{option_and_then-some}
use Rattle.ada_laws.proofs.held.Suspending.{is_suspended-from, is_suspended-at}
use Rattle.ada_standing.specs.Renaming.{Renaming}
use Rattle.ada_standing.specs.Holds.{IsSameHold, is_same_kind}
use Rattle.ada_standing.specs.StandsIn.{StandsIn, is_live}
use Rattle.ada_standing.proofs.alike.Orderly.{IsOrderly}
use Rattle.ada_standing.proofs.alike.Searches.{given_at, first_given-is, search_alike}

pub live_from : (journal : List Event) (u : ℕ) → u < task_count journal → is_terminated journal u ≡ false → is_live journal u ≡ true
live_from journal u below still =
    and_from (has_task journal u) (not (is_terminated journal u)) (lt-ltb u (task_count journal) below) (not_from_false (is_terminated journal u) still)

pub live_parts : (journal : List Event) (u : ℕ) → is_live journal u ≡ true → (u < task_count journal) × (is_terminated journal u ≡ false)
live_parts journal u live =
    let both = and_parts (has_task journal u) (not (is_terminated journal u)) live in
    (ltb-true u (task_count journal) both.0, not-true (is_terminated journal u) both.1)

pub active_parts : (journal : List Event) (u : ℕ) → has_ended journal u ≡ false → (is_completed journal u ≡ false) × (is_terminated journal u ≡ false)
unfolding has_ended
active_parts journal u active = or_parts (is_completed journal u) (is_terminated journal u) active

-- tasks that stand for others are live, and have ended, alike
pub live_alike : (old new : List Event) (names : Renaming) (u v : ℕ) → StandsIn old new names → names.task u ≡ Some v → is_live new v ≡ is_live old u
live_alike old new names u v stands named =
    let same = stands.same u v named in
    rw (same.exists, same.existed, same.terminated) refl

pub ended_alike : (old new : List Event) (names : Renaming) (u v : ℕ) → StandsIn old new names → names.task u ≡ Some v → has_ended new v ≡ has_ended old u
unfolding has_ended
ended_alike old new names u v stands named =
    let same = (stands.same u v named).terminated in
    elim (cases_Bool (is_terminated old u)) [
      | inl ended ↦ rw (same, ended) (or-true (is_completed new v) ∙ sym (or-true (is_completed old u)))
      | inr still ↦ rw (same, (stands.dependents u v named still).completed) refl
    ]

-- a live task of the second journal stands for a live one
pub live_back : (old new : List Event) (names : Renaming) (v : ℕ) → StandsIn old new names → is_live new v ≡ true
    → (u : ℕ) × (names.task u ≡ Some v) × (is_live old u ≡ true)
live_back old new names v stands live =
    let (u, named) = stands.tasks.others v live in
    (u, named, sym (live_alike old new names u v stands named) ∙ live)

-- two positions at which tasks are held up alike
pub record IsPair (old new : List Event) (names : Renaming) (p q : ℕ) : Type 0 where
  pub task : ℕ
  pub stand : ℕ
  pub named : names.task task ≡ Some stand
  pub placed : names.position p ≡ Some q
  pub held : IsSuspendedAt old task p
  pub holds : IsSuspendedAt new stand q
  pub alike : IsSameHold old new names p q held.event holds.event

suspended_live : (journal : List Event) (u p : ℕ) → IsOrderly journal → IsSuspendedAt journal u p → is_live journal u ≡ true
suspended_live journal u p orderly held = live_from journal u (orderly.exist u p held) (active_parts journal u held.live).1

-- what holds a task up in the first journal has its like in the second
pub pair_forth : (old new : List Event) (names : Renaming) (u p : ℕ) → StandsIn old new names → IsOrderly old → IsSuspendedAt old u p
    → (q : ℕ) × IsPair old new names p q
pair_forth old new names u p stands orderly held =
    let (v, named) = stands.tasks.live u (suspended_live old u p orderly held) in
    let there = (stands.active u v named held.live).held p held in
    (there.at, record { task = u; stand = v; named = named; placed = there.renamed; held = held; holds = there.held; alike = there.alike })

-- and the other way round
pub pair_back : (old new : List Event) (names : Renaming) (v q : ℕ) → StandsIn old new names → IsOrderly old → IsOrderly new → IsSuspendedAt new v q
    → (p : ℕ) × IsPair old new names p q
pair_back old new names v q stands orderly also held =
    let (u, named, live) = live_back old new names v stands (suspended_live new v q also held) in
    let active : has_ended old u ≡ false = sym (ended_alike old new names u v stands named) ∙ held.live in
    let suspended = sym (stands.active u v named active).suspended ∙ is_suspended-from new v q held in
    let (p, there) = is_suspended-at old u suspended in
    let like = (stands.active u v named active).held p there in
    let one : like.at ≡ q = also.once v like.at q like.held held in (
      p,
      subst (IsPair old new names p) one
          (record { task = u; stand = v; named = named; placed = like.renamed; held = there; holds = like.held; alike = like.alike }),
    )

-- what stands at the positions of a pair
pub at_held : (old new : List Event) (names : Renaming) (p q : ℕ) (pair : IsPair old new names p q) (d : Event) → event_at old p ≡ Some d → pair.held.event ≡ d
at_held old new names p q pair d at = same_Some pair.held.event d (sym pair.held.stands ∙ at)

pub at_holds : (old new : List Event) (names : Renaming) (p q : ℕ) (pair : IsPair old new names p q) (e : Event) → event_at new q ≡ Some e
    → pair.holds.event ≡ e
at_holds old new names p q pair e at = same_Some pair.holds.event e (sym pair.holds.stands ∙ at)

-- what is given where a task is held up
pub map_forth : {A B C : Type 0} (f : A → C) (g : B → C) (o : Option A) (n : Option B) (x : A) → option_map f o ≡ option_map g n → o ≡ Some x
    → (y : B) × (n ≡ Some y) × (f x ≡ g y)
map_forth f g o None x same is = absurd (none-some (f x) (sym same ∙ ap (option_map f) is))
map_forth f g o (Some y) x same is = (y, refl, same_Some (f x) (g y) (sym (ap (option_map f) is) ∙ same))

pub map_back : {A B C : Type 0} (f : A → C) (g : B → C) (o : Option A) (n : Option B) (y : B) → option_map f o ≡ option_map g n → n ≡ Some y
    → (x : A) × (o ≡ Some x)
map_back f g None n y same is = absurd (none-some (g y) (same ∙ ap (option_map g) is))
map_back f g (Some x) n y same is = (x, refl)

-- of events that hold up tasks that haven't ended, a journal gives something
abbrev pub GivesHeld : List Event → (ℕ → Event → Option Event) → Type 0
GivesHeld journal give = (p : ℕ) (d x : Event) → event_at journal p ≡ Some d → give p d ≡ Some x → (u : ℕ) × IsSuspendedAt journal u p

-- and if of several, only of events of one kind
abbrev pub GivesOneKind : List Event → (ℕ → Event → Option Event) → Type 0
GivesOneKind journal give =
    (p q : ℕ) (d e x y : Event) → event_at journal p ≡ Some d → event_at journal q ≡ Some e → p ≢ q → give p d ≡ Some x → give q e ≡ Some y
    → is_same_kind d e ≡ true

-- of each pair both journals give alike
abbrev pub GiveAlike : List Event → List Event → Renaming → (Event → Option Event) → (ℕ → Event → Option Event) → (ℕ → Event → Option Event) → Type 0
GiveAlike old new names same give there =
    (p q : ℕ) (pair : IsPair old new names p q) → option_map same (give p pair.held.event) ≡ option_map Some (there q pair.holds.event)

match_forth : (old new : List Event) (names : Renaming) (same : Event → Option Event) (give there : ℕ → Event → Option Event) → StandsIn old new names
    → IsOrderly old → GivesHeld old give → GiveAlike old new names same give there → (p : ℕ) (x : Event) → given_at give old p ≡ Some x
    → (q : ℕ) × (y : Event) × (names.position p ≡ Some q) × (given_at there new q ≡ Some y) × (same x ≡ Some y)
match_forth old new names same give there stands orderly held alike p x gives =
    let (d, at, is) = option_and_then-some (give p) (event_at old p) x gives in
    let (u, holds) = held p d x at is in
    let (q, pair) = pair_forth old new names u p stands orderly holds in
    let here : give p pair.held.event ≡ Some x = ap (give p) (at_held old new names p q pair d at) ∙ is in
    let (y, has, both) = map_forth same Some (give p pair.held.event) (there q pair.holds.event) x (alike p q pair) here in
    (q, y, pair.placed, ap (option_and_then (there q)) pair.holds.stands ∙ has, both)

match_back : (old new : List Event) (names : Renaming) (same : Event → Option Event) (give there : ℕ → Event → Option Event) → StandsIn old new names
    → IsOrderly old → IsOrderly new → GivesHeld new there → GiveAlike old new names same give there → (q : ℕ) (y : Event) → given_at there new q ≡ Some y
    → (p : ℕ) × (x : Event) × (names.position p ≡ Some q) × (given_at give old p ≡ Some x)
match_back old new names same give there stands orderly also held alike q y gives =
    let (e, at, is) = option_and_then-some (there q) (event_at new q) y gives in
    let (v, holds) = held q e y at is in
    let (p, pair) = pair_back old new names v q stands orderly also holds in
    let here : there q pair.holds.event ≡ Some y = ap (there q) (at_holds old new names p q pair e at) ∙ is in
    let (x, has) = map_back same Some (give p pair.held.event) (there q pair.holds.event) y (alike p q pair) here in
    (p, x, pair.placed, ap (option_and_then (give p)) pair.held.stands ∙ has)

match_rises : (old new : List Event) (names : Renaming) (give : ℕ → Event → Option Event) → StandsIn old new names → GivesHeld old give → GivesOneKind old give
    → (p q a b : ℕ) (x y : Event) → given_at give old p ≡ Some x → given_at give old q ≡ Some y → names.position p ≡ Some a → names.position q ≡ Some b
    → p < q → a < b
match_rises old new names give stands held kinds p q a b x y gives_p gives_q at_a at_b less =
    let (d, stands_p, is) = option_and_then-some (give p) (event_at old p) x gives_p in
    let (e, stands_q, has) = option_and_then-some (give q) (event_at old q) y gives_q in
    let (s, one) = held p d x stands_p is in
    let (t, other) = held q e y stands_q has in
    let same_p : one.event ≡ d = same_Some one.event d (sym one.stands ∙ stands_p) in
    let same_q : other.event ≡ e = same_Some other.event e (sym other.stands ∙ stands_q) in
    stands.positions.holds s t p q a b one other
    (kinds p q one.event other.event x y one.stands other.stands (λ same. absurd (omega (arith, same, less))) (ap (give p) same_p ∙ is)
    (ap (give q) same_q ∙ has)) at_a at_b less

-- the first of two journals gives what the second gives, where it gives only where tasks are held up
pub first_alike : (old new : List Event) (names : Renaming) (same : Event → Option Event) (give there : ℕ → Event → Option Event) → StandsIn old new names
    → IsOrderly old → IsOrderly new → GivesHeld old give → GivesHeld new there → GivesOneKind old give → GiveAlike old new names same give there
    → option_map same (first_given give old) ≡ option_map Some (first_given there new)
first_alike old new names same give there stands orderly also held holds kinds alike =
    search_alike names.position same (given_at give old) (given_at there new) (first_given give old) (first_given there new)
    (record {
      forth = match_forth old new names same give there stands orderly held alike;
      back = match_back old new names same give there stands orderly also holds alike;
      rises = match_rises old new names give stands held kinds;
    })
    (first_given-is give old) (first_given-is there new)
