-- Tests that only events pass which hold up tasks that haven't ended: what two journals find alike by them.
use Rattle.std.proofs.Common.{◌≡◌, ℕ, zero, suc, ◌<◌, Bool, true, Option, Some, List, [], ◌∷◌, get_or, map, refl, sym, ap, ◌∙◌}
use Rattle.std.proofs.Common.{◌⊎◌, inl, inr, arith, subst}
use Rattle.std.specs.Bool.{then_some}
use Rattle.std.specs.List.{Contains, AllPairs}
use Rattle.std.proofs.lemmas.Option.{same_Some}
use Rattle.ada_events.specs.declared.event.Event.{Event}
use Rattle.ada_events.specs.Search.{any_event, gathered, event_at}
use Rattle.ada_laws.specs.Suspension.{IsSuspendedAt}
use Rattle.ada_laws.proofs.searching.Searching.{any_event-found, any_event-from, then_some-some}
use Rattle.ada_laws.proofs.searching.Gathering.{Contains-first, Contains-later, gathered-found, gathered-from, gathered-rises}
use Rattle.ada_laws.proofs.within.Parents.{same_truth}
use Rattle.ada_standing.specs.Renaming.{Renaming}
use Rattle.ada_standing.specs.Holds.{is_same_kind}
use Rattle.ada_standing.specs.StandsIn.{StandsIn}
use Rattle.ada_standing.proofs.alike.Orderly.{IsOrderly}
use Rattle.ada_standing.proofs.alike.Pairs.{IsPair, pair_forth, pair_back, at_held, at_holds}

-- only events pass that hold up tasks which haven't ended
abbrev pub PassHeld : List Event → (ℕ → Event → Bool) → Type 0
PassHeld journal test = (p : ℕ) (d : Event) → event_at journal p ≡ Some d → test p d ≡ true → (u : ℕ) × IsSuspendedAt journal u p

abbrev pub PassOneKind : (ℕ → Event → Bool) → Type 0
PassOneKind test = (p q : ℕ) (d e : Event) → test p d ≡ true → test q e ≡ true → is_same_kind d e ≡ true

-- of each pair both pass or neither does
abbrev pub PassAlike : List Event → List Event → Renaming → (ℕ → Event → Bool) → (ℕ → Event → Bool) → Type 0
PassAlike old new names test there = (p q : ℕ) (pair : IsPair old new names p q) → test p pair.held.event ≡ there q pair.holds.event

pass_forth : (old new : List Event) (names : Renaming) (test there : ℕ → Event → Bool) → StandsIn old new names → IsOrderly old → PassHeld old test
    → PassAlike old new names test there → (p : ℕ) (d : Event) → event_at old p ≡ Some d → test p d ≡ true
    → (q : ℕ) × (e : Event) × (names.position p ≡ Some q) × (event_at new q ≡ Some e) × (there q e ≡ true)
pass_forth old new names test there stands orderly held alike p d at passes =
    let (u, holds) = held p d at passes in
    let (q, pair) = pair_forth old new names u p stands orderly holds in
    (q, pair.holds.event, pair.placed, pair.holds.stands, sym (alike p q pair) ∙ (ap (test p) (at_held old new names p q pair d at) ∙ passes))

pass_back : (old new : List Event) (names : Renaming) (test there : ℕ → Event → Bool) → StandsIn old new names → IsOrderly old → IsOrderly new
    → PassHeld new there → PassAlike old new names test there → (q : ℕ) (e : Event) → event_at new q ≡ Some e → there q e ≡ true
    → (p : ℕ) × (d : Event) × (names.position p ≡ Some q) × (event_at old p ≡ Some d) × (test p d ≡ true)
pass_back old new names test there stands orderly also held alike q e at passes =
    let (v, holds) = held q e at passes in
    let (p, pair) = pair_back old new names v q stands orderly also holds in
    (p, pair.held.event, pair.placed, pair.held.stands, alike p q pair ∙ (ap (there q) (at_holds old new names p q pair e at) ∙ passes))

-- some event passes alike
pub any_alike : (old new : List Event) (names : Renaming) (test there : ℕ → Event → Bool) → StandsIn old new names → IsOrderly old → IsOrderly new
    → PassHeld old test → PassHeld new there → PassAlike old new names test there → any_event test old ≡ any_event there new
any_alike old new names test there stands orderly also held holds alike =
    same_truth (any_event test old) (any_event there new)
    (λ any.
    let (p, d, at, passes) = any_event-found test old any in
    let (q, e, placed, at_q, passes_q) = pass_forth old new names test there stands orderly held alike p d at passes in
    any_event-from there new q e at_q passes_q)
    (λ any.
    let (q, e, at, passes) = any_event-found there new any in
    let (p, d, placed, at_p, passes_p) = pass_back old new names test there stands orderly also holds alike q e at passes in
    any_event-from test old p d at_p passes_p)

-- rising lists

pub Contains-cases : {A : Type 0} (x z : A) (xs : List A) → Contains (x ∷ xs) z → (z ≡ x) ⊎ Contains xs z
Contains-cases x z xs (zero, below, same) = inl (sym same)
Contains-cases x z xs (suc k, below, same) = inr (k, omega (arith, below), same)

Contains-none : {A : Type 0} (z : A) → Contains [] z → ⊥
Contains-none z (k, below, same) = omega (arith, below)

abbrev Rises : List ℕ → Type 0
Rises [] = Unit {0}
Rises (x ∷ xs) = ((z : ℕ) → Contains xs z → x < z) × Rises xs

rises_from : (xs : List ℕ) → AllPairs (λ p q. p < q) xs → Rises xs
rises_from [] pairs = tt
rises_from (x ∷ xs) pairs = (
  λ z (k, below, same).
      let less : x < get_or xs k z = pairs 0 (suc k) z (omega arith) (omega (arith, below)) in
      subst (λ (n : ℕ). x < n) same less,
  rises_from xs (λ i j d less below. pairs (suc i) (suc j) d (omega (arith, less)) (omega (arith, below))),
)

-- the numbers of two lists belong together, in their order
record AreListsAlike (to : ℕ → Option ℕ) (xs ys : List ℕ) : Type 0 where
  forth : (x : ℕ) → Contains xs x → (y : ℕ) × (to x ≡ Some y) × Contains ys y
  back : (y : ℕ) → Contains ys y → (x : ℕ) × (to x ≡ Some y) × Contains xs x
  order : (x z a b : ℕ) → Contains xs x → Contains xs z → to x ≡ Some a → to z ≡ Some b → x < z → a < b

heads_alike : (to : ℕ → Option ℕ) (x y : ℕ) (xs ys : List ℕ) → Rises (x ∷ xs) → Rises (y ∷ ys) → AreListsAlike to (x ∷ xs) (y ∷ ys) → to x ≡ Some y
heads_alike to x y xs ys rise climb alike =
    let (a, is, there) = alike.forth x (Contains-first x xs) in
    let (z, has, here) = alike.back y (Contains-first y ys) in
    elim (Contains-cases y a ys there) [
      | inl same ↦ is ∙ ap Some same
      | inr later ↦
          elim (Contains-cases x z xs here) [
            | inl same ↦ ap to (sym same) ∙ has
            | inr further ↦
                let above : y < a = climb.0 a later in
                let below : a < y = alike.order x z a y (Contains-first x xs) (Contains-later x z xs further) is has (rise.0 z further) in
                absurd (omega arith)
          ]
    ]

tails_alike : (to : ℕ → Option ℕ) (x y : ℕ) (xs ys : List ℕ) → Rises (x ∷ xs) → Rises (y ∷ ys) → AreListsAlike to (x ∷ xs) (y ∷ ys) → to x ≡ Some y
    → AreListsAlike to xs ys
tails_alike to x y xs ys rise climb alike head = record {
  forth = λ w within.
      let (b, is, there) = alike.forth w (Contains-later x w xs within) in
      elim (Contains-cases y b ys there) [
        | inl same ↦
            let above : y < b = alike.order x w y b (Contains-first x xs) (Contains-later x w xs within) head is (rise.0 w within) in
            absurd (omega arith)
        | inr later ↦ (b, is, later)
      ];
  back = λ b within.
      let (w, is, there) = alike.back b (Contains-later y b ys within) in
      elim (Contains-cases x w xs there) [
        | inl same ↦
            let one : y ≡ b = same_Some y b (sym head ∙ (ap to (sym same) ∙ is)) in
            let above : y < b = climb.0 b within in
            absurd (omega arith)
        | inr later ↦ (w, is, later)
      ];
  order = λ v z a b first second is has less. alike.order v z a b (Contains-later x v xs first) (Contains-later x z xs second) is has less;
}

lists_alike : (to : ℕ → Option ℕ) (xs ys : List ℕ) → Rises xs → Rises ys → AreListsAlike to xs ys → map to xs ≡ map Some ys
lists_alike to [] [] rise climb alike = refl
lists_alike to [] (y ∷ ys) rise climb alike = absurd (Contains-none _ (alike.back y (Contains-first y ys)).2)
lists_alike to (x ∷ xs) [] rise climb alike = absurd (Contains-none _ (alike.forth x (Contains-first x xs)).2)
lists_alike to (x ∷ xs) (y ∷ ys) rise climb alike =
    let head = heads_alike to x y xs ys rise climb alike in
    rw (head, lists_alike to xs ys rise.1 climb.1 (tails_alike to x y xs ys rise climb alike head)) refl

-- the positions of all that pass
abbrev pub passing : (ℕ → Event → Bool) → List Event → List ℕ
passing test journal = gathered (λ p e. then_some (test p e) p) journal

passing_found : (test : ℕ → Event → Bool) (journal : List Event) (p : ℕ) → Contains (passing test journal) p
    → (d : Event) × (event_at journal p ≡ Some d) × (test p d ≡ true)
passing_found test journal p within =
    let (q, d, at, gives) = gathered-found (λ p e. then_some (test p e) p) journal p within in
    let both = then_some-some (test q d) q p gives in
    (d, ap (event_at journal) (sym both.1) ∙ at, subst (λ (n : ℕ). test n d ≡ true) both.1 both.0)

passing_from : (test : ℕ → Event → Bool) (journal : List Event) (p : ℕ) (d : Event) → event_at journal p ≡ Some d → test p d ≡ true
    → Contains (passing test journal) p
passing_from test journal p d at passes = gathered-from (λ p e. then_some (test p e) p) journal p d p at (rw passes refl)

passing_rises : (test : ℕ → Event → Bool) (journal : List Event) → Rises (passing test journal)
passing_rises test journal =
    rises_from (passing test journal)
    (gathered-rises (λ p e. then_some (test p e) p) journal (λ p q e gives. (then_some-some (test p e) p q gives).1))

pub passing_alike : (old new : List Event) (names : Renaming) (test there : ℕ → Event → Bool) → StandsIn old new names → IsOrderly old → IsOrderly new
    → PassHeld old test → PassHeld new there → PassOneKind test → PassAlike old new names test there
    → map names.position (passing test old) ≡ map Some (passing there new)
passing_alike old new names test there stands orderly also held holds kinds alike =
    lists_alike names.position (passing test old) (passing there new) (passing_rises test old) (passing_rises there new) (record {
      forth = λ p within.
          let (d, at, passes) = passing_found test old p within in
          let (q, e, placed, at_q, passes_q) = pass_forth old new names test there stands orderly held alike p d at passes in
          (q, placed, passing_from there new q e at_q passes_q);
      back = λ q within.
          let (e, at, passes) = passing_found there new q within in
          let (p, d, placed, at_p, passes_p) = pass_back old new names test there stands orderly also holds alike q e at passes in
          (p, placed, passing_from test old p d at_p passes_p);
      order = λ p r a b first second is has less.
          let (d, at, passes) = passing_found test old p first in
          let (e, at_r, passes_r) = passing_found test old r second in
          let (s, one) = held p d at passes in
          let (t, other) = held r e at_r passes_r in
          let same_p : one.event ≡ d = same_Some one.event d (sym one.stands ∙ at) in
          let same_r : other.event ≡ e = same_Some other.event e (sym other.stands ∙ at_r) in
          stands.positions.holds s t p r a b one other
          (kinds p r one.event other.event (ap (test p) same_p ∙ passes) (ap (test r) same_r ∙ passes_r)) is has less;
    })
