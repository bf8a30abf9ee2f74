-- In a lawful journal one comes by parents from each master to one that has none.
use Rattle.std.proofs.Common.{◌≡◌, ◌<◌, true, Option, Some, None, List, [], ◌∷◌, sym, refl, ap, ◌∙◌, subst, arith, inl, inr}
use Rattle.std.specs.Option.{option_len}
use Rattle.std.proofs.lemmas.Bool.{cases_eq, or_right}
use Rattle.ada_events.specs.declared.event.Event.{Event}
use Rattle.ada_events.specs.declared.names.TaskNo.{TaskNo}
use Rattle.ada_events.specs.declared.names.Master.{Master}
use Rattle.ada_events.specs.declared.names.Master.TheVariants.{Body, Block}
use Rattle.ada_events.specs.Search.{event_at}
use Rattle.ada_events.specs.Says.{Creation, Opening, creation_in, opening_in}
use Rattle.ada_events.specs.Tasks.{task_count, creation_of}
use Rattle.ada_events.specs.Masters.{same_master, reaches}
use Rattle.ada_laws.specs.Masters.{parent_of, IsKnown}
use Rattle.ada_laws.specs.Unlimited.{IsLawfulUnlimited}
use Rattle.ada_laws.proofs.searching.Searching.{event_at-cases}
use Rattle.ada_laws.proofs.within.Reaching.{reaches-same, frame_known, opening_asked-unlimited, reaches_known-unlimited}
use Rattle.ada_laws.proofs.within.Parents.{masters_reach_by_parents-unlimited, parent_of-later, creation_known-unlimited, parent_of-body, parent_of-block}
use Rattle.ada_standing.proofs.alike.Orderly.{IsClimb}

opening_known : (event : Event) (before : List Event) (o : Opening) → IsLawfulUnlimited (event ∷ before) → opening_in event ≡ Some o
    → IsKnown before o.under
opening_known event before o lawful says =
    let by = opening_asked-unlimited event before o lawful.1 says in
    subst (IsKnown before) (sym by.within) (frame_known before o.by by.exists)

-- a parent is reached, and known
pub parent_reached : (journal : List Event) (x z : Master) → IsLawfulUnlimited journal → IsKnown journal x → parent_of journal x ≡ Some z
    → reaches journal x z ≡ true
parent_reached journal x z lawful known is =
    masters_reach_by_parents-unlimited journal x z lawful known
    ∙ rw is (or_right (same_master x z) (reaches journal z z) (reaches-same journal z))

parent_known : (journal : List Event) (x z : Master) → IsLawfulUnlimited journal → IsKnown journal x → parent_of journal x ≡ Some z
    → IsKnown journal z
parent_known journal x z lawful known is = reaches_known-unlimited journal lawful x z known (parent_reached journal x z lawful known is)

climb_later : (event : Event) (before : List Event) (x : Master) → IsLawfulUnlimited before → IsKnown before x → IsClimb before x
    → IsClimb (event ∷ before) x
climb_later event before x lawful known (IsClimb.top m none) = IsClimb.top x (parent_of-later event before x known ∙ none)
climb_later event before x lawful known (IsClimb.up m z is climb) =
    IsClimb.up x z (parent_of-later event before x known ∙ is) (climb_later event before z lawful (parent_known before x z lawful known is) climb)

-- a master is known before the newest event, or made by it within one that is
data IsMade (event : Event) (before : List Event) (x : Master) : Type 0 where
  earlier : IsKnown before x → IsMade event before x
  newly : (z : Master) → parent_of (event ∷ before) x ≡ Some z → IsKnown before z → IsMade event before x

made_body : (event : Event) (before : List Event) (t : TaskNo) (o : Option Creation) → IsLawfulUnlimited (event ∷ before) → creation_in event ≡ o
    → t.0 < task_count (event ∷ before) → IsMade event before (Body t)
unfolding task_count
made_body event before t None lawful none below = earlier (omega (arith, ap option_len none))
made_body event before t (Some c) lawful says below =
    elim (cases_eq t.0 (task_count before)) [
      | inl same ↦ newly c.master (parent_of-body event before t c says same) (creation_known-unlimited event before c lawful says)
      | inr differs ↦ earlier (omega (arith, ap option_len says))
    ]

made_cases : (event : Event) (before : List Event) (x : Master) → IsLawfulUnlimited (event ∷ before) → IsKnown (event ∷ before) x
    → IsMade event before x
made_cases event before (Body t) lawful known = made_body event before t (creation_in event) lawful refl known
made_cases event before (Block p) lawful known =
    elim (event_at-cases event before p known.event known.stands) [
      | inl newest ↦
          let says : opening_in event ≡ Some known.opening = ap opening_in newest.1 ∙ known.says in
          newly known.opening.under (parent_of-block event before p known.opening says newest.0) (opening_known event before known.opening lawful says)
      | inr older ↦ earlier (record { event = known.event; opening = known.opening; stands = older; says = known.says })
    ]

pub climb_of : (journal : List Event) (x : Master) → IsLawfulUnlimited journal → IsKnown journal x → IsClimb journal x
unfolding creation_of event_at
climb_of [] (Body t) lawful known = IsClimb.top (Body t) refl
climb_of [] (Block p) lawful known = IsClimb.top (Block p) refl
climb_of (event ∷ before) x lawful known =
    elim (made_cases event before x lawful known) [
      | earlier was ↦ climb_later event before x lawful.0 was (climb_of before x lawful.0 was)
      | newly z is was ↦ IsClimb.up x z is (climb_later event before z lawful.0 was (climb_of before z lawful.0 was))
    ]
