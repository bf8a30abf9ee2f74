-- The moves that may come next are listed.
use Rattle.std.proofs.Common.{◌≡◌, ℕ, ◌+◌, ◌<◌, ◌≤◌, false, cond, Option, Some, None, List, length, refl, sym, ap, subst, ◌∙◌, arith, inl, inr, ◌⊎◌}
use Rattle.std.specs.Option.{option_and_then}
use Rattle.std.proofs.lemmas.Bool.{false≢true, cases_eq, cases_lt}
use Rattle.std.proofs.lemmas.Option.{slice_get_past}
use Rattle.ada_events.specs.declared.event.Event.{Event}
use Rattle.ada_search.specs.Findings.{at, may_come, AreAll}
use Rattle.ada_behaviours.specs.declared.want.ObjectNo.{ObjectNo}
use Rattle.ada_behaviours.specs.declared.want.Move.{Move}
use Rattle.ada_behaviours.specs.declared.want.Move.TheVariants.{Go, Pass}
use Rattle.ada_behaviours.specs.Behaviours.{Behaviour}
use Rattle.ada_behaviours.specs.Moves.{runs, Rest, running_of, behaving}
use Rattle.ada_moves.specs.internal.Choosing.{IsAmong, AreKept, IsListed, AreListedTo, AreListedOf, AreListedBelow}

pub kept_on : (first second third : List Move) → AreKept first second → AreKept second third → AreKept first third
kept_on first second third kept more move among = more move (kept move among)

module _ {State : Type 0} (behaviour : Behaviour State) (journal : List Event) (rest : Rest State) where
  -- nothing comes of an object whose task doesn't run
  still_stays : (object : ObjectNo) (pick : ℕ) → running_of journal rest.tasks object.0 ≡ None
      → may_come (behaving behaviour) (at journal rest) (Go object pick) ≡ false
  still_stays object pick still = rw still refl

  -- ---- of one object

  pub one_listed : (old moves new : List Move) (object : ObjectNo) (count : ℕ)
      → AreKept old moves × AreListedTo behaviour journal rest moves object count
      → AreKept moves new × IsListed behaviour journal rest new (Go object count)
      → AreKept old new × AreListedTo behaviour journal rest new object (count + 1)
  one_listed old moves new object count (kept, before) (more, here) = (
    kept_on old moves new kept more,
    λ pick below. by pick below (cases_eq pick count),
  )
    where
      by : (pick : ℕ) → pick < count + 1 → (pick ≡ count) ⊎ (pick ≡ count → ⊥) → IsListed behaviour journal rest new (Go object pick)
      by pick below (inl same) = rw same here
      by pick below (inr other) = λ may. more (Go object pick) (before pick (omega (arith, below, other)) may)

  -- ---- of one object more

  pub more_listed : (moves new : List Move) (place : ℕ) (last : ObjectNo) → last.0 ≡ place → AreListedBelow behaviour journal rest moves place
      → AreKept moves new × AreListedOf behaviour journal rest new last → AreListedBelow behaviour journal rest new (place + 1)
  more_listed moves new place last is before (kept, here) object below = by (cases_eq object.0 place)
    where
      by : (object.0 ≡ place) ⊎ (object.0 ≡ place → ⊥) → AreListedOf behaviour journal rest new object
      by (inl same) =
          let equal : last ≡ object = ap (λ n. record { 0 = n }) (is ∙ sym same) in
          subst (λ (o : ObjectNo). AreListedOf behaviour journal rest new o) equal here
      by (inr other) = λ pick may. kept (Go object pick) (before object (omega (arith, below, other)) pick may)

  -- ---- of all

  -- an object after all tasks has none
  unmade_stays : (object : ObjectNo) (pick : ℕ) → length rest.tasks ≤ object.0
      → may_come (behaving behaviour) (at journal rest) (Go object pick) ≡ false
  unmade_stays object pick past = still_stays object pick (ap running (slice_get_past rest.tasks object.0 past))
    where
      running : Option (Option ℕ) → Option ℕ
      running found = option_and_then (λ task. cond (runs journal task) (Some task) None) (option_and_then (λ t. t) found)

  pub all_listed : (moves new : List Move) (count : ℕ) → length rest.tasks ≤ count → AreListedBelow behaviour journal rest moves count
      → AreKept moves new × IsListed behaviour journal rest new Pass → AreAll (behaving behaviour) (at journal rest) new
  all_listed moves new count past before (kept, passes) Pass may = passes may
  all_listed moves new count past before (kept, passes) (Go object pick) may = by (cases_lt object.0 count)
    where
      by : (object.0 < count) ⊎ (count ≤ object.0) → IsAmong new (Go object pick)
      by (inl below) = kept (Go object pick) (before object below pick may)
      by (inr above) = absurd (false≢true (sym (unmade_stays object pick (omega (arith, past, above))) ∙ may))
