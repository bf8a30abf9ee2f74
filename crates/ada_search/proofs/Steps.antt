-- What each function of the check makes of what the ones below it say.
use Rattle.std.proofs.Common.{◌≡◌, ℕ, ◌+◌, ◌<◌, Some, List, [], ◌∷◌, ◌++◌, length, reverse, slice_get, get_or, take}
use Rattle.std.proofs.Common.{sym, ap, subst, ◌∙◌, arith, inl, inr, ◌⊎◌}
use Rattle.std.specs.Prelude.{Result, Ok, Err, IfOk, IfSome, Option, None}
use Rattle.std.proofs.lemmas.Bool.{cases_eq}
use Rattle.std.proofs.lemmas.Option.{same_Some, slice_get_within, slice_get-get_or}
use Rattle.std.proofs.lemmas.List.{take_more, reverse-append}
use Rattle.ada_events.specs.Lawful.{IsLawful, IsSettled}
use Rattle.ada_standing.specs.Renaming.{Renaming}
use Rattle.ada_standing.specs.StandsIn.{StandsIn}
use Rattle.ada_schedules.specs.Schedules.{Program, State, Acts, Comes, Reaches, beginning}
use Rattle.ada_search.specs.Findings.{AreAll}
use Rattle.ada_search.specs.internal.Covering.{AreCovering, AreKept, LeadsOnAfter, LeadOn, IsBegun, IsDone, AreDone}
use Rattle.ada_search.proofs.Closing.{kept_all, kept_on, kept_more, last_met, after_more, alike_covers, one_longer, all_steps, one_more_done}

-- what follows from what a result says
pub ok_then : {T E : Type 0} (r : Result T E) (P Q : T → Type 0) → ((t : T) → P t → Q t) → IfOk r P → IfOk r Q
ok_then (Ok t) P Q on is = on t is
ok_then (Err e) P Q on is = is

-- and from what an option says
pub some_then : {T : Type 0} (o : Option T) (P Q : T → Type 0) → ((t : T) → P t → Q t) → IfSome o P → IfSome o Q
some_then (Some t) P Q on is = on t is
some_then None P Q on is = is

module _ {Rest Choice : Type 0} (program : Program Rest Choice) where
  -- ---- one more choice of a schedule

  pub goes_on : (path : List Choice) (i : ℕ) (choice : Choice) (from to : State Rest) → i < length path → choice ≡ get_or path i choice
      → Comes program (reverse (take i path)) from → Acts program choice from to → Comes program (reverse (take (i + 1) path)) to
  goes_on path i choice from to below is comes acts =
      let same : take (i + 1) path ≡ take i path ++ choice ∷ []
      = take_more path i choice below ∙ ap (λ (c : Choice). take i path ++ c ∷ []) (sym is) in
      subst (λ (choices : List Choice). Comes program choices to) (sym (ap reverse same ∙ reverse-append (take i path) (choice ∷ [])))
      (Comes.one_more choice comes acts)

  pub begins : (from : State Rest) → from ≡ beginning program → Comes program [] from
  begins from is = subst (λ (s : State Rest). Comes program [] s) (sym is) Comes.begun

  module _ (Same : Renaming → Rest → Rest → Type 0) where
    -- a state to which a schedule that was met leads stands in for one
    pub covered_there : (paths : List (List Choice)) (old new : State Rest) (i : ℕ) (path choices : List Choice)
        → slice_get paths i ≡ Some path → choices ≡ path → Comes program (reverse choices) new
        → ((names : Renaming) × StandsIn old.journal new.journal names × (Reaches program old → Reaches program new → Same names old.rest new.rest))
        → Reaches program old → AreCovering program Same paths old
    covered_there paths old new i path choices is equal comes (names, stands, same) reached =
        alike_covers program Same paths old new names stands (same reached (reverse choices, comes))
        (record { at = i; path = path; is = is; comes = subst (λ (cs : List Choice). Comes program (reverse cs) new) equal comes })

    -- a state that stands in for itself is met
    pub met : (old new : List (List Choice)) (schedule : List Choice) (said : State Rest) → new ≡ old ++ schedule ∷ []
        → ((names : Renaming) × StandsIn said.journal said.journal names × (Reaches program said → Reaches program said → Same names said.rest said.rest))
        → Comes program (reverse schedule) said → AreKept old new × AreCovering program Same new said
    met old new schedule said grows (names, stands, same) comes = (
      kept_more old new schedule grows,
      alike_covers program Same new said said names stands (same (reverse schedule, comes) (reverse schedule, comes))
          (record { at = length old; path = schedule; is = last_met old new schedule grows; comes = comes }),
    )

    -- what a schedule leads to is covered
    pub begun : (before paths : List (List Choice)) (start schedule : List Choice) (from : State Rest) → schedule ≡ start
        → Comes program (reverse start) from
        → (Comes program (reverse schedule) from → AreKept before paths × AreCovering program Same paths from)
        → IsBegun program Same start paths
    begun before paths start schedule from same comes covers = record {
      from = from;
      comes = comes;
      covered = (covers (subst (λ (cs : List Choice). Comes program (reverse cs) from) (sym same) comes)).1;
    }

    -- a choice leads to what is covered
    pub stepped : (before paths : List (List Choice)) (path schedule : List Choice) (choice : Choice) (from to : State Rest)
        → schedule ≡ path ++ choice ∷ [] → Comes program (reverse path) from → Acts program choice from to
        → (Comes program (reverse schedule) to → AreKept before paths × AreCovering program Same paths to)
        → AreKept before paths × LeadsOnAfter program Same paths path choice
    stepped before paths path schedule choice from to longer comes acts covers =
        let on = subst (λ (cs : List Choice). Comes program (reverse cs) to) (sym longer) (one_longer program Same path choice from to comes acts) in
        let (kept, covered) = covers on in
        (kept, record { from = from; comes = comes; leads = record { to = to; acts = acts; covered = covered } })

    -- ---- one choice after another

    pub none_yet : (paths : List (List Choice)) (path choices : List Choice) → LeadOn program Same paths paths path choices 0
    none_yet paths path choices = record { kept = kept_all paths; each = λ k choice below is. absurd (omega (arith, below)) }

    pub one_more_choice : (first old new : List (List Choice)) (path choices : List Choice) (count : ℕ) (last : Choice)
        → count < length choices → last ≡ get_or choices count last → LeadOn program Same first old path choices count
        → AreKept old new × LeadsOnAfter program Same new path last
        → LeadOn program Same first new path choices (count + 1)
    one_more_choice first old new path choices count last within at before (kept, leads) = record {
      kept = kept_on first old new before.kept kept;
      each = λ k choice below is. by k choice is (cases_eq k count) below;
    }
      where
        there : slice_get choices count ≡ Some last
        there = slice_get-get_or choices count last within ∙ ap Some (sym at)

        by : (k : ℕ) (choice : Choice) → slice_get choices k ≡ Some choice → (k ≡ count) ⊎ (k ≡ count → ⊥) → k < count + 1
            → LeadsOnAfter program Same new path choice
        by k choice is (inl here) below =
            let same : last ≡ choice = same_Some last choice (sym there ∙ sym (ap (slice_get choices) here) ∙ is) in
            subst (λ (c : Choice). LeadsOnAfter program Same new path c) same leads
        by k choice is (inr earlier) below = after_more program Same old new path choice kept (before.each k choice (omega arith) is)

    -- ---- states that are gone on from

    pub all_covered : (IsWell : State Rest → Type 0) (old new : List (List Choice)) (path choices listed : List Choice) (state : State Rest)
        → listed ≡ choices → Comes program (reverse path) state → IsLawful state.journal → IsSettled state.journal → IsWell state
        → AreAll program state choices → LeadOn program Same old new path listed (length listed) → AreKept old new × IsDone program Same IsWell new path
    all_covered IsWell old new path choices listed state same comes lawful settled well all covered = (
      covered.kept,
      all_steps program Same IsWell new path listed state comes lawful settled well
          (subst (λ (cs : List Choice). AreAll program state cs) (sym same) all)
          (λ k choice is. covered.each k choice (slice_get_within listed k choice is) is),
    )

    pub gone_on : (IsWell : State Rest → Type 0) (old new : List (List Choice)) (path choices : List Choice) (count : ℕ) → choices ≡ path
        → slice_get old count ≡ Some path → AreKept old new × IsDone program Same IsWell new choices → (start : List Choice)
        → AreDone program Same IsWell start old count → AreDone program Same IsWell start new (count + 1)
    gone_on IsWell old new path choices count equal is (kept, done) start before =
        one_more_done program Same IsWell start old new path count is kept
        (subst (λ (cs : List Choice). IsDone program Same IsWell new cs) equal done) before
