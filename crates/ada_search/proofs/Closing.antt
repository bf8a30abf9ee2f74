-- What was met and gone on from covers whatever a schedule comes to.
use Rattle.std.proofs.Common.{◌≡◌, ℕ, zero, suc, ◌+◌, ◌<◌, ◌≤◌, ◌||◌, true, Some, None, is_some}
use Rattle.std.proofs.Common.{List, [], ◌∷◌, ◌++◌, length, reverse, slice_get, get_or, refl, sym, ap, subst, ◌∙◌, inl, inr, arith, ◌⊎◌}
use Rattle.std.proofs.lemmas.Bool.{cases_eq}
use Rattle.std.proofs.lemmas.Option.{none-some, same_Some, slice_get_within, slice_get-get_or}
use Rattle.std.proofs.lemmas.List.{append-nil, reverse-append}
use Rattle.ada_events.specs.declared.request.Request.{Request}
use Rattle.ada_events.specs.declared.refusal.Refusal.{Refusal}
use Rattle.ada_events.specs.Lawful.{IsLawful, IsSettled, After}
use Rattle.ada_laws.specs.Unlimited.{refusal_but_limits}
use Rattle.ada_standing.specs.Renaming.{Renaming}
use Rattle.ada_standing.specs.StandsIn.{StandsIn}
use Rattle.ada_schedules.specs.Schedules.{Program, State, Acts, Comes}
use Rattle.ada_schedules.specs.Closed.{asked_in, left_alone, was_refused, went_alone, SpeaksInNames, GoesOn, IsClosed}
use Rattle.ada_schedules.specs.Stuck.{IsStuck}
use Rattle.ada_schedules.proofs.Covering.{IsCovered, follows_covered, stuck_within}
use Rattle.ada_schedules.proofs.Once.{comes_once}
use Rattle.ada_search.specs.Findings.{may_come, AreAll, NoneGetsStuck, StaysWell}
use Rattle.ada_search.specs.internal.Covering.{IsWithin, AreCovering, AreKept, LeadsOn, LeadsOnAfter, GoesOnWell, IsDone, AreDone}

get_more : {A : Type 0} (xs ys : List A) (i : ℕ) (x : A) → slice_get xs i ≡ Some x → slice_get (xs ++ ys) i ≡ Some x
get_more [] ys i x is = absurd (none-some x is)
get_more (y ∷ xs) ys zero x is = is
get_more (y ∷ xs) ys (suc i) x is = get_more xs ys i x is

get_last : {A : Type 0} (xs : List A) (x : A) → slice_get (xs ++ x ∷ []) (length xs) ≡ Some x
get_last [] x = refl
get_last (y ∷ xs) x = get_last xs x

module _ {Choice : Type 0} where
  pub last_met : (old new : List (List Choice)) (path : List Choice) → new ≡ old ++ path ∷ [] → slice_get new (length old) ≡ Some path
  last_met old new path grows = ap (λ (ps : List (List Choice)). slice_get ps (length old)) grows ∙ get_last old path

  pub kept_more : (old new : List (List Choice)) (path : List Choice) → new ≡ old ++ path ∷ [] → AreKept old new
  kept_more old new path grows i other is = ap (λ (ps : List (List Choice)). slice_get ps i) grows ∙ get_more old (path ∷ []) i other is

  pub kept_all : (paths : List (List Choice)) → AreKept paths paths
  kept_all paths i path is = is

  pub kept_on : (first second third : List (List Choice)) → AreKept first second → AreKept second third → AreKept first third
  kept_on first second third kept more i path is = more i path (kept i path is)

module _ {Rest Choice : Type 0} (program : Program Rest Choice) (Same : Renaming → Rest → Rest → Type 0) where
  within_more : (old new : List (List Choice)) (state : State Rest) → AreKept old new → IsWithin program old state → IsWithin program new state
  within_more old new state kept within = record { at = within.at; path = within.path; is = kept within.at within.path within.is; comes = within.comes }

  pub covering_more : (old new : List (List Choice)) (state : State Rest) → AreKept old new → AreCovering program Same old state
      → AreCovering program Same new state
  covering_more old new state kept covers = record {
    by = covers.by;
    within = within_more old new covers.by kept covers.within;
    names = covers.names;
    stands = covers.stands;
    same = covers.same;
  }

  leads_more : (old new : List (List Choice)) (state : State Rest) (choice : Choice) → AreKept old new → LeadsOn program Same old state choice
      → LeadsOn program Same new state choice
  leads_more old new state choice kept leads =
      record { to = leads.to; acts = leads.acts; covered = covering_more old new leads.to kept leads.covered }

  pub after_more : (old new : List (List Choice)) (path : List Choice) (choice : Choice) → AreKept old new
      → LeadsOnAfter program Same old path choice → LeadsOnAfter program Same new path choice
  after_more old new path choice kept leads =
      record { from = leads.from; comes = leads.comes; leads = leads_more old new leads.from choice kept leads.leads }

  -- one choice more
  pub one_longer : (path : List Choice) (choice : Choice) (from to : State Rest) → Comes program (reverse path) from
      → Acts program choice from to → Comes program (reverse (path ++ choice ∷ [])) to
  one_longer path choice from to comes acts =
      subst (λ (all : List Choice). Comes program all to) (sym (reverse-append path (choice ∷ []))) (Comes.one_more choice comes acts)

  -- a state that stands in for one
  pub alike_covers : (paths : List (List Choice)) (old new : State Rest) (names : Renaming) → StandsIn old.journal new.journal names
      → Same names old.rest new.rest → IsWithin program paths new → AreCovering program Same paths old
  alike_covers paths old new names stands same within = record { by = new; within = within; names = names; stands = stands; same = same }

  module _ (IsWell : State Rest → Type 0) where
    done_more : (old new : List (List Choice)) (path : List Choice) → AreKept old new → IsDone program Same IsWell old path
        → IsDone program Same IsWell new path
    done_more old new path kept done = record {
      state = done.state;
      comes = done.comes;
      goes_on = record {
        lawful = done.goes_on.lawful;
        settled = done.goes_on.settled;
        well = done.goes_on.well;
        steps = λ choice may. leads_more old new done.state choice kept (done.goes_on.steps choice may);
      };
    }

    -- one more state is done
    pub one_more_done : (start : List Choice) (old new : List (List Choice)) (path : List Choice) (count : ℕ)
        → slice_get old count ≡ Some path → AreKept old new → IsDone program Same IsWell new path → AreDone program Same IsWell start old count
        → AreDone program Same IsWell start new (count + 1)
    one_more_done start old new path count is kept done before = record {
      begun = record {
        from = before.begun.from;
        comes = before.begun.comes;
        covered = covering_more old new before.begun.from kept before.begun.covered;
      };
      done = λ i other below there. by i other there (cases_eq i count) below;
    }
      where
        by : (i : ℕ) (other : List Choice) → slice_get new i ≡ Some other → (i ≡ count) ⊎ (i ≡ count → ⊥) → i < count + 1
            → IsDone program Same IsWell new other
        by i other there (inl here) below =
            let same : path ≡ other = same_Some path other (sym (kept count path is) ∙ sym (ap (slice_get new) here) ∙ there) in
            subst (λ (p : List Choice). IsDone program Same IsWell new p) same done
        by i other there (inr earlier) below =
            let within : count < length old = slice_get_within old count path is in
            let before_it : i < count = omega arith in
            let was : slice_get old i ≡ Some (get_or old i []) = slice_get-get_or old i [] (omega arith) in
            let same : get_or old i [] ≡ other = same_Some (get_or old i []) other (sym (kept i (get_or old i []) was) ∙ there) in
            subst (λ (p : List Choice). IsDone program Same IsWell new p) same
            (done_more old new (get_or old i []) kept (before.done i (get_or old i []) before_it was))

    -- where each choice that may come leads to what is covered, what a schedule leads to is done
    pub all_steps : (paths : List (List Choice)) (path choices : List Choice) (state : State Rest) → Comes program (reverse path) state
        → IsLawful state.journal → IsSettled state.journal → IsWell state → AreAll program state choices
        → ((k : ℕ) (choice : Choice) → slice_get choices k ≡ Some choice → LeadsOnAfter program Same paths path choice)
        → IsDone program Same IsWell paths path
    all_steps paths path choices state comes lawful settled well all leads = record {
      state = state;
      comes = comes;
      goes_on = record {
        lawful = lawful;
        settled = settled;
        well = well;
        steps = λ choice may.
            let (at, is) = all choice may in
            let on = leads at choice is in
            subst (λ (s : State Rest). LeadsOn program Same paths s choice)
            (comes_once program (reverse path) on.from state on.comes comes) on.leads;
      };
    }

-- ---- a closed set

asks_may : {Rest Choice : Type 0} (program : Program Rest Choice) (state : State Rest) (choice : Choice) (request : Request)
    → asked_in program state choice ≡ Some request → may_come program state choice ≡ true
asks_may program state choice request asks = ap (λ o. is_some o || is_some (left_alone program state choice)) asks

alone_may : {Rest Choice : Type 0} (program : Program Rest Choice) (state : State Rest) (choice : Choice) (rest : Rest)
    → asked_in program state choice ≡ None → left_alone program state choice ≡ Some rest → may_come program state choice ≡ true
alone_may program state choice rest asks leaves = rw (asks, leaves) refl

module _ {Rest Choice : Type 0} (program : Program Rest Choice) (Same : Renaming → Rest → Rest → Type 0) (IsWell : State Rest → Type 0)
    (start : List Choice) (paths : List (List Choice)) (count : ℕ) (done : AreDone program Same IsWell start paths count) (all : length paths ≤ count) where
  well : (here : State Rest) → IsWithin program paths here → GoesOnWell program Same IsWell paths here
  well here within =
      let below : within.at < length paths = slice_get_within paths within.at within.path within.is in
      let known = done.done within.at within.path (omega arith) within.is in
      subst (λ (s : State Rest). GoesOnWell program Same IsWell paths s)
      (comes_once program (reverse within.path) known.state here known.comes within.comes) known.goes_on

  accepted_on : (here : State Rest) (choice : Choice) (to : State Rest) (request : Request) → Acts program choice here to
      → AreCovering program Same paths to → asked_in program here choice ≡ Some request → refusal_but_limits here.journal request ≡ None
      → GoesOn program Same (IsWithin program paths) here choice request
  accepted_on here choice _ request (Acts.accepted other journal asked accepted after) covers asks unrefused =
      let same : other ≡ request = same_Some other request (sym asked ∙ asks) in
      record { journal = journal; after = subst (λ (r : Request). After here.journal r journal) same after; covered = covers }
  accepted_on here choice _ request (Acts.alone left none leaves) covers asks unrefused = absurd (none-some request (sym none ∙ asks))
  accepted_on here choice _ request (Acts.refused other cause asked refused) covers asks unrefused =
      let same : other ≡ request = same_Some other request (sym asked ∙ asks) in
      absurd (none-some cause (sym unrefused ∙ sym (ap (refusal_but_limits here.journal) same) ∙ refused))

  refused_on : (here : State Rest) (choice : Choice) (to : State Rest) (request : Request) (cause : Refusal) → Acts program choice here to
      → AreCovering program Same paths to → asked_in program here choice ≡ Some request
      → refusal_but_limits here.journal request ≡ Some cause → AreCovering program Same paths (was_refused program here choice cause)
  refused_on here choice _ request cause (Acts.accepted other journal asked accepted after) covers asks refused =
      let same : other ≡ request = same_Some other request (sym asked ∙ asks) in
      absurd (none-some cause (sym accepted ∙ ap (refusal_but_limits here.journal) same ∙ refused))
  refused_on here choice _ request cause (Acts.alone left none leaves) covers asks refused = absurd (none-some request (sym none ∙ asks))
  refused_on here choice _ request cause (Acts.refused other reason asked also) covers asks refused =
      let same : other ≡ request = same_Some other request (sym asked ∙ asks) in
      let one : reason ≡ cause = same_Some reason cause (sym also ∙ ap (refusal_but_limits here.journal) same ∙ refused) in
      subst (λ (c : Refusal). AreCovering program Same paths (was_refused program here choice c)) one covers

  alone_on : (here : State Rest) (choice : Choice) (to : State Rest) (rest : Rest) → Acts program choice here to
      → AreCovering program Same paths to → asked_in program here choice ≡ None → left_alone program here choice ≡ Some rest
      → AreCovering program Same paths (went_alone program here rest)
  alone_on here choice _ rest (Acts.accepted request journal asked accepted after) covers asks leaves = absurd (none-some request (sym asks ∙ asked))
  alone_on here choice _ rest (Acts.refused request cause asked refused) covers asks leaves = absurd (none-some request (sym asks ∙ asked))
  alone_on here choice _ rest (Acts.alone left none also) covers asks leaves =
      let one : left ≡ rest = same_Some left rest (sym also ∙ leaves) in
      subst (λ (r : Rest). AreCovering program Same paths (went_alone program here r)) one covers

  closed : IsClosed program Same (IsWithin program paths)
  closed = record {
    lawful = λ here within. (well here within).lawful;
    settled = λ here within. (well here within).settled;
    accepted = λ here choice request within asks unrefused.
        let on = (well here within).steps choice (asks_may program here choice request asks) in
        accepted_on here choice on.to request on.acts on.covered asks unrefused;
    refused = λ here choice request cause within asks refused.
        let on = (well here within).steps choice (asks_may program here choice request asks) in
        refused_on here choice on.to request cause on.acts on.covered asks refused;
    alone = λ here choice rest within asks leaves.
        let on = (well here within).steps choice (alone_may program here choice rest asks leaves) in
        alone_on here choice on.to rest on.acts on.covered asks leaves;
  }

  -- what a schedule comes to is well, if what stands in for it is
  pub stays_well : SpeaksInNames program Same
      → ((here by : State Rest) (names : Renaming) → Same names here.rest by.rest → (IsStuck here.journal → IsStuck by.journal) → IsWell by → IsWell here)
      → StaysWell program IsWell start
  stays_well speaks alike = record {
    from = done.begun.from;
    comes = done.begun.comes;
    well = λ more to comes.
        let known : IsCovered program Same (IsWithin program paths) to
        = follows_covered program Same (IsWithin program paths) speaks closed (reverse start) done.begun.from done.begun.comes done.begun.covered
        more to comes in
        alike to known.covered.by known.covered.names known.covered.same (stuck_within program Same (IsWithin program paths) speaks closed to known)
        (well known.covered.by known.covered.within).well;
  }

-- ---- what that says of a program

pub none_gets_stuck : {Rest Choice : Type 0} (program : Program Rest Choice) → StaysWell program (λ state. IsStuck state.journal → ⊥) []
    → NoneGetsStuck program
none_gets_stuck {Choice = Choice} program stays state (choices, comes) =
    stays.well choices state (subst (λ (all : List Choice). Comes program all state) (sym (append-nil choices)) comes)
