-- A closed set covers whatever a schedule comes to.
use Rattle.std.proofs.Common.{◌≡◌, Some, None, List, [], ◌∷◌, ◌++◌, sym, subst, ◌∙◌}
use Rattle.std.proofs.lemmas.List.{append-nil}
use Rattle.ada_events.specs.declared.event.Event.{Event}
use Rattle.ada_events.specs.declared.request.Request.{Request}
use Rattle.ada_events.specs.declared.refusal.Refusal.{Refusal}
use Rattle.ada_events.specs.Lawful.{IsSettled, After}
use Rattle.ada_laws.specs.Unlimited.{IsLawfulUnlimited, refusal_but_limits}
use Rattle.ada_laws.proofs.asking.GroupLaws.{empty_is_settled}
use Rattle.ada_laws.proofs.asking.Limitless.{lawful_unlimited}
use Rattle.ada_laws.proofs.asking.RequestLaws.{after-unlimited}
use Rattle.ada_standing.specs.Renaming.{Renaming, chained}
use Rattle.ada_standing.specs.StandsIn.{StandsIn}
use Rattle.ada_standing.specs.Asking.{renamed_request}
use Rattle.ada_standing.proofs.chained.Chain.{stand_ins_chain}
use Rattle.ada_standing.proofs.asked.Refusing.{refused_alike}
use Rattle.ada_standing.proofs.led.Leading.{leads_alike}
use Rattle.ada_schedules.specs.Schedules.{Program, State, Acts, Comes, Reaches, beginning}
use Rattle.ada_schedules.specs.Closed.{asked_in, went_on, was_refused, left_alone, went_alone, StandsFor, SpeaksInNames, Covers, IsClosed}
use Rattle.ada_schedules.specs.Stuck.{IsStuck}
use Rattle.ada_schedules.specs.Laws.{Passing, PassingBoth, ClosedSetsCoverWhatFollows, ClosedSetsCoverAll, NoScheduleGetsStuck}
use Rattle.ada_schedules.proofs.Once.{came, comes_once}
use Rattle.ada_schedules.proofs.Stuck.{few_tasks, stuck_alike}

-- what a schedule comes to is lawful and settled
come_lawful : {Rest Choice : Type 0} (program : Program Rest Choice) (choices : List Choice) (state : State Rest) → Comes program choices state
    → IsLawfulUnlimited state.journal × IsSettled state.journal
come_lawful program choices state (Comes.begun) = (tt, empty_is_settled)
come_lawful {Rest = Rest} program choices state (Comes.one_more {choices = before} {from} {to} choice comes acts) =
    on from to acts (come_lawful program before from comes)
  where
    on : (here there : State Rest) → Acts program choice here there → IsLawfulUnlimited here.journal × IsSettled here.journal
        → IsLawfulUnlimited there.journal × IsSettled there.journal
    on here _ (Acts.accepted request journal asks accepted leads) (lawful, settled) =
        (after-unlimited here.journal request journal lawful settled accepted leads, leads.settled)
    on here _ (Acts.refused request cause asks refused) known = known
    on here _ (Acts.alone rest asks leaves) known = known

-- a schedule came to the state, which is covered, lawful and settled
pub record IsCovered {Rest Choice : Type 0} (program : Program Rest Choice) (Same : Renaming → Rest → Rest → Type 0) (Within : State Rest → Type 0)
    (state : State Rest) : Type 0 where
  pub reached : Reaches program state
  pub covered : Covers program Same Within state
  pub lawful : IsLawfulUnlimited state.journal
  pub settled : IsSettled state.journal

module _ {Rest Choice : Type 0} (program : Program Rest Choice) (Same : Renaming → Rest → Rest → Type 0) (Within : State Rest → Type 0)
    (speaks : SpeaksInNames program Same) (closed : IsClosed program Same Within) where
  -- the state that covers one stands in for it
  stands_for : (state : State Rest) (known : IsCovered program Same Within state)
      → StandsFor program Same state known.covered.by known.covered.names
  stands_for state known = record {
    reached = known.reached;
    lawful = known.lawful;
    lawful_too = closed.lawful known.covered.by known.covered.within;
    stands = known.covered.stands;
    same = known.covered.same;
  }

  -- what stands in for what stands in for a state covers it, too
  cover_on : (state other : State Rest) (names : Renaming) → StandsIn state.journal other.journal names
      → IsLawfulUnlimited state.journal → Same names state.rest other.rest → Covers program Same Within other → Covers program Same Within state
  cover_on state other names stands lawful same covered = record {
    by = covered.by;
    within = covered.within;
    names = chained names covered.names;
    stands = stand_ins_chain state.journal other.journal covered.by.journal names covered.names stands covered.stands lawful;
    same = speaks.chained names covered.names state.rest other.rest covered.by.rest same covered.same;
  }

  -- a request is refused alike by what covers a state
  refuses_alike : (state : State Rest) (choice : Choice) (request : Request) (known : IsCovered program Same Within state)
      → asked_in program state choice ≡ Some request
      → refusal_but_limits known.covered.by.journal (renamed_request known.covered.names request) ≡ refusal_but_limits state.journal request
  refuses_alike state choice request known asks =
      let here = known.covered in
      let within = closed.lawful here.by here.within in
      refused_alike state.journal here.by.journal here.names request here.stands known.lawful (lawful_unlimited here.by.journal within)
      (few_tasks here.by.journal within) (speaks.kept state here.by here.names choice request (stands_for state known) asks)

  -- what an accepted request leads to is covered again
  accepted_on : (state : State Rest) (choice : Choice) (request : Request) (journal : List Event)
      → IsCovered program Same Within state → asked_in program state choice ≡ Some request
      → refusal_but_limits state.journal request ≡ None → After state.journal request journal
      → IsCovered program Same Within (went_on program state choice journal)
  accepted_on state choice request journal known asks accepted leads =
      let here = known.covered in
      let there = here.by in
      let copy = renamed_request here.names request in
      let for = stands_for state known in
      let also = lawful_unlimited there.journal for.lawful_too in
      let kept = speaks.kept state there here.names choice request for asks in
      let asks_too = speaks.asks state there here.names choice request for asks in
      let accepted_too = refuses_alike state choice request known asks ∙ accepted in
      let on = closed.accepted there choice copy here.within asks_too accepted_too in
      let led = leads_alike state.journal there.journal here.names request journal on.journal here.stands known.lawful also known.settled kept
      accepted accepted_too leads on.after in
      let lawful_after = after-unlimited state.journal request journal known.lawful known.settled accepted leads in
      let lawful_there = after-unlimited there.journal copy on.journal also (closed.settled there here.within) accepted_too on.after in
      record {
        reached = let (choices, comes) = known.reached in (choice ∷ choices, Comes.one_more choice comes (Acts.accepted request journal asks accepted leads));
        covered = cover_on (went_on program state choice journal) (went_on program there choice on.journal) led.after led.stands lawful_after
            (speaks.after state there here.names choice request journal on.journal for asks leads on.after lawful_after lawful_there led) on.covered;
        lawful = lawful_after;
        settled = leads.settled;
      }

  -- what a refused request leaves is covered again
  refused_on : (state : State Rest) (choice : Choice) (request : Request) (cause : Refusal) → IsCovered program Same Within state
      → asked_in program state choice ≡ Some request → refusal_but_limits state.journal request ≡ Some cause
      → IsCovered program Same Within (was_refused program state choice cause)
  refused_on state choice request cause known asks refused =
      let here = known.covered in
      let there = here.by in
      let copy = renamed_request here.names request in
      let asks_too = speaks.asks state there here.names choice request (stands_for state known) asks in
      record {
        reached = let (choices, comes) = known.reached in (choice ∷ choices, Comes.one_more choice comes (Acts.refused request cause asks refused));
        covered = cover_on (was_refused program state choice cause) (was_refused program there choice cause) here.names here.stands known.lawful
            (speaks.refused here.names state.rest there.rest choice cause here.same)
            (closed.refused there choice copy cause here.within asks_too (refuses_alike state choice request known asks ∙ refused));
        lawful = known.lawful;
        settled = known.settled;
      }

  -- what a choice leaves that asks for nothing is covered again
  alone_on : (state : State Rest) (choice : Choice) (rest : Rest) → IsCovered program Same Within state
      → asked_in program state choice ≡ None → left_alone program state choice ≡ Some rest
      → IsCovered program Same Within (went_alone program state rest)
  alone_on state choice rest known asks leaves =
      let here = known.covered in
      let there = here.by in
      let goes = speaks.alone state there here.names choice rest (stands_for state known) asks leaves in
      record {
        reached = let (choices, comes) = known.reached in (choice ∷ choices, Comes.one_more choice comes (Acts.alone rest asks leaves));
        covered = cover_on (went_alone program state rest) (went_alone program there goes.left) here.names here.stands known.lawful goes.same
            (closed.alone there choice goes.left here.within goes.asks goes.leaves);
        lawful = known.lawful;
        settled = known.settled;
      }

  acts_on : (choice : Choice) (from to : State Rest) → IsCovered program Same Within from → Acts program choice from to
      → IsCovered program Same Within to
  acts_on choice from to known (Acts.accepted request journal asks accepted leads) = accepted_on from choice request journal known asks accepted leads
  acts_on choice from to known (Acts.refused request cause asks refused) = refused_on from choice request cause known asks refused
  acts_on choice from to known (Acts.alone rest asks leaves) = alone_on from choice rest known asks leaves

  -- whatever follows a covered state is covered
  pub follows_covered : (choices : List Choice) (from : State Rest) → Comes program choices from → Covers program Same Within from
      → (more : List Choice) (to : State Rest) → Comes program (more ++ choices) to → IsCovered program Same Within to
  follows_covered choices from comes covers [] to also =
      let (lawful, settled) = come_lawful program choices from comes in
      subst (λ (s : State Rest). IsCovered program Same Within s) (comes_once program choices from to comes also)
      (record { reached = (choices, comes); covered = covers; lawful = lawful; settled = settled })
  follows_covered choices from comes covers (choice ∷ more) to also =
      let (before, there, acts) = came program (choice ∷ (more ++ choices)) to also in
      acts_on choice before to (follows_covered choices from comes covers more before there) acts

  -- whatever a schedule comes to is covered, if the beginning is
  reached_covered : Covers program Same Within (beginning program) → (state : State Rest) → Reaches program state
      → IsCovered program Same Within state
  reached_covered begun state (choices, comes) =
      follows_covered [] (beginning program) Comes.begun begun choices state
      (subst (λ (all : List Choice). Comes program all state) (sym (append-nil choices)) comes)

  all_covered : Covers program Same Within (beginning program) → (state : State Rest) → Reaches program state
      → Covers program Same Within state
  all_covered begun state reached = (reached_covered begun state reached).covered

  -- a stuck state is covered by a stuck one
  pub stuck_within : (state : State Rest) (known : IsCovered program Same Within state) → IsStuck state.journal
      → IsStuck known.covered.by.journal
  stuck_within state known stuck =
      let here = known.covered in
      stuck_alike state.journal here.by.journal here.names here.stands known.lawful (closed.lawful here.by here.within) known.settled stuck

  -- and if none of the set is stuck, nothing is that a schedule comes to
  none_stuck : Covers program Same Within (beginning program) → ((state : State Rest) → Within state → IsStuck state.journal → ⊥)
      → (state : State Rest) → Reaches program state → IsStuck state.journal → ⊥
  none_stuck begun none state reached stuck =
      let known = reached_covered begun state reached in
      none known.covered.by known.covered.within (stuck_within state known stuck)

pub closed_sets_cover_what_follows : {Rest Choice : Type 0} → ClosedSetsCoverWhatFollows Rest Choice
closed_sets_cover_what_follows program same within speaks closed choices more from to comes covers also =
    (follows_covered program (PassingBoth same) (Passing within) speaks closed choices from comes covers more
    to also).covered

pub closed_sets_cover_all : {Rest Choice : Type 0} → ClosedSetsCoverAll Rest Choice
closed_sets_cover_all program same within speaks closed begun =
    all_covered program (PassingBoth same) (Passing within) speaks closed begun

pub no_schedule_gets_stuck : {Rest Choice : Type 0} → NoScheduleGetsStuck Rest Choice
no_schedule_gets_stuck program same within speaks closed begun none =
    none_stuck program (PassingBoth same) (Passing within) speaks closed begun none
