-- A schedule leads to one state.
use Rattle.std.proofs.Common.{◌≡◌, List, [], ◌∷◌, refl, sym, ap, subst, ◌∙◌}
use Rattle.std.proofs.lemmas.Option.{none-some, same_Some}
use Rattle.ada_events.specs.declared.request.Request.{Request}
use Rattle.ada_events.specs.Lawful.{After}
use Rattle.ada_laws.specs.Unlimited.{refusal_but_limits}
use Rattle.ada_laws.proofs.asking.RequestLaws.{leads_to_one_journal}
use Rattle.ada_schedules.specs.Schedules.{Program, State, Acts, Comes, beginning}
use Rattle.ada_schedules.specs.Closed.{went_on, was_refused, went_alone}

-- a choice leads to one state: it asks for one request, which is accepted or refused, or for none
pub acts_once : {Rest Choice : Type 0} (program : Program Rest Choice) (choice : Choice) (from a b : State Rest) → Acts program choice from a
    → Acts program choice from b → a ≡ b
acts_once program choice from _ _ (Acts.accepted request journal asks accepted after) (Acts.accepted other next too also leads) =
    let same : other ≡ request = same_Some other request (sym too ∙ asks) in
    let one : journal ≡ next
    = leads_to_one_journal from.journal request journal next after (subst (λ (r : Request). After from.journal r next) same leads) in
    ap (went_on program from choice) one
acts_once program choice from _ _ (Acts.accepted request journal asks accepted after) (Acts.refused other cause too refused) =
    let same : other ≡ request = same_Some other request (sym too ∙ asks) in
    absurd (none-some cause (sym accepted ∙ sym (ap (refusal_but_limits from.journal) same) ∙ refused))
acts_once program choice from _ _ (Acts.refused request cause asks refused) (Acts.accepted other next too accepted leads) =
    let same : other ≡ request = same_Some other request (sym too ∙ asks) in
    absurd (none-some cause (sym accepted ∙ ap (refusal_but_limits from.journal) same ∙ refused))
acts_once program choice from _ _ (Acts.refused request cause asks refused) (Acts.refused other reason too also) =
    let same : other ≡ request = same_Some other request (sym too ∙ asks) in
    let one : cause ≡ reason = same_Some cause reason (sym refused ∙ sym (ap (refusal_but_limits from.journal) same) ∙ also) in
    ap (was_refused program from choice) one
acts_once program choice from _ _ (Acts.alone rest none leaves) (Acts.alone other too also) =
    let one : rest ≡ other = same_Some rest other (sym leaves ∙ also) in
    ap (went_alone program from) one
acts_once program choice from _ _ (Acts.alone rest none leaves) (Acts.accepted request journal asks accepted after) =
    absurd (none-some request (sym none ∙ asks))
acts_once program choice from _ _ (Acts.alone rest none leaves) (Acts.refused request cause asks refused) =
    absurd (none-some request (sym none ∙ asks))
acts_once program choice from _ _ (Acts.accepted request journal asks accepted after) (Acts.alone rest none leaves) =
    absurd (none-some request (sym none ∙ asks))
acts_once program choice from _ _ (Acts.refused request cause asks refused) (Acts.alone rest none leaves) =
    absurd (none-some request (sym none ∙ asks))

-- the step before the last one of a schedule
abbrev pub Came : {Rest Choice : Type 0} (program : Program Rest Choice) → List Choice → State Rest → Type 0
Came program [] to = to ≡ beginning program
Came {Rest = Rest} program (choice ∷ choices) to = (from : State Rest) × Comes program choices from × Acts program choice from to

pub came : {Rest Choice : Type 0} (program : Program Rest Choice) (choices : List Choice) (to : State Rest) → Comes program choices to → Came program choices to
came program choices to (Comes.begun) = refl
came program choices to (Comes.one_more {choices = before} {from} {to = end} choice comes acts) = (from, comes, acts)

pub comes_once : {Rest Choice : Type 0} (program : Program Rest Choice) (choices : List Choice) (a b : State Rest) → Comes program choices a
    → Comes program choices b → a ≡ b
comes_once program [] a b first second = came program [] a first ∙ sym (came program [] b second)
comes_once {Rest = Rest} program (choice ∷ choices) a b first second =
    let (from, comes, acts) = came program (choice ∷ choices) a first in
    let (other, too, also) = came program (choice ∷ choices) b second in
    let same : from ≡ other = comes_once program choices from other comes too in
    acts_once program choice other a b (subst (λ (s : State Rest). Acts program choice s a) same acts) also
