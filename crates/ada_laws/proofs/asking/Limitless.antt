-- What isn't refused isn't refused where tasks, slots and events have no limit, so that lawful journals are lawful there, too.
use Rattle.std.proofs.Common.{◌≡◌, Bool, true, false, not, cond, Option, Some, None, List, [], ◌∷◌, ◌++◌, filter, refl, sym, ◌∙◌, inl, inr}
use Rattle.std.specs.Option.{option_or}
use Rattle.ada_events.specs.declared.event.Event.{Event}
use Rattle.ada_events.specs.declared.request.Request.{Request}
use Rattle.ada_events.specs.declared.request.Request.TheVariants.{Create}
use Rattle.ada_events.specs.declared.refusal.Refusal.{Refusal}
use Rattle.ada_events.specs.declared.refusal.Refusal.TheVariants.{MainTask, MomentBack, MomentTooLarge, TooManyTasks, TooManySlots}
use Rattle.ada_events.specs.declared.refusal.Refusal.TheVariants.{TooDeep, JournalFull}
use Rattle.ada_events.specs.Limits.{moves_back, is_too_late, makes_too_many_tasks, makes_too_many_slots, is_too_deep, is_full}
use Rattle.ada_events.specs.Refusals.{names_unknown_task, asker_not_running, is_during_activation, is_not_activating, is_not_your_master}
use Rattle.ada_events.specs.Refusals.{has_empty_list, is_not_your_task, has_no_accept, names_no_family, breaks_constraint, nests_same_family}
use Rattle.ada_events.specs.Refusals.{terminates_in_accept, is_not_in_accept, has_no_block, is_still_nested, aborts_main}
use Rattle.ada_events.specs.Refusals.{Cause, cause, first_cause, causes_by_name, causes_by_entry, causes_by_nest, causes_by_limit, causes, refusal}
use Rattle.ada_events.specs.Lawful.{MayFollow}
use Rattle.ada_laws.specs.Unlimited.{is_limit, causes_but_limits, refusal_but_limits, limit_refusal}
use Rattle.ada_laws.specs.Unlimited.{LawfulIsUnlimited}
use Rattle.ada_laws.proofs.searching.Searching.{option_or-none}
use Rattle.ada_laws.proofs.asking.CauseParts.{NoneApplies, none_applies}

-- limits come last

onwards : (b : Bool) (name : Refusal) (x y o : Option Refusal) → x ≡ option_or y o → cond b (Some name) x ≡ option_or (cond b (Some name) y) o
onwards true name x y o same = refl
onwards false name x y o same = same

-- the same causes before others that give the same first
first_after : (xs ys zs : List Cause) (o : Option Refusal) → first_cause ys ≡ option_or (first_cause zs) o
    → first_cause (xs ++ ys) ≡ option_or (first_cause (xs ++ zs)) o
unfolding first_cause
first_after [] ys zs o same = same
first_after (c ∷ xs) ys zs o same = onwards c.applies c.name (first_cause (xs ++ ys)) (first_cause (xs ++ zs)) o (first_after xs ys zs o same)

-- a request that can't be too deep, and one that makes no task

shallow : (m b l t s f : Bool)
    → first_cause (cause m MainTask ∷ cause b MomentBack ∷ cause l MomentTooLarge ∷ cause t TooManyTasks ∷ cause s TooManySlots ∷ cause false TooDeep
    ∷ cause f JournalFull ∷ [])
    ≡ option_or (first_cause (cause m MainTask ∷ cause b MomentBack ∷ cause l MomentTooLarge ∷ cause false TooDeep ∷ []))
    (first_cause (cause t TooManyTasks ∷ cause s TooManySlots ∷ cause f JournalFull ∷ []))
unfolding first_cause
shallow true b l t s f = refl
shallow false true l t s f = refl
shallow false false true t s f = refl
shallow false false false t s f = refl

few : (m b l d f : Bool)
    → first_cause (cause m MainTask ∷ cause b MomentBack ∷ cause l MomentTooLarge ∷ cause false TooManyTasks ∷ cause false TooManySlots ∷ cause d TooDeep
    ∷ cause f JournalFull ∷ [])
    ≡ option_or (first_cause (cause m MainTask ∷ cause b MomentBack ∷ cause l MomentTooLarge ∷ cause d TooDeep ∷ []))
    (first_cause (cause false TooManyTasks ∷ cause false TooManySlots ∷ cause f JournalFull ∷ []))
unfolding first_cause
few true b l d f = refl
few false true l d f = refl
few false false true d f = refl
few false false false true f = refl
few false false false false f = refl

-- of these, those that aren't limits of tasks, slots or events
abbrev but_limits : List Cause → List Cause
but_limits = filter (λ (c : Cause). not (is_limit c.name))

last_causes : (journal : List Event) (request : Request)
    → first_cause (causes_by_limit journal request) ≡ option_or (first_cause (but_limits (causes_by_limit journal request))) (limit_refusal journal request)
unfolding limit_refusal causes makes_too_many_tasks makes_too_many_slots is_too_deep
last_causes journal (Create by master families) =
    let request = Create by master families in
    shallow (aborts_main request) (moves_back journal request) (is_too_late journal request) (makes_too_many_tasks journal request)
    (makes_too_many_slots journal request) (is_full journal)
last_causes journal request =
    few (aborts_main request) (moves_back journal request) (is_too_late journal request) (is_too_deep journal request) (is_full journal)

-- a request is refused for a limit of tasks, slots or events only where it isn't refused for another cause
pub limits_refuse_at_last : (journal : List Event) (request : Request)
    → refusal journal request ≡ option_or (refusal_but_limits journal request) (limit_refusal journal request)
unfolding refusal causes refusal_but_limits causes_but_limits
limits_refuse_at_last journal request =
    first_after (causes_by_name journal request ++ causes_by_entry journal request ++ causes_by_nest journal request)
    (causes_by_limit journal request) (but_limits (causes_by_limit journal request)) (limit_refusal journal request) (last_causes journal request)

-- what isn't refused isn't refused where tasks, slots and events have no limit
pub accepted_without_limits : (journal : List Event) (request : Request) → refusal journal request ≡ None → refusal_but_limits journal request ≡ None
accepted_without_limits journal request accepted =
    (option_or-none (refusal_but_limits journal request) (limit_refusal journal request) (sym (limits_refuse_at_last journal request) ∙ accepted)).0

-- that a request isn't refused where tasks, slots and events have no limit, cause by cause
pub record IsAcceptedUnlimited (journal : List Event) (r : Request) : Type 0 where
  pub tasks_known : names_unknown_task journal r ≡ false
  pub running : asker_not_running journal r ≡ false
  pub activated : is_during_activation journal r ≡ false
  pub activating : is_not_activating journal r ≡ false
  pub your_master : is_not_your_master journal r ≡ false
  pub lists_some : has_empty_list r ≡ false
  pub your_tasks : is_not_your_task journal r ≡ false
  pub accepts : has_no_accept r ≡ false
  pub families_known : names_no_family journal r ≡ false
  pub in_range : breaks_constraint journal r ≡ false
  pub family_once : nests_same_family journal r ≡ false
  pub no_terminate : terminates_in_accept journal r ≡ false
  pub in_accept : is_not_in_accept journal r ≡ false
  pub in_block : has_no_block journal r ≡ false
  pub not_nested : is_still_nested journal r ≡ false
  pub spares_main : aborts_main r ≡ false
  pub moves_on : moves_back journal r ≡ false
  pub in_time : is_too_late journal r ≡ false
  pub not_deep : is_too_deep journal r ≡ false

pub is_accepted-unlimited : (journal : List Event) (r : Request) → refusal_but_limits journal r ≡ None → IsAcceptedUnlimited journal r
unfolding refusal_but_limits causes_but_limits causes
is_accepted-unlimited journal r accepted =
    let none : NoneApplies (causes_but_limits journal r) = none_applies (causes_but_limits journal r) accepted in
    record {
      tasks_known = none.0;
      running = none.1.0;
      activated = none.1.1.0;
      activating = none.1.1.1.0;
      your_master = none.1.1.1.1.0;
      lists_some = none.1.1.1.1.1.0;
      your_tasks = none.1.1.1.1.1.1.0;
      accepts = none.1.1.1.1.1.1.1.0;
      families_known = none.1.1.1.1.1.1.1.1.0;
      in_range = none.1.1.1.1.1.1.1.1.1.0;
      family_once = none.1.1.1.1.1.1.1.1.1.1.0;
      no_terminate = none.1.1.1.1.1.1.1.1.1.1.1.0;
      in_accept = none.1.1.1.1.1.1.1.1.1.1.1.1.0;
      in_block = none.1.1.1.1.1.1.1.1.1.1.1.1.1.0;
      not_nested = none.1.1.1.1.1.1.1.1.1.1.1.1.1.1.0;
      spares_main = none.1.1.1.1.1.1.1.1.1.1.1.1.1.1.1.0;
      moves_on = none.1.1.1.1.1.1.1.1.1.1.1.1.1.1.1.1.0;
      in_time = none.1.1.1.1.1.1.1.1.1.1.1.1.1.1.1.1.1.0;
      not_deep = none.1.1.1.1.1.1.1.1.1.1.1.1.1.1.1.1.1.1.0;
    }

-- what may follow a journal may follow it where tasks, slots and events have no limit, and what is lawful is lawful there

pub may_follow_unlimited : (journal : List Event) (event : Event) → MayFollow refusal journal event → MayFollow refusal_but_limits journal event
may_follow_unlimited journal event (inl forces) = inl forces
may_follow_unlimited journal event (inr asked) =
    inr (record {
      settled = asked.settled;
      request = asked.request;
      accepted = accepted_without_limits journal asked.request asked.accepted;
      becomes = asked.becomes;
    })

pub lawful_unlimited : LawfulIsUnlimited
lawful_unlimited [] lawful = tt
lawful_unlimited (event ∷ before) lawful = (lawful_unlimited before lawful.0, may_follow_unlimited before event lawful.1)
