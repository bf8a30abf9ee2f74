-- A request at a moment of the host's clock: with or without a tick before it.
use Rattle.std.proofs.Common.{◌≡◌, ℕ, ℤ, Bool, true, false, Result, Ok, Err, List, IfOk, IfErr, sym, ap, ◌∙◌, subst, inl, inr}
use Rattle.std.specs.Prelude.{int_lt}
use Rattle.ada_events.specs.declared.event.Event.{Event}
use Rattle.ada_events.specs.declared.request.Request.{Request}
use Rattle.ada_events.specs.declared.request.Request.TheVariants.{Tick}
use Rattle.ada_events.specs.Tasks.{moment}
use Rattle.ada_lasting.specs.declared.failure.NotDone.{NotDone}
use Rattle.ada_lasting.specs.Clock.{asked_later, since, wants_tick, IsTicked, IsSteppedAt, IsRefusedAt}
use Rattle.ada_lasting.specs.Following.{Long, Follows, IsStepped}
use Rattle.ada_lasting.specs.GivingUp.{GivesUpOnly}
use Rattle.ada_lasting.specs.Refusing.{IsRefused}

-- what is known before the request: its moment isn't before that of the journal, and whether a tick is wanted
pub record IsTimely (old : Long) (now : ℤ) (request : Request) (past wanted : Bool) : Type 0 where
  pub compares : (journal : List Event) → Follows journal old → past ≡ int_lt now (moment journal)
  pub onwards : past ≡ false
  pub wants : (journal : List Event) → Follows journal old → wanted ≡ wants_tick journal now request

onwards-in : (old : Long) (now : ℤ) (request : Request) (past wanted : Bool) → IsTimely old now request past wanted
    → (journal : List Event) → Follows journal old → int_lt now (moment journal) ≡ false
onwards-in old now request past wanted timely journal follows = sym (timely.compares journal follows) ∙ timely.onwards

-- without a tick
pub stepped_later : (old new : Long) (now gap : ℤ) (request asked : Request) (past wanted : Bool) (result : Result ℕ NotDone)
    → IsTimely old now request past wanted → ((journal : List Event) → Follows journal old → gap ≡ since journal now)
    → asked ≡ asked_later gap request → wanted ≡ false
    → ((journal : List Event) → Follows journal old → GivesUpOnly journal old.names new.names)
    → IfOk result (λ at. (journal : List Event) → Follows journal old → IsStepped journal asked at new)
    → IfOk result (λ at. (journal : List Event) → Follows journal old → IsSteppedAt journal now request old at new)
stepped_later old new now gap request asked past wanted (Ok at) timely gap-is is unwanted given stepped = λ journal follows. (
  onwards-in old now request past wanted timely journal follows,
  inl (
    sym (timely.wants journal follows) ∙ unwanted,
    given journal follows,
    subst (λ r. IsStepped journal r at new) (is ∙ ap (λ g. asked_later g request) (gap-is journal follows)) (stepped journal follows),
  ),
)
stepped_later old new now gap request asked past wanted (Err cause) timely gap-is is unwanted given stepped = tt

pub refused_later : (old new : Long) (now gap : ℤ) (request asked : Request) (past wanted : Bool) (result : Result ℕ NotDone)
    → IsTimely old now request past wanted → ((journal : List Event) → Follows journal old → gap ≡ since journal now)
    → asked ≡ asked_later gap request → wanted ≡ false
    → ((journal : List Event) → Follows journal old → GivesUpOnly journal old.names new.names)
    → IfErr result (λ cause. (journal : List Event) → Follows journal old → IsRefused journal asked cause old new)
    → IfErr result (λ cause. (journal : List Event) → Follows journal old → IsRefusedAt journal now request cause old new)
refused_later old new now gap request asked past wanted (Err cause) timely gap-is is unwanted given refused = λ journal follows. inr (
  onwards-in old now request past wanted timely journal follows,
  inl (
    sym (timely.wants journal follows) ∙ unwanted,
    given journal follows,
    subst (λ r. IsRefused journal r cause old new) (is ∙ ap (λ g. asked_later g request) (gap-is journal follows)) (refused journal follows),
  ),
)
refused_later old new now gap request asked past wanted (Ok at) timely gap-is is unwanted given refused = tt

-- the tick was refused
pub tick_refused : (old new : Long) (now : ℤ) (request : Request) (past wanted : Bool) (cause : NotDone) → IsTimely old now request past wanted
    → wanted ≡ true → ((journal : List Event) → Follows journal old → GivesUpOnly journal old.names new.names)
    → ((journal : List Event) → Follows journal old → IsRefused journal (Tick now) cause old new)
    → (journal : List Event) → Follows journal old → IsRefusedAt journal now request cause old new
tick_refused old new now request past wanted cause timely is-wanted given refused journal follows = inr (
  onwards-in old now request past wanted timely journal follows,
  inr (sym (timely.wants journal follows) ∙ is-wanted, inl (given journal follows, refused journal follows)),
)

-- the tick was accepted
ticked-so : (old mid : Long) (now : ℤ) (first : ℕ) (journal : List Event) → GivesUpOnly journal old.names mid.names
    → (tick : IsStepped journal (Tick now) first mid) → IsTicked journal now old tick.grown mid
ticked-so old mid now first journal given tick =
    record { unrefused = tick.unrefused; after = tick.after; follows = tick.follows; given_up = given }

pub stepped_then : (old mid new : Long) (now : ℤ) (request : Request) (past wanted : Bool) (first : ℕ) (result : Result ℕ NotDone)
    → IsTimely old now request past wanted → wanted ≡ true
    → ((journal : List Event) → Follows journal old → GivesUpOnly journal old.names mid.names)
    → ((journal : List Event) → Follows journal old → IsStepped journal (Tick now) first mid)
    → ((journal : List Event) → Follows journal mid → GivesUpOnly journal mid.names new.names)
    → IfOk result (λ at. (journal : List Event) → Follows journal mid → IsStepped journal request at new)
    → IfOk result (λ at. (journal : List Event) → Follows journal old → IsSteppedAt journal now request old at new)
stepped_then old mid new now request past wanted first (Ok at) timely is-wanted given ticks given_then stepped = λ journal follows.
    let tick = ticks journal follows in (
      onwards-in old now request past wanted timely journal follows,
      inr (
        sym (timely.wants journal follows) ∙ is-wanted,
        (
          tick.grown,
          mid,
          ticked-so old mid now first journal (given journal follows) tick,
          given_then tick.grown tick.follows,
          stepped tick.grown tick.follows,
        ),
      ),
    )
stepped_then old mid new now request past wanted first (Err cause) timely is-wanted given ticks given_then stepped = tt

pub refused_then : (old mid new : Long) (now : ℤ) (request : Request) (past wanted : Bool) (first : ℕ) (result : Result ℕ NotDone)
    → IsTimely old now request past wanted → wanted ≡ true
    → ((journal : List Event) → Follows journal old → GivesUpOnly journal old.names mid.names)
    → ((journal : List Event) → Follows journal old → IsStepped journal (Tick now) first mid)
    → ((journal : List Event) → Follows journal mid → GivesUpOnly journal mid.names new.names)
    → IfErr result (λ cause. (journal : List Event) → Follows journal mid → IsRefused journal request cause mid new)
    → IfErr result (λ cause. (journal : List Event) → Follows journal old → IsRefusedAt journal now request cause old new)
refused_then old mid new now request past wanted first (Err cause) timely is-wanted given ticks given_then refused = λ journal follows.
    let tick = ticks journal follows in inr (
      onwards-in old now request past wanted timely journal follows,
      inr (
        sym (timely.wants journal follows) ∙ is-wanted,
        inr (
          tick.grown,
          mid,
          ticked-so old mid now first journal (given journal follows) tick,
          given_then tick.grown tick.follows,
          refused tick.grown tick.follows,
        ),
      ),
    )
refused_then old mid new now request past wanted first (Ok at) timely is-wanted given ticks given_then refused = tt
