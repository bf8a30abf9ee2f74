-- The outcome of a task after one more event.
use Rattle.std.proofs.Common.{◌≡◌, ℕ, suc, ◌<◌, ◌≤◌, Bool, true, false, cond, Option, Some, None, List, [], ◌∷◌, length, refl, sym, ap, ◌∙◌, arith, subst}
use Rattle.std.proofs.Common.{inl, inr}
use Rattle.std.specs.Option.{option_or, unwrap_or}
use Rattle.std.proofs.lemmas.Bool.{or_from, false_from_ne_true, true≢false}
use Rattle.std.proofs.lemmas.Option.{same_Some}
use Rattle.ada_events.specs.declared.event.Event.{Event}
use Rattle.ada_events.specs.declared.outcome.Outcome.{Outcome}
use Rattle.ada_events.specs.declared.outcome.Outcome.TheVariants.{Dead, Done, Held, Raised, Nothing}
use Rattle.ada_events.specs.Search.{is_number, event_at}
use Rattle.ada_events.specs.Says.{Creation, creation_in, held_in, released_in}
use Rattle.ada_events.specs.Tasks.{task_count}
use Rattle.ada_events.specs.Phases.{is_completed, is_terminated, has_ended}
use Rattle.ada_events.specs.Outcomes.{raised_in, released_to, became, last_given, outcome_at, outcome_of}
use Rattle.ada_laws.specs.Suspension.{IsSuspendedAt}
use Rattle.ada_laws.proofs.searching.Searching.{is_number-some, event_at-newest, event_at-older, event_at-within, event_at-cases}
use Rattle.ada_laws.proofs.searching.Growing.{has_ended-before}
use Rattle.ada_laws.proofs.held.OutcomeLaws.{became-held, same_fate}
use Rattle.ada_standing.proofs.alike.Pairs.{active_parts}
use Rattle.ada_standing.proofs.kept.Fitting.{Fits}
use Rattle.ada_standing.proofs.kept.Newness.{making_only, fresh, fresh_made}

last_same : {A : Type 0} (give there : ℕ → Event → Option A) (journal : List Event)
    → ((p : ℕ) (e : Event) → event_at journal p ≡ Some e → give p e ≡ there p e) → last_given give journal ≡ last_given there journal
unfolding last_given
last_same give there [] same = refl
last_same give there (event ∷ before) same =
    rw (
      same (suc (length before)) event (event_at-newest event before),
      last_same give there before (λ p e at. same p e (event_at-older event before p e at)),
    ) refl

last_none : {A : Type 0} (give : ℕ → Event → Option A) (journal : List Event) → ((p : ℕ) (e : Event) → event_at journal p ≡ Some e → give p e ≡ None)
    → last_given give journal ≡ None
unfolding last_given
last_none give [] none = refl
last_none give (event ∷ before) none =
    rw (none (suc (length before)) event (event_at-newest event before))
    (last_none give before (λ p e at. none p e (event_at-older event before p e at)))

pub outcome_dead : (journal : List Event) (u : ℕ) → is_terminated journal u ≡ true → outcome_of journal u ≡ Dead
unfolding outcome_of
outcome_dead journal u ended = rw ended refl

pub outcome_done : (journal : List Event) (u : ℕ) → is_terminated journal u ≡ false → is_completed journal u ≡ true → outcome_of journal u ≡ Done
unfolding outcome_of
outcome_done journal u still completed = rw (still, completed) refl

outcome_active : (journal : List Event) (u : ℕ) → has_ended journal u ≡ false
    → outcome_of journal u ≡ unwrap_or (last_given (outcome_at journal u) journal) Nothing
unfolding outcome_of
outcome_active journal u active =
    let both = active_parts journal u active in
    rw (both.1, both.0) refl

pub outcome_raised : (event : Event) (before : List Event) (u : ℕ) → has_ended (event ∷ before) u ≡ false → is_number u (raised_in event) ≡ true
    → outcome_of (event ∷ before) u ≡ Raised
unfolding last_given outcome_at
outcome_raised event before u active raises = outcome_active (event ∷ before) u active ∙ rw raises refl

-- an event releases no position that isn't there yet
newest_unreleased : (event : Event) (before : List Event) → Fits before event → is_number (suc (length before)) (released_in event) ≡ false
newest_unreleased event before fits =
    false_from_ne_true (is_number (suc (length before)) (released_in event)) (λ now.
    let (t, held) = fits.releases (suc (length before)) (is_number-some (suc (length before)) (released_in event) now) in
    let within : suc (length before) ≤ length before = event_at-within before (suc (length before)) held.event held.stands in
    omega (arith, within))

pub outcome_held : (event : Event) (before : List Event) (u : ℕ) → Fits before event → has_ended (event ∷ before) u ≡ false
    → is_number u (raised_in event) ≡ false → is_number u (held_in event) ≡ true → outcome_of (event ∷ before) u ≡ Held
unfolding last_given outcome_at became
outcome_held event before u fits active unraised holds =
    outcome_active (event ∷ before) u active
    ∙ rw (unraised, holds, newest_unreleased event before fits) (became-held before (suc (length before)) fits.unreleased)

no_doing : (journal : List Event) (u p : ℕ) (e : Event) → is_number u (raised_in e) ≡ false → is_number u (held_in e) ≡ false
    → outcome_at journal u p e ≡ None
unfolding outcome_at
no_doing journal u p e unraised unheld = rw (unraised, unheld) refl

-- the event is no doing of the task
older_doings : (event : Event) (before : List Event) (u : ℕ) → has_ended (event ∷ before) u ≡ false → is_number u (raised_in event) ≡ false
    → is_number u (held_in event) ≡ false
    → outcome_of (event ∷ before) u ≡ unwrap_or (last_given (outcome_at (event ∷ before) u) before) Nothing
unfolding last_given
older_doings event before u active unraised unheld =
    outcome_active (event ∷ before) u active
    ∙ ap (λ (o : Option Outcome). unwrap_or (option_or o (last_given (outcome_at (event ∷ before) u) before)) Nothing)
    (no_doing (event ∷ before) u (suc (length before)) event unraised unheld)

pub outcome_released : (event : Event) (before : List Event) (u p : ℕ) → Fits before event → has_ended (event ∷ before) u ≡ false
    → is_number u (raised_in event) ≡ false → is_number u (held_in event) ≡ false → IsSuspendedAt before u p → is_number p (released_in event) ≡ true
    → outcome_of (event ∷ before) u ≡ released_to before event
unfolding became
outcome_released event before u p fits active unraised unheld held releases =
    older_doings event before u active unraised unheld ∙ rw (fits.latest (event ∷ before) u p held, releases) refl

held_same : (b c : Bool) (x y : Outcome) → (c ≡ true → x ≡ y) → cond b (Some Raised) (cond c (Some x) None) ≡ cond b (Some Raised) (cond c (Some y) None)
held_same true c x y same = refl
held_same false true x y same = ap Some (same refl)
held_same false false x y same = refl

pub outcome_same : (event : Event) (before : List Event) (u : ℕ) → Fits before event → has_ended (event ∷ before) u ≡ false
    → is_number u (raised_in event) ≡ false → is_number u (held_in event) ≡ false
    → ((p : ℕ) → IsSuspendedAt before u p → is_number p (released_in event) ≡ false) → outcome_of (event ∷ before) u ≡ outcome_of before u
unfolding outcome_at
outcome_same event before u fits active unraised unheld unreleased =
    older_doings event before u active unraised unheld
    ∙ (ap (λ (o : Option Outcome). unwrap_or o Nothing)
    (last_same (outcome_at (event ∷ before) u) (outcome_at before u) before (λ p e at.
    held_same (is_number u (raised_in e)) (is_number u (held_in e)) (became (event ∷ before) p) (became before p) (λ holds.
    same_fate event before p (false_from_ne_true (is_number p (released_in event)) (λ now.
    let (t, held) = fits.releases p (is_number-some p (released_in event) now) in
    let one : held.event ≡ e = same_Some held.event e (sym held.stands ∙ at) in
    let by : t ≡ u = same_Some t u (sym held.holds ∙ (ap held_in one ∙ is_number-some u (held_in e) holds)) in
    true≢false (sym now ∙ unreleased p (subst (λ (n : ℕ). IsSuspendedAt before n p) by held)))))))
    ∙ sym (outcome_active before u (has_ended-before event before u active)))

-- nothing became of a new task
pub outcome_new : (event : Event) (before : List Event) (u : ℕ) (c : Creation) → Fits before event → creation_in event ≡ Some c → u ≡ task_count before
    → outcome_of (event ∷ before) u ≡ Nothing
unfolding has_ended
outcome_new event before u c fits says newest =
    let none = fresh_made event before u c says (fresh before event u fits newest) in
    let only = making_only event c says in
    let beyond : u < task_count before → ⊥ = λ below. omega (arith, newest, below) in
    outcome_active (event ∷ before) u (or_from (is_completed (event ∷ before) u) (is_terminated (event ∷ before) u) none.uncompleted none.unterminated)
    ∙ ap (λ (o : Option Outcome). unwrap_or o Nothing)
    (last_none (outcome_at (event ∷ before) u) (event ∷ before) (λ p e at.
    elim (event_at-cases event before p e at) [
      | inl now ↦
          no_doing (event ∷ before) u p e (ap (λ x. is_number u (raised_in x)) (sym now.1) ∙ ap (is_number u) only.raises)
          (ap (λ x. is_number u (held_in x)) (sym now.1) ∙ ap (is_number u) only.holds)
      | inr was ↦
          no_doing (event ∷ before) u p e
          (false_from_ne_true (is_number u (raised_in e)) (λ now. beyond ((fits.told p e was).raises u (is_number-some u (raised_in e) now))))
          (false_from_ne_true (is_number u (held_in e)) (λ now. beyond ((fits.told p e was).holds u (is_number-some u (held_in e) now))))
    ]))
