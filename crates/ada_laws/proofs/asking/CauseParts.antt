-- The first cause, from the four parts of the causes, and causes none of which applies.
use Rattle.std.proofs.Common.{◌≡◌, Bool, true, false, Option, Some, None, List, [], ◌∷◌, ◌++◌, refl, sym, ap, ◌∙◌}
use Rattle.std.specs.Prelude.{if◌then◌else◌}
use Rattle.std.specs.Option.{option_or}
use Rattle.std.proofs.lemmas.Option.{none-some}
use Rattle.ada_events.specs.declared.event.Event.{Event}
use Rattle.ada_events.specs.declared.refusal.Refusal.{Refusal}
use Rattle.ada_events.specs.declared.request.Request.{Request}
use Rattle.ada_events.specs.Refusals.{Cause, first_cause, causes_by_name, causes_by_entry, causes_by_nest, causes_by_limit, causes, refusal}

if-option_or : (b : Bool) (name : Refusal) (x y : Option Refusal) → (if b then Some name else option_or x y) ≡ option_or (if b then Some name else x) y
if-option_or true name x y = refl
if-option_or false name x y = refl

first_cause-append : (xs ys : List Cause) → first_cause (xs ++ ys) ≡ option_or (first_cause xs) (first_cause ys)
unfolding first_cause
first_cause-append [] ys = refl
first_cause-append (c ∷ xs) ys =
    ap (λ r. if c.applies then Some c.name else r) (first_cause-append xs ys) ∙ if-option_or c.applies c.name (first_cause xs) (first_cause ys)

pub first_cause_in_parts : (journal : List Event) (request : Request)
    → refusal journal request ≡ option_or (first_cause (causes_by_name journal request))
    (option_or (first_cause (causes_by_entry journal request))
    (option_or (first_cause (causes_by_nest journal request)) (first_cause (causes_by_limit journal request))))
unfolding refusal causes
first_cause_in_parts journal request =
    first_cause-append (causes_by_name journal request) (causes_by_entry journal request ++ (causes_by_nest journal request ++ causes_by_limit journal request))
    ∙ ap (option_or (first_cause (causes_by_name journal request)))
    (first_cause-append (causes_by_entry journal request) (causes_by_nest journal request ++ causes_by_limit journal request)
    ∙ ap (option_or (first_cause (causes_by_entry journal request))) (first_cause-append (causes_by_nest journal request) (causes_by_limit journal request)))

-- no cause of the list applies
abbrev pub NoneApplies : List Cause → Type 0
NoneApplies [] = Unit {0}
NoneApplies (c ∷ rest) = (c.applies ≡ false) × NoneApplies rest

none_of_one : (applies : Bool) (c : Cause) (rest : List Cause) → applies ≡ c.applies → first_cause (c ∷ rest) ≡ None → (c.applies ≡ false)
    × (first_cause rest ≡ None)
unfolding first_cause
none_of_one true c rest same none = absurd (none-some c.name (sym none ∙ rw (← same) refl))
none_of_one false c rest same none = (sym same, rw (← same) at none)

pub none_applies : (causes : List Cause) → first_cause causes ≡ None → NoneApplies causes
none_applies [] none = tt
none_applies (c ∷ rest) none =
    let both : (c.applies ≡ false) × (first_cause rest ≡ None) = none_of_one c.applies c rest refl none in
    (both.0, none_applies rest both.1)
