-- Three objects: the main program makes two tasks, of which the first calls the second, and that accepts one call, calls
-- the first, or delays itself.
use Rattle.std.specs.Prelude.{ℕ, pos, ◌+◌, ◌==◌, ◌||◌, min, nat_lt, true, false, if◌then◌else◌, [], ◌∷◌}
use Rattle.ada_events.specs.declared.names.Entry.{Entry}
use Rattle.ada_events.specs.declared.names.Patience.TheVariants.{Simple}
use Rattle.ada_events.specs.declared.request.Tail.TheVariants as tail
use Rattle.ada_behaviours.specs.declared.want.Action.TheVariants.{Create, Activate, Elaborated, Call, Wait, Delay, End, Complete}
use Rattle.ada_behaviours.specs.declared.want.Want.{Want}
use Rattle.ada_behaviours.specs.declared.want.Want.TheVariants.{Nothing, Act}
use Rattle.ada_behaviours.specs.Behaviours.{Behaviour}
use Rattle.ada_moves_tests.specs.declared.plan.Bob.{Bob}
use Rattle.ada_moves_tests.specs.declared.plan.Bob.TheVariants.{Accepts, Calls, Pauses}
use Rattle.ada_moves_tests.specs.declared.plan.Place.{Place}
use Rattle.ada_moves_tests.specs.declared.plan.Places.{Places}

-- ---- places

-- the place after a place; after step 255 there is none
abbrev pub next : Place → Place
next place = record { step = min (place.step + 1) 255; waits = false }

abbrev pub waiting : Place → Place
waiting place = record { step = place.step; waits = true }

abbrev pub place_of : Places → ℕ → Place
place_of places object = if object == 0 then places.main else (if object == 1 then places.ann else places.bob)

abbrev pub put : Places → ℕ → Place → Places
put places object place =
    if object == 0 then record { main = place; ann = places.ann; bob = places.bob }
    else (if object == 1 then record { main = places.main; ann = place; bob = places.bob }
    else record { main = places.main; ann = places.ann; bob = place })

-- ---- what each wants at a step

abbrev pub entry : Entry
entry = record { family = 0; index = pos 0 }

abbrev pub creation : ℕ → Want
creation object = Act (Create (record { 0 = object }) (record { low = pos 0; high = pos 0 } ∷ []))

abbrev pub start : Want
start = Act (Activate (record { 0 = 1 } ∷ record { 0 = 2 } ∷ []))

abbrev pub acceptance : Want
acceptance = Act (Wait (record { guard = true; entry = entry } ∷ []) tail.Nothing)

abbrev pub main_wants : ℕ → Want
main_wants step =
    if step == 0 then creation 1 else (if step == 1 then creation 2 else (if step == 2 then start
    else (if step == 3 then Act Complete else Nothing)))

abbrev pub caller_wants : ℕ → ℕ → Want
caller_wants step callee =
    if step == 0 then Act (Elaborated true) else (if step == 1 then Act (Call (record { 0 = callee }) entry Simple)
    else (if step == 2 then Act Complete else Nothing))

abbrev pub server_wants : ℕ → Want
server_wants step =
    if step == 0 then Act (Elaborated true) else (if step == 1 then acceptance else (if step == 2 then Act (End false)
    else (if step == 3 then Act Complete else Nothing)))

abbrev pub sleeper_wants : ℕ → Want
sleeper_wants step =
    if step == 0 then Act (Elaborated true) else (if step == 1 then Act (Delay (pos 1000)) else (if step == 2 then Act Complete else Nothing))

abbrev pub bob_wants : Bob → ℕ → Want
bob_wants Accepts step = server_wants step
bob_wants Calls step = caller_wants step 1
bob_wants Pauses step = sleeper_wants step

abbrev pub planned : Bob → ℕ → ℕ → Want
planned bob object step =
    if object == 0 then main_wants step else (if object == 1 then caller_wants step 2 else bob_wants bob step)

-- ---- the behaviour

-- with the first pick alone an object wants anything
abbrev pub wants : Bob → Places → ℕ → ℕ → Want
wants bob places object pick =
    if nat_lt 0 pick || (place_of places object).waits then Nothing else planned bob object (place_of places object).step

abbrev pub let_go : Places → ℕ → Places
let_go places object = if (place_of places object).waits then put places object (next (place_of places object)) else places

abbrev pub at_start : Place
at_start = record { step = 0; waits = false }

abbrev pub behaves : Bob → Behaviour Places
behaves bob = record {
  start = record { main = at_start; ann = at_start; bob = at_start };
  objects = 3;
  wants = wants bob;
  accepted = λ places object pick. put places object (waiting (place_of places object));
  refused = λ places object pick cause. put places object (next (place_of places object));
  answered = λ places object answer. places;
  let_go = λ places object outcome. let_go places object;
  ended = λ places object. places;
  names = λ places object. true;
}
