-- The same lines may come next, where names stand for the same.
use Rattle.std.proofs.Common.{◌≡◌, ℕ, ℤ, ◌≤◌, Bool, true, false, not, ◌&&◌, cond, if◌then◌else◌, Option, Some, None, List, is_some}
use Rattle.std.proofs.Common.{refl, sym, ap, ◌∙◌, inl, inr}
use Rattle.std.specs.Option.{option_map}
use Rattle.std.specs.List.{list_all}
use Rattle.std.proofs.lemmas.Bool.{and_parts, le-ltb}
use Rattle.std.proofs.lemmas.Option.{none-some, same_Some}
use Rattle.ada_events.specs.declared.event.Event.{Event}
use Rattle.ada_events.specs.declared.request.Request.{Request}
use Rattle.ada_events.specs.declared.request.Request.TheVariants.{Tick}
use Rattle.ada_events.specs.Tasks.{has_task, task_count}
use Rattle.ada_events.specs.Phases.{is_running}
use Rattle.ada_standing.specs.Renaming.{Renaming}
use Rattle.ada_standing.specs.StandsIn.{StandsIn}
use Rattle.ada_standing.proofs.alike.Calling.{same_task_alike}
use Rattle.ada_standing.proofs.alike.Phases.{running_alike}
use Rattle.ada_waiting.specs.Standstill.{first_due}
use Rattle.ada_statements.specs.Scope.{Scope}
use Rattle.ada_script.specs.declared.script.Line.{Line}
use Rattle.ada_explore.specs.declared.turns.Turn.TheVariants.{Line as Say, Time as Pass}
use Rattle.ada_explore.specs.declared.turns.Freedom.{Freedom}
use Rattle.ada_explore.specs.Picks.{may_have, with_pick}
use Rattle.ada_explore.specs.Scripts.{Rest, rest, scripted, request_at, asker_at, is_same, next_of, is_next, runs, may_say, all_silent, may_come, is_late}
use Rattle.ada_explore.specs.Sameness.{says_alike_at}
use Rattle.ada_explore.proofs.naming.Passing.{find_alike, any_alike, found_within}
use Rattle.ada_explore.proofs.naming.Numbers.{stands_parts, is_that}
use Rattle.ada_explore.proofs.naming.Askers.{AskAlike, AreApart, some_alike, same_alike, asker_at_alike}

-- ---- what comes

-- what a line asks for with a pick: it may come, and may have that
pub record Asked (freedom : Freedom) (script : List Line) (journal : List Event) (r : Rest) (place : ℕ) (pick : Option ℕ) (request : Request) : Type 0 where
  pub may : may_come script journal r place ≡ true
  pub has : may_have freedom.picks script place pick ≡ true
  pub written : Request
  pub asks : request_at script r.names place ≡ Some written
  pub is : with_pick pick written ≡ request

pub asked_parts : (freedom : Freedom) (script : List Line) (journal : List Event) (r : Rest) (place : ℕ) (pick : Option ℕ) (request : Request)
    → (scripted freedom script).asks journal r (Say place pick) ≡ Some request → Asked freedom script journal r place pick request
asked_parts freedom script journal r place pick request asks =
    by (may_come script journal r place) (may_have freedom.picks script place pick) (request_at script r.names place) refl refl refl asks
  where
    by : (b h : Bool) (o : Option Request) → may_come script journal r place ≡ b → may_have freedom.picks script place pick ≡ h
        → request_at script r.names place ≡ o → cond (b && h) (option_map (with_pick pick) o) None ≡ Some request
        → Asked freedom script journal r place pick request
    by true true (Some written) may has there is =
        record { may = may; has = has; written = written; asks = there; is = same_Some (with_pick pick written) request is }
    by true true None may has there is = absurd (none-some request is)
    by true false o may has there is = absurd (none-some request is)
    by false h o may has there is = absurd (none-some request is)

-- what time asks for that passes late: nobody may say anything, and a task waits for that moment
pub record Passed (freedom : Freedom) (script : List Line) (journal : List Event) (r : Rest) (request : Request) : Type 0 where
  pub late : is_late freedom.time ≡ true
  pub silent : all_silent script journal r ≡ true
  pub until : ℤ
  pub first : first_due journal ≡ Some until
  pub is : Tick until ≡ request

pub passed_parts : (freedom : Freedom) (script : List Line) (journal : List Event) (r : Rest) (request : Request)
    → (scripted freedom script).asks journal r Pass ≡ Some request → Passed freedom script journal r request
passed_parts freedom script journal r request asks =
    by (is_late freedom.time) (all_silent script journal r) (first_due journal) refl refl refl asks
  where
    by : (b h : Bool) (o : Option ℤ) → is_late freedom.time ≡ b → all_silent script journal r ≡ h → first_due journal ≡ o
        → cond (b && h) (option_map Tick o) None ≡ Some request → Passed freedom script journal r request
    by true true (Some until) late silent first is =
        record { late = late; silent = silent; until = until; first = first; is = same_Some (Tick until) request is }
    by true true None late silent first is = absurd (none-some request is)
    by true false o late silent first is = absurd (none-some request is)
    by false h o late silent first is = absurd (none-some request is)

coming_next : (script : List Line) (journal : List Event) (r : Rest) (place : ℕ) → may_come script journal r place ≡ true → is_next script r place ≡ true
coming_next script journal r place comes = by (is_some (asker_at script r.names place)) comes
  where
    by : (b : Bool) → cond b (may_say script journal r place) (is_next script r place && all_silent script journal r) ≡ true → is_next script r place ≡ true
    by true says = (and_parts (runs journal (asker_at script r.names place)) (is_next script r place) says).1
    by false next = (and_parts (is_next script r place) (all_silent script journal r) next).0

-- it is found among those that are left
pub coming_found : (script : List Line) (journal : List Event) (r : Rest) (place : ℕ) → may_come script journal r place ≡ true
    → next_of script r (asker_at script r.names place) ≡ Some place
coming_found script journal r place comes =
    is_that (next_of script r (asker_at script r.names place)) place (coming_next script journal r place comes)

pub coming_within : (script : List Line) (journal : List Event) (r : Rest) (place : ℕ) (within : ℕ → Bool) → list_all within r.left ≡ true
    → may_come script journal r place ≡ true → within place ≡ true
coming_within script journal r place within all comes =
    found_within (λ q. is_same (asker_at script r.names q) (asker_at script r.names place)) within r.left place
    (coming_found script journal r place comes) all

-- ---- alike

pub are_apart : (old new : List Event) (names : Renaming) → StandsIn old new names → AreApart names
are_apart old new names stands = λ s t u v one other. same_task_alike old new names s t u v stands one other

-- who stands for one runs as that does
pub runs_alike : (old new : List Event) (names : Renaming) (o n : Option ℕ) → StandsIn old new names → task_count old ≤ 65535 → task_count new ≤ 65535
    → AskAlike names o n → runs old o ≡ runs new n
runs_alike old new names None None stands few few_too alike = refl
runs_alike old new names None (Some v) stands few few_too alike = absurd alike
runs_alike old new names (Some u) None stands few few_too alike = absurd alike
runs_alike old new names (Some u) (Some v) stands few few_too alike =
    elim (stands_parts names.task 65535 u v alike) [
      | inl is ↦
          let unknown : has_task old u ≡ false = ap (has_task old) is.same ∙ le-ltb 65535 (task_count old) few in
          let unknown_too : has_task new v ≡ false = ap (has_task new) is.same_too ∙ le-ltb 65535 (task_count new) few_too in
          ap (λ b. b && is_running old u) unknown ∙ sym (ap (λ b. b && is_running new v) unknown_too)
      | inr is ↦
          let same = stands.same u v is.named in
          ap (λ b. b && is_running old u) same.existed ∙ running_alike old new names u v stands is.named
          ∙ sym (ap (λ b. b && is_running new v) same.exists)
    ]

module _ (script : List Line) (names : Renaming) (old new : Scope) (left : List ℕ) (apart : AreApart names)
    (all : list_all (says_alike_at script names old new) left ≡ true) where
  next_alike : (by also : Option ℕ) → AskAlike names by also → next_of script (rest left old) by ≡ next_of script (rest left new) also
  next_alike by also alike =
      find_alike (λ place. is_same (asker_at script old place) by) (λ place. is_same (asker_at script new place) also)
      (says_alike_at script names old new)
      (λ place says.
      same_alike names (asker_at script old place) (asker_at script new place) by also apart (asker_at_alike names old new script place says) alike)
      left all

  is_next_alike : (place : ℕ) → says_alike_at script names old new place ≡ true
      → is_next script (rest left old) place ≡ is_next script (rest left new) place
  is_next_alike place says =
      ap (λ o. is_same o (Some place))
      (next_alike (asker_at script old place) (asker_at script new place) (asker_at_alike names old new script place says))

  module _ (journal other : List Event) (run : (by also : Option ℕ) → AskAlike names by also → runs journal by ≡ runs other also) where
    may_say_alike : (place : ℕ) → says_alike_at script names old new place ≡ true
        → may_say script journal (rest left old) place ≡ may_say script other (rest left new) place
    may_say_alike place says =
        ap (λ b. b && is_next script (rest left old) place)
        (run (asker_at script old place) (asker_at script new place) (asker_at_alike names old new script place says))
        ∙ ap (λ b. runs other (asker_at script new place) && b) (is_next_alike place says)

    pub silent_alike : all_silent script journal (rest left old) ≡ all_silent script other (rest left new)
    silent_alike =
        ap not (any_alike (may_say script journal (rest left old)) (may_say script other (rest left new)) (says_alike_at script names old new)
        may_say_alike left all)

    pub may_come_alike : (place : ℕ) → says_alike_at script names old new place ≡ true
        → may_come script journal (rest left old) place ≡ may_come script other (rest left new) place
    may_come_alike place says =
        ap (λ b.
        if b then may_say script journal (rest left old) place else is_next script (rest left old) place && all_silent script journal (rest left old))
        (sym (some_alike names (asker_at script old place) (asker_at script new place) (asker_at_alike names old new script place says)))
        ∙ ap (λ b.
        if is_some (asker_at script new place) then b else is_next script (rest left old) place && all_silent script journal (rest left old))
        (may_say_alike place says)
        ∙ ap (λ b. if is_some (asker_at script new place) then may_say script other (rest left new) place else b && all_silent script journal (rest left old))
        (is_next_alike place says)
        ∙ ap (λ b. if is_some (asker_at script new place) then may_say script other (rest left new) place else is_next script (rest left new) place && b)
        silent_alike
