-- All turns that may come next are among those that are told.
use Rattle.std.proofs.Common.{◌≡◌, ℕ, zero, suc, ◌+◌, ◌<◌, ◌||◌, Bool, true, false, is_some, Option, Some, None, List, [], ◌∷◌, ◌++◌, length, find, slice_get}
use Rattle.std.proofs.Common.{refl, sym, ap, subst, ◌∙◌, arith, inl, inr, ◌⊎◌}
use Rattle.std.specs.List.{position_or_len}
use Rattle.std.proofs.lemmas.Bool.{cases_eq, true≢false}
use Rattle.std.proofs.lemmas.Option.{none-some, same_Some, slice_get_within}
use Rattle.std.proofs.lemmas.List.Folds.{find_at}
use Rattle.ada_events.specs.declared.event.Event.{Event}
use Rattle.ada_events.specs.declared.request.Request.{Request}
use Rattle.ada_script.specs.declared.script.Line.{Line}
use Rattle.ada_search.specs.Findings.{at as state, AreAll}
use Rattle.ada_explore.specs.declared.turns.Turn.{Turn}
use Rattle.ada_explore.specs.declared.turns.Turn.TheVariants.{Line as Say, Time as Pass}
use Rattle.ada_explore.specs.declared.turns.Freedom.{Freedom}
use Rattle.ada_explore.specs.Picks.{may_have}
use Rattle.ada_explore.specs.Scripts.{Rest, scripted, asked_by, is_same, asker_at, may_come}
use Rattle.ada_explore.specs.internal.Choosing.{Has, AreKept, turn_of, HavePicks, HaveAllPicks, HaveLines}
use Rattle.ada_explore.proofs.naming.Coming.{asked_parts, coming_found}

-- ---- one turn more

get_more : (xs ys : List Turn) (i : ℕ) (x : Turn) → slice_get xs i ≡ Some x → slice_get (xs ++ ys) i ≡ Some x
get_more [] ys i x is = absurd (none-some x is)
get_more (y ∷ xs) ys zero x is = is
get_more (y ∷ xs) ys (suc i) x is = get_more xs ys i x is

get_last : (xs : List Turn) (x : Turn) → slice_get (xs ++ x ∷ []) (length xs) ≡ Some x
get_last [] x = refl
get_last (y ∷ xs) x = get_last xs x

pub added : (old new : List Turn) (turn : Turn) → new ≡ old ++ turn ∷ [] → AreKept old new × Has new turn
added old new turn grows = (
  (λ other has. let (at, is) = has in (at, ap (λ (xs : List Turn). slice_get xs at) grows ∙ get_more old (turn ∷ []) at other is)),
  (length old, ap (λ (xs : List Turn). slice_get xs (length old)) grows ∙ get_last old turn),
)

pub kept_all : (choices : List Turn) → AreKept choices choices
kept_all choices turn has = has

pub kept_on : (first second third : List Turn) → AreKept first second → AreKept second third → AreKept first third
kept_on first second third kept more turn has = more turn (kept turn has)

-- ---- one pick after another

pub none_yet : (freedom : Freedom) (script : List Line) (old new : List Turn) (place : ℕ) → AreKept old new × Has new (turn_of place None)
    → HavePicks freedom script old new place 0
none_yet freedom script old new place (kept, has) = record { kept = kept; written = has; others = λ pick below may. absurd (omega (arith, below)) }

pub one_more_pick : (freedom : Freedom) (script : List Line) (first old new : List Turn) (place count : ℕ) → HavePicks freedom script first old place count
    → AreKept old new × (may_have freedom.picks script place (Some count) ≡ true → Has new (turn_of place (Some count)))
    → HavePicks freedom script first new place (count + 1)
one_more_pick freedom script first old new place count before (kept, has) = record {
  kept = kept_on first old new before.kept kept;
  written = kept (turn_of place None) before.written;
  others = λ pick below may. by pick may (cases_eq pick count) below;
}
  where
    by : (pick : ℕ) → may_have freedom.picks script place (Some pick) ≡ true → (pick ≡ count) ⊎ (pick ≡ count → ⊥) → pick < count + 1
        → Has new (turn_of place (Some pick))
    by pick may (inl last) below =
        subst (λ (p : ℕ). Has new (turn_of place (Some p))) (sym last)
        (has (subst (λ (p : ℕ). may_have freedom.picks script place (Some p) ≡ true) last may))
    by pick may (inr earlier) below = kept (turn_of place (Some pick)) (before.others pick (omega arith) may)

-- ---- one line after another

pub one_more_line : (freedom : Freedom) (script : List Line) (journal : List Event) (rest : Rest) (first old new : List Turn) (count place : ℕ)
    → slice_get rest.left count ≡ Some place → HaveLines freedom script journal rest first old count
    → AreKept old new × (may_come script journal rest place ≡ true → HaveAllPicks freedom script new place)
    → HaveLines freedom script journal rest first new (count + 1)
one_more_line freedom script journal rest first old new count place there before (kept, has) = record {
  kept = kept_on first old new before.kept kept;
  lines = λ k other below is may. by k other is may (cases_eq k count) below;
}
  where
    by : (k other : ℕ) → slice_get rest.left k ≡ Some other → may_come script journal rest other ≡ true → (k ≡ count) ⊎ (k ≡ count → ⊥) → k < count + 1
        → HaveAllPicks freedom script new other
    by k other is may (inl last) below =
        let same : place ≡ other = same_Some place other (sym there ∙ sym (ap (slice_get rest.left) last) ∙ is) in
        subst (λ (p : ℕ). HaveAllPicks freedom script new p) same
        (has (subst (λ (p : ℕ). may_come script journal rest p ≡ true) (sym same) may))
    by k other is may (inr earlier) below = λ pick may_too. kept (turn_of other pick) (before.lines k other (omega arith) is may pick may_too)

-- ---- all of them

-- a line that asks for something is one of those that are left
module _ (freedom : Freedom) (script : List Line) (journal : List Event) (left : Rest) (place : ℕ) (pick : Option ℕ) where
  is_left : (request : Request) → (scripted freedom script).asks journal left (Say place pick) ≡ Some request
      → (i : ℕ) × (slice_get left.left i ≡ Some place) × (may_come script journal left place ≡ true) × (may_have freedom.picks script place pick ≡ true)
  is_left request asks =
      let parts = asked_parts freedom script journal left place pick request asks in
      let test : ℕ → Bool = λ other. is_same (asker_at script left.names other) (asker_at script left.names place) in
      let found : find test left.left ≡ Some place = coming_found script journal left place parts.may in
      (position_or_len test left.left, sym (find_at test left.left) ∙ found, parts.may, parts.has)

asks_something : (o : Option Request) → is_some o || false ≡ true → (request : Request) × (o ≡ Some request)
asks_something (Some request) may = (request, refl)
asks_something None may = absurd (true≢false (sym may))

pub all_are_there : (freedom : Freedom) (script : List Line) (journal : List Event) (rest : Rest) (old timed new : List Turn)
    → AreKept old timed × (is_some (asked_by freedom script journal rest Pass) ≡ true → Has timed Pass)
    → HaveLines freedom script journal rest timed new (length rest.left) → AreAll (scripted freedom script) (state journal rest) new
all_are_there freedom script journal rest old timed new (kept, passes) has turn may =
    let (request, asks) = asks_something (asked_by freedom script journal rest turn) may in
    by turn request asks
  where
    by : (turn : Turn) (request : Request) → asked_by freedom script journal rest turn ≡ Some request → Has new turn
    by (Say place pick) request asks =
        let (i, is, comes, picks) = is_left freedom script journal rest place pick request asks in
        has.lines i place (slice_get_within rest.left i place is) is comes pick picks
    by Pass request asks = has.kept Pass (passes (ap is_some asks))
