-- Who is terminated, and who was before the last request.
use Rattle.std.proofs.Common.{◌≡◌, ◌≢◌, ℕ, zero, suc, ◌+◌, ◌-◌, ◌<◌, ◌≤◌, Bool, false, not, ◌&&◌, None, List, [], ◌∷◌, ◌++◌, length, take, drop}
use Rattle.std.proofs.Common.{refl, sym, ap, ◌∙◌, inl, inr, arith}
use Rattle.std.specs.Prelude.{◌==◌, nat_le, nat_lt, slice_index_or}
use Rattle.std.specs.Bool.{then_some}
use Rattle.std.specs.List.{list_any}
use Rattle.std.specs.Option.{option_or}
use Rattle.std.proofs.lemmas.Bool.{or_parts, cases_lt, lt-ltb, eq-eqb, true≢false}
use Rattle.std.proofs.lemmas.List.{take-append-drop, length-take-le, length-append, append_assoc, drop_at}
use Rattle.std.proofs.lemmas.List.FromFn.{get_or-map-range_with_len}
use Rattle.ada_events.specs.declared.event.Event.{Event}
use Rattle.ada_events.specs.declared.event.Event.TheVariants.{Gone, Quit}
use Rattle.ada_events.specs.declared.request.Request.{Request}
use Rattle.ada_events.specs.declared.request.Request.TheVariants as request
use Rattle.ada_events.specs.declared.limits.TheConstants.{MOST_TASKS}
use Rattle.ada_events.specs.Asks.{asked_event}
use Rattle.ada_events.specs.Boards.{listed}
use Rattle.ada_events.specs.Lawful.{After}
use Rattle.ada_events.specs.Phases.{is_terminated}
use Rattle.ada_events.specs.Says.{gone_in, quit_in}
use Rattle.ada_events.specs.Search.{first_below}
use Rattle.ada_laws.proofs.forced.Forcing.{forces_keeps}
use Rattle.ada_lasting.specs.internal.Ended.{ended_in, is_end, events_from, KnowsEnded, newly_ended}
use Rattle.ada_lasting.proofs.Newest.{newest_appended}

-- who isn't terminated by an event of a list is terminated after it as before

no_end : (e : Event) → is_end e ≡ false → (gone_in e ≡ None) × (quit_in e ≡ None)
unfolding is_end gone_in quit_in
no_end (Gone task) none = absurd (true≢false none)
no_end (Quit master) none = absurd (true≢false none)
no_end _ none = (refl, refl)

unended : (group before : List Event) (task : ℕ) → list_any is_end group ≡ false → is_terminated (group ++ before) task ≡ is_terminated before task
unfolding is_terminated
unended [] before task none = refl
unended (e ∷ rest) before task none =
    let parts = or_parts (is_end e) (list_any is_end rest) none in
    let says = no_end e parts.0 in
    rw (says.0, says.1) (unended rest before task parts.1)

same_flags : (before journal : List Event) → ((task : ℕ) → is_terminated journal task ≡ is_terminated before task) → ended_in before ≡ ended_in journal
same_flags before journal same = λ i. listed MOST_TASKS (λ task. sym (same task) i)

-- where some but one events are there, or one that terminates nobody, none terminates anybody if that is told
pub none_ends : (n : ℕ) (any : Bool) → (n ≡ 1 → any ≡ false) → (n == 0) ≡ false → (nat_lt 1 n && any) ≡ false → any ≡ false
none_ends n any one some told = elim (cases_lt 1 n) [
  | inl more ↦ rw (lt-ltb 1 n more) at told
  | inr few ↦
      let there : n ≢ 0 = λ none. true≢false (sym (eq-eqb n 0 none) ∙ some) in
      one (omega (arith, few, there))
]

-- the flags are right still, if nobody was terminated
pub still_right : (flags : List Bool) (group before journal : List Event) → journal ≡ group ++ before → list_any is_end group ≡ false
    → flags ≡ ended_in before → flags ≡ ended_in journal
still_right flags group before journal is none right =
    right ∙ same_flags before journal (λ task. ap (λ (j : List Event). is_terminated j task) is ∙ unended group before task none)

-- what a flag of a task tells
flag_is : (f : ℕ → Bool) (task : ℕ) → task < 256 → slice_index_or (listed MOST_TASKS f) task false ≡ f task
unfolding listed
flag_is f task below = get_or-map-range_with_len f 0 256 task task false below (omega arith)

-- the first one that isn't flagged wasn't terminated before
pub first_unflagged : (flags : List Bool) (before journal : List Event) (from n : ℕ) → flags ≡ ended_in before → n ≤ 256
    → first_below (newly_ended flags journal from) n
    ≡ first_below (λ t. then_some (nat_le from t && (is_terminated journal t && not (is_terminated before t))) t) n
unfolding first_below
first_unflagged flags before journal from zero right few = refl
first_unflagged flags before journal from (suc n) right few =
    let flag : slice_index_or flags n false ≡ is_terminated before n =
    ap (λ (l : List Bool). slice_index_or l n false) right ∙ flag_is (is_terminated before) n (omega (arith, few)) in
    ap (λ o. option_or o (newly_ended flags journal from n)) (first_unflagged flags before journal from n right (omega (arith, few)))
    ∙ ap (λ b. option_or (first_below (λ t. then_some (nat_le from t && (is_terminated journal t && not (is_terminated before t))) t) n)
    (then_some (nat_le from n && (is_terminated journal n && not b)) n)) flag

-- the newest events and what was before them make up a journal
pub newest_and_before : (journal group : List Event) (n : ℕ) → group ≡ take n journal → n ≤ length journal
    → journal ≡ group ++ drop (length group) journal
newest_and_before journal group n is within =
    sym (ap (λ l. l ++ drop (length group) journal) is ∙ (ap (λ k. take n journal ++ drop k journal) many ∙ take-append-drop n journal))
  where
    many : length group ≡ n
    many = ap length is ∙ length-take-le n journal within

-- what is before the events of a request is the journal that it came to

grown_by : (old copies new : List Event) (before : ℕ) → before ≡ length old → new ≡ copies ++ old → old ≡ drop (length (take (length new - before) new)) new
grown_by old copies new before same is =
    let long : length new ≡ length copies + length old = ap length is ∙ length-append copies old in
    let newest : take (length new - before) new ≡ copies =
    newest_appended old new copies (length new - before) is (omega (arith, long, same)) in
    sym (ap (λ (l : List Event). drop (length l) new) newest ∙ (ap (drop (length copies)) is ∙ drop_at copies old (length copies) refl))

pub earlier_again : (old : List Event) (r : Request) (new : List Event) (before : ℕ) → before ≡ length old → After old r new
    → old ≡ drop (length (take (length new - before) new)) new
earlier_again old r new before same after =
    let (steps, is) = forces_keeps (asked_event old r ∷ old) new after.forces in
    grown_by old (steps ++ asked_event old r ∷ []) new before same (is ∙ sym (append_assoc steps (asked_event old r ∷ []) old))

-- the event of a request terminates nobody

asked_no_end : (journal : List Event) (r : Request) → is_end (asked_event journal r) ≡ false
unfolding is_end asked_event
asked_no_end journal (request.Open by) = refl
asked_no_end journal _ = refl

last_alone : (steps : List Event) (e : Event) → is_end e ≡ false → length (steps ++ e ∷ []) ≡ 1 → list_any is_end (steps ++ e ∷ []) ≡ false
last_alone [] e none one = rw none refl
last_alone (step ∷ rest) e none one =
    let long : length (rest ++ e ∷ []) ≡ length rest + 1 = length-append rest (e ∷ []) in
    absurd (omega (arith, one, long))

pub one_ends_nobody : (old : List Event) (r : Request) (new : List Event) (before : ℕ) → before ≡ length old → After old r new
    → length (events_from before new) ≡ 1 → list_any is_end (events_from before new) ≡ false
one_ends_nobody old r new before same after one =
    let (steps, is) = forces_keeps (asked_event old r ∷ old) new after.forces in
    let copies : List Event = steps ++ asked_event old r ∷ [] in
    let grown : new ≡ copies ++ old = is ∙ sym (append_assoc steps (asked_event old r ∷ []) old) in
    let long : length new ≡ length copies + length old = ap length grown ∙ length-append copies old in
    let newest : events_from before new ≡ copies =
    newest_appended old new copies (length new - before) grown (omega (arith, long, same)) in
    ap (list_any is_end) newest ∙ last_alone steps (asked_event old r) (asked_no_end old r) (sym (ap length newest) ∙ one)

-- where there are no events, nothing has to be known
pub no_events_known : (flags : List Bool) (from : ℕ) (journal : List Event) → events_from from journal ≡ [] → KnowsEnded flags from journal
no_events_known flags from journal nothing = record {
  before = inl nothing;
  one = λ is.
      let zero_is : length (events_from from journal) ≡ 0 = ap length nothing in
      absurd (omega (arith, is, zero_is));
}
