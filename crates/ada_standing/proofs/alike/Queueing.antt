-- Queues: what stands in them, what is at their front, and which call a wait takes.
use Rattle.std.proofs.Common.{◌≡◌, ℕ, suc, Bool, true, false, cond, ◌&&◌, eqb, Option, Some, None, List, [], ◌∷◌, length, map, refl, sym, ap}
use Rattle.std.specs.Option.{option_map, option_and_then, is_some}
use Rattle.std.specs.List.{slice_get}
use Rattle.std.proofs.lemmas.Bool.{and_parts}
use Rattle.std.proofs.lemmas.Option.{none-some}
use Rattle.ada_events.specs.declared.event.Event.{Event}
use Rattle.ada_events.specs.declared.names.Entry.{Entry}
use Rattle.ada_events.specs.declared.names.Choice.{Choice}
use Rattle.ada_events.specs.Says.{Call, Wait, call_in}
use Rattle.ada_events.specs.Entries.{same_entry}
use Rattle.ada_events.specs.Calls.{is_queued_at, is_call_of, queue, count_of}
use Rattle.ada_events.specs.Waits.{numbers_from, front_of, is_selectable, taken_choice, taken_call}
use Rattle.ada_laws.proofs.searching.Searching.{option_map_or-true}
use Rattle.ada_standing.specs.Renaming.{Renaming}
use Rattle.ada_standing.specs.Holds.{IsSameWait}
use Rattle.ada_standing.specs.StandsIn.{StandsIn}
use Rattle.ada_standing.proofs.alike.Orderly.{IsOrderly}
use Rattle.ada_standing.proofs.alike.Kinds.{AreBoth, calls_alike, both_calls}
use Rattle.ada_standing.proofs.alike.Pairs.{IsPair}
use Rattle.ada_standing.proofs.alike.Passing.{passing_alike}
use Rattle.ada_standing.proofs.alike.Calling.{queued_held, queued_at_alike, same_task_alike}

call_of_alike : (old new : List Event) (names : Renaming) (p q u v : ℕ) (entry : Entry) (pair : IsPair old new names p q) → StandsIn old new names
    → names.task u ≡ Some v → is_call_of u entry pair.held.event ≡ is_call_of v entry pair.holds.event
unfolding is_call_of
call_of_alike old new names p q u v entry pair stands named =
    elim (calls_alike old new names p q pair.held.event pair.holds.event pair.alike) [
      | AreBoth.both c b is has same ↦ rw (is, has, same.entry, same_task_alike old new names c.callee u b.callee v stands same.callee named) refl
      | AreBoth.neither is has ↦ rw (is, has) refl
    ]

says_call : (u : ℕ) (entry : Entry) (e : Event) → is_call_of u entry e ≡ true → (c : Call) × (call_in e ≡ Some c)
unfolding is_call_of
says_call u entry e calls =
    let (c, says, test) = option_map_or-true (λ (c : Call). eqb c.callee u && same_entry c.entry entry) (call_in e) calls in
    (c, says)

-- the queues of an entry of a task and of the one that stands for it
pub queue_alike : (old new : List Event) (names : Renaming) (u v : ℕ) (entry : Entry) → StandsIn old new names → IsOrderly old → IsOrderly new
    → names.task u ≡ Some v → map names.position (queue old u entry) ≡ map Some (queue new v entry)
unfolding queue
queue_alike old new names u v entry stands orderly also named =
    passing_alike old new names (λ p e. is_call_of u entry e && is_queued_at old p e) (λ q e. is_call_of v entry e && is_queued_at new q e) stands orderly also
    (λ p e at passes. queued_held old p e at (and_parts _ (is_queued_at old p e) passes).1)
    (λ q e at passes. queued_held new q e at (and_parts _ (is_queued_at new q e) passes).1)
    (λ p q d e one other.
    let (c, says) = says_call u entry d (and_parts (is_call_of u entry d) _ one).0 in
    let (b, has) = says_call u entry e (and_parts (is_call_of u entry e) _ other).0 in
    both_calls d e c b says has)
    (λ p q pair. rw (call_of_alike old new names p q u v entry pair stands named, queued_at_alike old new names p q pair) refl)

same_length : (to : ℕ → Option ℕ) (xs ys : List ℕ) → map to xs ≡ map Some ys → length xs ≡ length ys
same_length to [] [] same = refl
same_length to [] (y ∷ ys) same = absurd (cc)
same_length to (x ∷ xs) [] same = absurd (cc)
same_length to (x ∷ xs) (y ∷ ys) same = ap suc (same_length to xs ys (cc))

pub count_alike : (old new : List Event) (names : Renaming) (u v : ℕ) (entry : Entry) → StandsIn old new names → IsOrderly old → IsOrderly new
    → names.task u ≡ Some v → count_of old u entry ≡ count_of new v entry
unfolding count_of
count_alike old new names u v entry stands orderly also named =
    same_length names.position (queue old u entry) (queue new v entry) (queue_alike old new names u v entry stands orderly also named)

same_first : (to : ℕ → Option ℕ) (xs ys : List ℕ) → map to xs ≡ map Some ys → option_map to (slice_get xs 0) ≡ option_map Some (slice_get ys 0)
same_first to [] [] same = refl
same_first to [] (y ∷ ys) same = absurd (cc)
same_first to (x ∷ xs) [] same = absurd (cc)
same_first to (x ∷ xs) (y ∷ ys) same =
    let head : to x ≡ Some y = cc in
    ap Some head

if_alike : (to : ℕ → Option ℕ) (b : Bool) (o n : Option ℕ) → option_map to o ≡ option_map Some n
    → option_map to (cond b o None) ≡ option_map Some (cond b n None)
if_alike to true o n same = same
if_alike to false o n same = refl

pub front_alike : (old new : List Event) (names : Renaming) (u v : ℕ) (choice : Choice) → StandsIn old new names → IsOrderly old → IsOrderly new
    → names.task u ≡ Some v → option_map names.position (front_of old u choice) ≡ option_map Some (front_of new v choice)
unfolding front_of
front_alike old new names u v choice stands orderly also named =
    if_alike names.position choice.guard (slice_get (queue old u choice.entry) 0) (slice_get (queue new v choice.entry) 0)
    (same_first names.position (queue old u choice.entry) (queue new v choice.entry)
    (queue_alike old new names u v choice.entry stands orderly also named))

some_alike : (to : ℕ → Option ℕ) (o n : Option ℕ) → option_map to o ≡ option_map Some n → is_some o ≡ is_some n
some_alike to None None same = refl
some_alike to (Some x) (Some y) same = refl
some_alike to None (Some y) same = absurd (none-some (Some y) same)
some_alike to (Some x) None same = absurd (none-some (to x) (sym same))

same_numbers : {A : Type 0} (test there : A → Bool) (n : ℕ) (xs : List A) → ((x : A) → test x ≡ there x) → numbers_from test n xs ≡ numbers_from there n xs
unfolding numbers_from
same_numbers test there n [] same = refl
same_numbers test there n (x ∷ xs) same = rw (same x, same_numbers test there (suc n) xs same) refl

pub taken_choice_alike : (old new : List Event) (names : Renaming) (w x : Wait) → StandsIn old new names → IsOrderly old → IsOrderly new
    → names.task w.by ≡ Some x.by → IsSameWait w x → taken_choice old w ≡ taken_choice new x
unfolding taken_choice is_selectable
taken_choice_alike old new names w x stands orderly also named same =
    rw (
      same.choices,
      same.pick,
      same_numbers (λ (c : Choice). is_some (front_of old w.by c)) (λ (c : Choice). is_some (front_of new x.by c)) 0 w.choices
          (λ c. some_alike names.position (front_of old w.by c) (front_of new x.by c) (front_alike old new names w.by x.by c stands orderly also named)),
    ) refl

front_at : (old new : List Event) (names : Renaming) (u v : ℕ) (o : Option Choice) → StandsIn old new names → IsOrderly old → IsOrderly new
    → names.task u ≡ Some v → option_map names.position (option_and_then (front_of old u) o) ≡ option_map Some (option_and_then (front_of new v) o)
front_at old new names u v None stands orderly also named = refl
front_at old new names u v (Some choice) stands orderly also named = front_alike old new names u v choice stands orderly also named

-- two waits that are alike take calls that stand for one another
pub taken_call_alike : (old new : List Event) (names : Renaming) (w x : Wait) → StandsIn old new names → IsOrderly old → IsOrderly new
    → names.task w.by ≡ Some x.by → IsSameWait w x → option_map names.position (taken_call old w) ≡ option_map Some (taken_call new x)
unfolding taken_call
taken_call_alike old new names w x stands orderly also named same =
    rw (← taken_choice_alike old new names w x stands orderly also named same, same.choices)
    (front_at old new names w.by x.by (option_and_then (slice_get w.choices) (taken_choice old w)) stands orderly also named)
