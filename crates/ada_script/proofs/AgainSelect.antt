-- A selective wait that is spelled is read again.
use Rattle.std.proofs.Common.{◌≡◌, ℕ, zero, suc, ◌<◌, ◌≤◌, Bool, true, false, List, [], ◌∷◌, ◌++◌, length, map, Option, Some, None, Ok, refl, sym, ap, subst}
use Rattle.std.proofs.Common.{◌∙◌, arith, append_assoc}
use Rattle.std.specs.Prelude.{codes}
use Rattle.std.specs.Fmt.{signed_decimal}
use Rattle.std.specs.List.{flat_map, AllByRecursion}
use Rattle.std.proofs.lemmas.List.{append-nil}
use Rattle.ada_events.specs.declared.names.Pause.{Pause}
use Rattle.ada_events.specs.declared.request.Tail.{Tail}
use Rattle.ada_events.specs.declared.request.Tail.TheVariants as tails
use Rattle.ada_script.specs.declared.select.Branch.{Branch}
use Rattle.ada_script.specs.declared.select.Branch.TheVariants as branches
use Rattle.ada_statements.specs.declared.statement.Alternative.{Alternative}
use Rattle.ada_script.specs.Spelling.{entry_words, guard_words, choice_words, pause_words, tail_alternatives, else_words, joined_by_or, select_words}
use Rattle.ada_statements.specs.Scope.{Scope, IsEntryName, IsMoment, IsTail, AreChoices}
use Rattle.ada_script.specs.internal.Reading.{number_is_next, kind_of, branch_at, tail_of, link_at, pause_at, next_pause_at, pauses_at, choice_at, tail_from}
use Rattle.ada_script.specs.Cursor.{is_over}
use Rattle.ada_script.specs.internal.Reading.{choices_at, alternatives_at, passed_over}
use Rattle.ada_script.proofs.AgainParts.{keyword_again, moment_again, entry_again}
use Rattle.ada_script.proofs.AgainLists.{repeat_again, chain_of_each}
use Rattle.ada_script.proofs.TakenSelect.{branch_word, or_pause, joined_pauses, joined_cons}

branch_again : (guard : Bool) (branch : Branch) (rest : List (List ℕ))
    → branch_at (guard_words guard ++ (branch_word branch ∷ rest)) ≡ Ok ((guard, branch), rest)
unfolding branch_at kind_of
branch_again true branches.Accept rest = refl
branch_again true branches.Delay rest = refl
branch_again true branches.Terminate rest = refl
branch_again false branches.Accept rest = refl
branch_again false branches.Delay rest = refl
branch_again false branches.Terminate rest = refl

pause_again : (pause : Pause) (rest : List (List ℕ)) → IsMoment pause.duration → pause_at pause.guard (signed_decimal pause.duration ∷ rest) ≡ Ok (pause, rest)
unfolding pause_at
pause_again pause rest fits = rw (moment_again pause.duration rest fits) refl

-- a pause's words, with its branch apart
pause_apart : (pause : Pause) (rest : List (List ℕ))
    → pause_words pause ++ rest ≡ guard_words pause.guard ++ (branch_word branches.Delay ∷ signed_decimal pause.duration ∷ rest)
pause_apart pause rest = append_assoc (guard_words pause.guard) (codes "delay" ∷ signed_decimal pause.duration ∷ []) rest

next_pause_again : (pause : Pause) (rest : List (List ℕ)) → IsMoment pause.duration → next_pause_at (or_pause pause ++ rest) ≡ Ok (pause, rest)
unfolding next_pause_at
next_pause_again pause rest fits =
    rw (
      keyword_again (codes "or") (pause_words pause ++ rest),
      pause_apart pause rest,
      branch_again pause.guard branches.Delay
          (signed_decimal pause.duration ∷ rest),
    ) (pause_again pause rest fits)

pauses_again : (first : Pause) (more : List Pause) → AllByRecursion (λ pause. IsMoment pause.duration) (first ∷ more) → length (first ∷ more) ≤ 8
    → pauses_at first.guard (signed_decimal first.duration ∷ flat_map or_pause more) ≡ Ok (first ∷ more, [])
unfolding pauses_at
pauses_again first more each fits =
    rw (pause_again first (flat_map or_pause more) each.0)
    (repeat_again (λ before rest. next_pause_at rest) or_pause (λ before pause. IsMoment pause.duration) (λ before pause rest p. (refl, refl))
    (λ before pause rest p next. next_pause_again pause rest p)
    7 (first ∷ []) more (chain_of_each (λ pause. IsMoment pause.duration) (first ∷ []) more each.1) (omega arith))

-- ---- accept alternatives

-- words of a choice, with its branch apart
choice_apart : (choice : Alternative) (rest : List (List ℕ))
    → choice_words choice ++ rest ≡ guard_words choice.guard ++ (branch_word branches.Accept ∷ (entry_words choice.entry ++ rest))
choice_apart choice rest = append_assoc (guard_words choice.guard) (codes "accept" ∷ entry_words choice.entry) rest

module _ (names : Scope) (by : List ℕ) where
  choice_again : (choice : Alternative) (link : Option Tail) (behind rest : List (List ℕ)) → IsEntryName names by choice.entry → number_is_next behind ≡ false
      → link_at behind ≡ Ok (link, rest)
      → choice_at names by choice.guard (entry_words choice.entry ++ behind) ≡ Ok ((choice, link), rest)
  unfolding choice_at
  choice_again choice link behind rest known next linked = rw (entry_again names by choice.entry behind known next, linked) refl

  -- the wait ends behind an accept alternative
  last_again : (room : ℕ) (before : List Alternative) (choice : Alternative) (tail : Tail) (behind : List (List ℕ)) → IsEntryName names by choice.entry
      → number_is_next behind ≡ false → link_at behind ≡ Ok (Some tail, [])
      → choices_at names by (suc room) before (choice_words choice ++ behind) ≡ Ok ((before ++ choice ∷ [], tail), [])
  unfolding choices_at
  last_again room before choice tail behind known next linked =
      rw (
        choice_apart choice behind,
        branch_again choice.guard branches.Accept (entry_words choice.entry ++ behind),
        choice_again choice (Some tail) behind []
            known next linked,
      ) refl

  -- another alternative follows
  first_again : (room : ℕ) (before : List Alternative) (choice : Alternative) (rest : List (List ℕ)) → IsEntryName names by choice.entry
      → choices_at names by (suc room) before (choice_words choice ++ (codes "or" ∷ rest)) ≡ choices_at names by room (before ++ choice ∷ []) rest
  unfolding choices_at link_at tail_of
  first_again room before choice rest known =
      rw (
        choice_apart choice (codes "or" ∷ rest),
        branch_again choice.guard branches.Accept (entry_words choice.entry ++ (codes "or" ∷ rest)),
        choice_again
            choice None (codes "or" ∷ rest) rest known refl refl,
      ) refl

  -- a tail of its own
  delays_again : (room : ℕ) (before : List Alternative) (first : Pause) (more : List Pause) → AllByRecursion (λ pause. IsMoment pause.duration) (first ∷ more)
      → length (first ∷ more) ≤ 8
      → choices_at names by room before (joined_by_or (map pause_words (first ∷ more))) ≡ Ok ((before, tails.Delays (first ∷ more)), [])
  unfolding choices_at tail_from
  delays_again zero before first more each fits =
      ap (choices_at names by zero before) (joined_pauses first more ∙ pause_apart first (flat_map or_pause more))
      ∙ rw (branch_again first.guard branches.Delay (signed_decimal first.duration ∷ flat_map or_pause more), pauses_again first more each fits) refl
  delays_again (suc room) before first more each fits =
      ap (choices_at names by (suc room) before) (joined_pauses first more ∙ pause_apart first (flat_map or_pause more))
      ∙ rw (branch_again first.guard branches.Delay (signed_decimal first.duration ∷ flat_map or_pause more), pauses_again first more each fits) refl

  terminate_again : (room : ℕ) (before : List Alternative) (guard : Bool)
      → choices_at names by room before (guard_words guard ++ (codes "terminate" ∷ [])) ≡ Ok ((before, tails.Terminate guard), [])
  unfolding choices_at tail_from
  terminate_again zero before guard = rw (branch_again guard branches.Terminate []) refl
  terminate_again (suc room) before guard = rw (branch_again guard branches.Terminate []) refl

  -- no accept alternative
  tail_again : (room : ℕ) (before : List Alternative) (tail : Tail) → IsTail tail → 0 < length (tail_alternatives tail)
      → choices_at names by room before (select_words [] tail) ≡ Ok ((before ++ [], tail), [])
  tail_again room before tails.Nothing form some = absurd (omega arith)
  tail_again room before tails.Otherwise form some = absurd (omega arith)
  tail_again room before (tails.Delays []) form some = absurd (omega arith)
  tail_again room before (tails.Delays (first ∷ more)) form some =
      ap (choices_at names by room before) (append-nil (joined_by_or (map pause_words (first ∷ more)))) ∙ delays_again room before first more form.2 form.1
      ∙ ap (λ (b : List Alternative). Ok ((b, tails.Delays (first ∷ more)), [])) (sym (append-nil before))
  tail_again room before (tails.Terminate guard) form some =
      ap (choices_at names by room before) (append-nil (guard_words guard ++ (codes "terminate" ∷ []))) ∙ terminate_again room before guard
      ∙ ap (λ (b : List Alternative). Ok ((b, tails.Terminate guard), [])) (sym (append-nil before))

  -- one accept alternative, with nothing behind it but what ends the wait
  alone_again : (room : ℕ) (before : List Alternative) (choice : Alternative) (others : List Alternative) (tail : Tail) → IsEntryName names by choice.entry
      → IsTail tail → length (map choice_words others ++ tail_alternatives tail) ≡ 0
      → choices_at names by (suc room) before (select_words (choice ∷ others) tail) ≡ Ok ((before ++ choice ∷ others, tail), [])
  unfolding link_at tail_of
  alone_again room before choice (other ∷ others) tail known form none = absurd (omega arith)
  alone_again room before choice [] tails.Nothing known form none = last_again room before choice tails.Nothing [] known refl refl
  alone_again room before choice [] tails.Otherwise known form none = last_again room before choice tails.Otherwise (codes "else" ∷ []) known refl refl
  alone_again room before choice [] (tails.Delays []) known form none = absurd (omega (arith, form.0))
  alone_again room before choice [] (tails.Delays (first ∷ more)) known form none = absurd (omega arith)
  alone_again room before choice [] (tails.Terminate guard) known form none = absurd (omega arith)

  -- all alternatives
  choices_again : (room : ℕ) (before more : List Alternative) (tail : Tail) → AllByRecursion (λ choice. IsEntryName names by choice.entry) more
      → length more ≤ room → IsTail tail
      → 0 < length (map choice_words more ++ tail_alternatives tail)
      → choices_at names by room before (select_words more tail) ≡ Ok ((before ++ more, tail), [])
  choices_again room before [] tail each fits form some = tail_again room before tail form some
  choices_again zero before (c ∷ cs) tail each fits form some = absurd (omega arith)
  choices_again (suc room) before (c ∷ cs) tail each fits form some =
      let others = map choice_words cs ++ tail_alternatives tail in
      behind others refl (λ more. choices_again room (before ++ c ∷ []) cs tail each.1 (omega arith) form more)
    where
      behind : (others : List (List (List ℕ))) → map choice_words cs ++ tail_alternatives tail ≡ others
          → (0 < length (map choice_words cs ++ tail_alternatives tail)
          → choices_at names by room (before ++ c ∷ []) (select_words cs tail) ≡ Ok (((before ++ c ∷ []) ++ cs, tail), []))
          → choices_at names by (suc room) before (select_words (c ∷ cs) tail) ≡ Ok ((before ++ c ∷ cs, tail), [])
      behind [] is rest = alone_again room before c cs tail each.0 form (ap length is)
      behind (o ∷ os) is rest =
          let some_more : 0 < length (map choice_words cs ++ tail_alternatives tail) = rw is (omega arith) in
          let joined = joined_by_or (map choice_words cs ++ tail_alternatives tail) in
          let words : select_words (c ∷ cs) tail ≡ choice_words c ++ (codes "or" ∷ select_words cs tail) =
          ap (λ (r : List (List ℕ)). r ++ else_words tail) (joined_cons (choice_words c) (map choice_words cs ++ tail_alternatives tail) some_more)
          ∙ append_assoc (choice_words c) (codes "or" ∷ joined) (else_words tail) in
          ap (choices_at names by (suc room) before) words ∙ first_again room before c (select_words cs tail) each.0 ∙ rest some_more
          ∙ ap (λ (b : List Alternative). Ok ((b, tail), [])) (append_assoc before (c ∷ []) cs)

-- ---- whole waits

-- words that begin an alternative
abbrev Begins : List (List ℕ) → Type 0
Begins words = (guard : Bool) × (branch : Branch) × (rest : List (List ℕ)) × (words ≡ guard_words guard ++ (branch_word branch ∷ rest))

joined_cut : (first : List (List ℕ)) (others : List (List (List ℕ))) → (behind : List (List ℕ)) × (joined_by_or (first ∷ others) ≡ first ++ behind)
joined_cut first [] = ([], sym (append-nil first))
joined_cut first (second ∷ others) = (codes "or" ∷ joined_by_or (second ∷ others), refl)

select_begins : (choices : List Alternative) (tail : Tail) → 0 < length (map choice_words choices ++ tail_alternatives tail)
    → Begins (select_words choices tail)
select_begins (c ∷ cs) tail some =
    let cut = joined_cut (choice_words c) (map choice_words cs ++ tail_alternatives tail) in (
      c.guard,
      branches.Accept,
      entry_words c.entry ++ (cut.0 ++ else_words tail),
      ap (λ (r : List (List ℕ)). r ++ else_words tail) cut.1 ∙ append_assoc (choice_words c) cut.0 (else_words tail)
          ∙ choice_apart c (cut.0 ++ else_words tail),
    )
select_begins [] tails.Nothing some = absurd (omega arith)
select_begins [] tails.Otherwise some = absurd (omega arith)
select_begins [] (tails.Delays []) some = absurd (omega arith)
select_begins [] (tails.Delays (p ∷ ps)) some =
    let cut = joined_cut (pause_words p) (map pause_words ps) in (
      p.guard,
      branches.Delay,
      signed_decimal p.duration ∷ (cut.0 ++ []),
      ap (λ (r : List (List ℕ)). r ++ []) cut.1 ∙ append_assoc (pause_words p) cut.0 [] ∙ pause_apart p (cut.0 ++ []),
    )
select_begins [] (tails.Terminate guard) some = (guard, branches.Terminate, [], append-nil (guard_words guard ++ (codes "terminate" ∷ [])))

alternative_first : (words : List (List ℕ)) (guard : Bool) (branch : Branch) (rest : List (List ℕ)) → words ≡ guard_words guard ++ (branch_word branch ∷ rest)
    → (is_over words ≡ false) × (passed_over (codes "else") words ≡ (false, words))
alternative_first words guard branch rest e =
    subst (λ (w : List (List ℕ)). (is_over w ≡ false) × (passed_over (codes "else") w ≡ (false, w))) (sym e) (by guard branch)
  where
    by : (guard : Bool) (branch : Branch) → (is_over (guard_words guard ++ (branch_word branch ∷ rest)) ≡ false)
        × (passed_over (codes "else") (guard_words guard ++ (branch_word branch ∷ rest)) ≡ (false, guard_words guard ++ (branch_word branch ∷ rest)))
    by true branches.Accept = (refl, refl)
    by true branches.Delay = (refl, refl)
    by true branches.Terminate = (refl, refl)
    by false branch = (refl, refl)

module _ (names : Scope) (by : List ℕ) where
  abbrev Again : List Alternative → Tail → Type 0
  Again choices tail = alternatives_at names by (select_words choices tail) ≡ Ok ((choices, tail), [])

  some_again : (choices : List Alternative) (tail : Tail) → AreChoices names by choices → IsTail tail
      → 0 < length (map choice_words choices ++ tail_alternatives tail) → Again choices tail
  unfolding alternatives_at
  some_again choices tail known form some =
      let b = select_begins choices tail some in
      let f = alternative_first (select_words choices tail) b.0 b.1 b.2 b.3 in
      rw (f.0, f.1) (choices_again names by 16 [] choices tail known.1 known.0 form some)

  pub select_again : (choices : List Alternative) (tail : Tail) → AreChoices names by choices → IsTail tail → Again choices tail
  unfolding alternatives_at
  select_again (c ∷ cs) tail known form = some_again (c ∷ cs) tail known form (omega arith)
  select_again [] tails.Nothing known form = refl
  select_again [] tails.Otherwise known form = refl
  select_again [] (tails.Delays []) known form = absurd (omega (arith, form.0))
  select_again [] (tails.Delays (p ∷ ps)) known form = some_again [] (tails.Delays (p ∷ ps)) known form (omega arith)
  select_again [] (tails.Terminate guard) known form = some_again [] (tails.Terminate guard) known form (omega arith)
