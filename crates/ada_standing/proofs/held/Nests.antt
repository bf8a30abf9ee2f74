-- Tasks are within the same blocks and rendezvous, in their order, after one more event of both journals.
use Rattle.std.proofs.Common.{◌≡◌, ℕ, suc, Bool, true, false, cond, Option, Some, None, List, [], ◌∷◌, ◌++◌, length, map, filter, option_to_list}
use Rattle.std.proofs.Common.{refl, sym, ap, ◌∙◌, inl, inr}
use Rattle.std.specs.Option.{option_map}
use Rattle.std.specs.List.{Contains}
use Rattle.std.proofs.lemmas.List.{map-append}
use Rattle.std.proofs.lemmas.Bool.{false_from_ne_true, true≢false}
use Rattle.ada_events.specs.declared.event.Event.{Event}
use Rattle.ada_events.specs.declared.names.Member.{Member}
use Rattle.ada_events.specs.Phases.{is_terminated}
use Rattle.ada_events.specs.Nests.{member_at, nest}
use Rattle.ada_laws.proofs.searching.Gathering.{Contains-first, Contains-later}
use Rattle.ada_laws.proofs.searching.Growing.{is_terminated-more}
use Rattle.ada_standing.specs.Renaming.{Renaming, renamed_member}
use Rattle.ada_standing.specs.internal.Next.{next_names}
use Rattle.ada_standing.proofs.held.Setting.{AreNext, TerminatedKept, CompletedKept, task_cases, member_later}
use Rattle.ada_standing.proofs.held.Remaining.{remains, nest_next}
use Rattle.ada_standing.proofs.held.Members.{member_stays, added_alike}

-- what passes of two lists, of which the second stands for the first, where of each two both pass or neither does
filter_alike : (to then : Member → Option Member) (test there : Member → Bool) (xs ys : List Member) → map Some ys ≡ map to xs
    → ((x y : Member) → to x ≡ Some y → then x ≡ Some y)
    → ((x y : Member) → Contains xs x → Contains ys y → to x ≡ Some y → there y ≡ test x) → map Some (filter there ys) ≡ map then (filter test xs)
filter_alike to then test there [] [] same later alike = refl
filter_alike to then test there [] (y ∷ ys) same later alike = absurd cc
filter_alike to then test there (x ∷ xs) [] same later alike = absurd cc
filter_alike to then test there (x ∷ xs) (y ∷ ys) same later alike =
    let head : Some y ≡ to x = cc in
    let tail : map Some ys ≡ map to xs = cc in
    one (there y) (test x) (alike x y (Contains-first x xs) (Contains-first y ys) (sym head)) (later x y (sym head))
    (filter_alike to then test there xs ys tail later
    (λ a b in_xs in_ys is. alike a b (Contains-later x a xs in_xs) (Contains-later y b ys in_ys) is))
  where
    one : (b c : Bool) → b ≡ c → then x ≡ Some y → map Some (filter there ys) ≡ map then (filter test xs)
        → map Some (cond b (y ∷ filter there ys) (filter there ys)) ≡ map then (cond c (x ∷ filter test xs) (filter test xs))
    one true true same is rest = λ i. sym is i ∷ rest i
    one false false same is rest = rest
    one true false same is rest = absurd (true≢false same)
    one false true same is rest = absurd (true≢false (sym same))

one_alike : (to : Member → Option Member) (o p : Option Member) → option_map Some p ≡ option_map to o
    → map Some (option_to_list p) ≡ map to (option_to_list o)
one_alike to None None same = refl
one_alike to None (Some y) same = absurd cc
one_alike to (Some x) None same = absurd cc
one_alike to (Some x) (Some y) same = ap (λ (o : Option Member). o ∷ []) cc

module _ (old new : List Event) (names : Renaming) (event copy : Event) (next : AreNext old new names event copy)
    (terminated_kept : TerminatedKept old new names event copy) (completed_kept : CompletedKept old new names event copy) where
  -- before the event the nests were alike: a task that it makes was within nothing
  before_alike : (u v : ℕ) → (next_names old new event names).task u ≡ Some v → is_terminated (event ∷ old) u ≡ false
      → map Some (nest new v) ≡ map (renamed_member names) (nest old u)
  before_alike u v named still = elim (task_cases old new names event copy next u v named) [
    | inl made ↦
        ap (λ n. map Some (nest new n)) made.2
        ∙ (ap (map Some) next.fitted.empty
        ∙ (ap (map (renamed_member names)) (sym next.fits.empty) ∙ ap (λ n. map (renamed_member names) (nest old n)) (sym made.1)))
    | inr kept ↦
        (next.stands.nests u v kept
        (false_from_ne_true (is_terminated old u) (λ was. true≢false (sym (is_terminated-more event old u was) ∙ still)))).members
  ]

  pub members_kept : (u v : ℕ) → (next_names old new event names).task u ≡ Some v → is_terminated (event ∷ old) u ≡ false
      → map Some (nest (copy ∷ new) v) ≡ map (renamed_member (next_names old new event names)) (nest (event ∷ old) u)
  members_kept u v named still =
      let to = renamed_member (next_names old new event names) in
      let here = filter (remains (event ∷ old)) (nest old u) in
      let there = filter (remains (copy ∷ new)) (nest new v) in
      let added = member_at (event ∷ old) u (suc (length old)) event in
      let more = member_at (copy ∷ new) v (suc (length new)) copy in
      let stays : map Some there ≡ map to here =
      filter_alike (renamed_member names) to (remains (event ∷ old)) (remains (copy ∷ new)) (nest old u) (nest new v) (before_alike u v named still)
      (λ x y same. member_later old new names event copy next x y same)
      (λ x y inside within same. member_stays old new names event copy next terminated_kept completed_kept u v x y inside within same) in
      let comes : map Some (option_to_list more) ≡ map to (option_to_list added) =
      one_alike to added more (added_alike old new names event copy next terminated_kept completed_kept u v named) in
      ap (map Some) (nest_next copy new next.fitted v)
      ∙ (map-append Some there (option_to_list more)
      ∙ ((λ i. stays i ++ comes i)
      ∙ (sym (map-append to here (option_to_list added)) ∙ ap (map to) (sym (nest_next event old next.fits u)))))
