-- No member stands in a nest twice.
use Rattle.std.proofs.Common.{◌≡◌, ℕ, suc, ◌≤◌, true, not, ◌&&◌, eqb, Option, Some, None, List, [], ◌∷◌, ◌++◌, length, sym, refl, ap, subst, ◌∙◌, arith, inl}
use Rattle.std.proofs.Common.{inr, append-nil}
use Rattle.std.specs.Option.{option_map_or, option_to_list}
use Rattle.std.specs.Bool.{then_some}
use Rattle.std.specs.List.{Contains}
use Rattle.std.proofs.lemmas.List.Elements.{Contains-append_cases}
use Rattle.std.proofs.lemmas.Bool.{and_parts}
use Rattle.std.proofs.lemmas.Option.{none-some, same_Some}
use Rattle.ada_events.specs.declared.event.Event.{Event}
use Rattle.ada_events.specs.declared.event.Event.TheVariants.{Met}
use Rattle.ada_events.specs.declared.names.Member.{Member}
use Rattle.ada_events.specs.declared.names.Member.TheVariants.{Block, Rendezvous}
use Rattle.ada_events.specs.Search.{event_at, gathered}
use Rattle.ada_events.specs.Says.{Opening, Meeting, opening_in, meeting_in}
use Rattle.ada_events.specs.Calls.{is_open_call}
use Rattle.ada_events.specs.Nests.{is_left, is_wait_of, member_at, nest}
use Rattle.ada_events.specs.Lawful.{IsLawful}
use Rattle.ada_laws.proofs.searching.Searching.{event_at-older, event_at-newest, event_at-within, option_or-some, then_some-some}
use Rattle.ada_laws.proofs.searching.Gathering.{gathered-found, Contains-first, Contains-later, Contains-one}
use Rattle.ada_laws.proofs.queues.Meeting.{meeting_in-met, met_once}
use Rattle.ada_laws.proofs.within.Members.{block_place}
use Rattle.ada_step_laws.specs.Changes.{AreDistinct, NestsAreDistinct}

distinct_push : {A : Type 0} (xs : List A) (x : A) → AreDistinct xs → (Contains xs x → ⊥) → AreDistinct (xs ++ x ∷ [])
distinct_push {A = A} [] x distinct absent = (λ has. absurd (none has), tt)
  where
    none : Contains [] x → ⊥
    none (k, below, is) = omega (arith, below)
distinct_push {A = A} (y ∷ ys) x distinct absent = (
  λ has. elim (Contains-append_cases ys (x ∷ []) y has) [
    | inl there ↦ distinct.0 there
    | inr last ↦ absent (subst (λ (z : A). Contains (y ∷ ys) z) (sym (same_Some x y (Contains-one (Some x) y last))) (Contains-first y ys))
  ],
  distinct_push ys x distinct.1 (λ has. absent (Contains-later y x ys has)),
)

-- what each position gives at most once is gathered once
gathered_distinct : {A : Type 0} (give : ℕ → Event → Option A) (journal : List Event)
    → ((p q : ℕ) (e f : Event) (x : A) → event_at journal p ≡ Some e → event_at journal q ≡ Some f → give p e ≡ Some x → give q f ≡ Some x → p ≡ q)
    → AreDistinct (gathered give journal)
unfolding gathered
gathered_distinct {A = A} give [] once = tt
gathered_distinct {A = A} give (event ∷ before) once =
    by_newest (give (suc (length before)) event) refl
    (gathered_distinct give before (λ p q e f x at_p at_q. once p q e f x (event_at-older event before p e at_p) (event_at-older event before q f at_q)))
  where
    by_newest : (o : Option A) → give (suc (length before)) event ≡ o → AreDistinct (gathered give before)
        → AreDistinct (gathered give before ++ option_to_list o)
    by_newest None is older = rw (append-nil (gathered give before)) older
    by_newest (Some x) is older =
        distinct_push (gathered give before) x older (λ has.
        let (p, e, at, gives) = gathered-found give before x has in
        let within : p ≤ length before = event_at-within before p e at in
        let same : p ≡ suc (length before) = once p (suc (length before)) e event x (event_at-older event before p e at) (event_at-newest event before)
        gives is in
        omega (arith, within, same))

-- a rendezvous in a nest began there, with its call, by a wait of the task
pub record IsEntered (journal : List Event) (task call : ℕ) (e : Event) : Type 0 where
  pub meeting : Meeting
  pub says : meeting_in e ≡ Some meeting
  pub with_call : meeting.call ≡ call
  pub by_task : is_wait_of journal task meeting.wait ≡ true

pub rendezvous_place : (journal : List Event) (task p call : ℕ) (e : Event) → member_at journal task p e ≡ Some (Rendezvous call)
    → IsEntered journal task call e
unfolding member_at
rendezvous_place journal task p call e gives =
    elim (option_or-some
    (option_map_or (λ (o : Opening). then_some (eqb o.by task && not (is_left journal p)) (Block p)) (opening_in e) None)
    (option_map_or (λ (m : Meeting). then_some (is_wait_of journal task m.wait && is_open_call journal m.call) (Rendezvous m.call)) (meeting_in e) None)
    (Rendezvous call) gives) [
      | inl opened ↦ absurd (by_opening (opening_in e) opened)
      | inr met ↦ by_meeting (meeting_in e) refl met
    ]
  where
    by_opening : (o : Option Opening) → option_map_or (λ (o : Opening). then_some (eqb o.by task && not (is_left journal p)) (Block p)) o None
        ≡ Some (Rendezvous call) → ⊥
    by_opening None gives = none-some (Rendezvous call) gives
    by_opening (Some o) gives =
        let found = then_some-some (eqb o.by task && not (is_left journal p)) (Block p) (Rendezvous call) gives in
        cc (found.1)

    by_meeting : (m : Option Meeting) → meeting_in e ≡ m
        → option_map_or (λ (m : Meeting). then_some (is_wait_of journal task m.wait && is_open_call journal m.call) (Rendezvous m.call)) m None
        ≡ Some (Rendezvous call) → IsEntered journal task call e
    by_meeting None says gives = absurd (none-some (Rendezvous call) gives)
    by_meeting (Some m) says gives =
        let found = then_some-some (is_wait_of journal task m.wait && is_open_call journal m.call) (Rendezvous m.call) (Rendezvous call) gives in
        record {
          meeting = m;
          says = says;
          with_call = cc (found.1);
          by_task =
              (and_parts (is_wait_of journal task m.wait) (is_open_call journal m.call) found.0).0;
        }

one_place : (journal : List Event) (task p q : ℕ) (e f : Event) (x : Member) → IsLawful journal → event_at journal p ≡ Some e → event_at journal q ≡ Some f
    → member_at journal task p e ≡ Some x → member_at journal task q f ≡ Some x → p ≡ q
one_place journal task p q e f (Block b) lawful at_p at_q gives also = block_place journal task p b e gives ∙ sym (block_place journal task q b f also)
one_place journal task p q e f (Rendezvous call) lawful at_p at_q gives also =
    let one = rendezvous_place journal task p call e gives in
    let two = rendezvous_place journal task q call f also in
    met_once journal call one.meeting.wait two.meeting.wait p q lawful (met_at p e one at_p) (met_at q f two at_q)
  where
    met_at : (r : ℕ) (g : Event) (is : IsEntered journal task call g) → event_at journal r ≡ Some g → event_at journal r ≡ Some (Met call is.meeting.wait)
    met_at r g is at = at ∙ ap Some (meeting_in-met g is.meeting is.says) ∙ ap (λ (c : ℕ). Some (Met c is.meeting.wait)) is.with_call

pub nests_are_distinct : NestsAreDistinct
unfolding nest
nests_are_distinct journal task lawful =
    gathered_distinct (member_at journal task) journal (λ p q e f x at_p at_q gives also. one_place journal task p q e f x lawful at_p at_q gives also)
