-- What is newly complete or abandoned after one more event.
use Rattle.std.proofs.Common.{◌≡◌, ℕ, Bool, true, false, not, ◌&&◌, Some, None, List, [], ◌∷◌, sym, refl, ap, ◌∙◌, ◌⊎◌, inl, inr, eqb, if◌then◌else◌}
use Rattle.std.specs.List.{Contains, list_any}
use Rattle.std.proofs.lemmas.Bool.{and_parts, or_cases, or_parts, or_left, or_right, not-true, both_ways, cases_Bool, eqb-true, eq-eqb}
use Rattle.std.proofs.lemmas.Option.{none-some}
use Rattle.ada_events.specs.declared.event.Event.{Event}
use Rattle.ada_events.specs.declared.event.Event.TheVariants as event
use Rattle.ada_events.specs.declared.names.TaskNo.{TaskNo}
use Rattle.ada_events.specs.declared.names.Master.TheVariants.{Body, Block}
use Rattle.ada_events.specs.declared.names.Member.TheVariants.{Block as BlockMember}
use Rattle.ada_events.specs.Search.{is_number, is_some_and, any_event, event_at}
use Rattle.ada_events.specs.Says.{Creation, Opening, Closing, creation_in, opening_in, closing_in, opening_at, completed_in, gone_in, quit_in, aborted_in}
use Rattle.ada_events.specs.Says.{elaborated_in, failed_in, started_in}
use Rattle.ada_events.specs.Tasks.{task_count, creation_of}
use Rattle.ada_events.specs.Phases.{lists_task, has_start, is_completed, is_terminated, has_ended}
use Rattle.ada_events.specs.Nests.{is_left_close, is_left, member_at, nest}
use Rattle.ada_events.specs.Termination.{is_complete_block, is_complete, is_abandoned}
use Rattle.ada_events.specs.Lawful.{IsLawful}
use Rattle.ada_laws.proofs.searching.Searching.{option_map_or-true, option_and_then-some, option_or-some, if_some, is_number-some, event_at-cases}
use Rattle.ada_laws.proofs.searching.Searching.{any_event-found}
use Rattle.ada_laws.proofs.searching.Gathering.{gathered-from}
use Rattle.ada_laws.proofs.asking.Accepting.{running_live}
use Rattle.ada_laws.proofs.within.Framing.{IsBlockOf}
use Rattle.ada_laws.proofs.within.Reaching.{opening_asked}
use Rattle.ada_laws.proofs.forced.Parts.{is_over, closes_block}
use Rattle.ada_step_laws.proofs.changing.Holding.{IsQuiet, quiet_ended}

-- a body is newly complete where the event completes its task
pub body_newly : (event : Event) (before : List Event) (t : TaskNo) → is_complete before (Body t) ≡ false → is_complete (event ∷ before) (Body t) ≡ true
    → completed_in event ≡ Some t.0
unfolding is_complete is_completed
body_newly event before t was now =
    elim (or_cases (is_number t.0 (completed_in event)) (list_any (λ (e : Event). is_number t.0 (completed_in e)) before) now) [
      | inl here ↦ is_number-some t.0 (completed_in event) here
      | inr there ↦ absurd (both_ways (list_any (λ (e : Event). is_number t.0 (completed_in e)) before) was there)
    ]

-- what stands somewhere and passes
pub any_at : (test : Event → Bool) (journal : List Event) (p : ℕ) (e : Event) → event_at journal p ≡ Some e → test e ≡ true → list_any test journal ≡ true
unfolding event_at
any_at test [] p e at passes = absurd (none-some e at)
any_at test (event ∷ before) p e at passes =
    elim (event_at-cases event before p e at) [
      | inl newest ↦ or_left (test event) (list_any test before) (ap test newest.1 ∙ passes)
      | inr older ↦ or_right (test event) (list_any test before) (any_at test before p e older passes)
    ]

-- a block that isn't closed isn't left
pub unclosed_unleft : (journal : List Event) (p : ℕ) → list_any (closes_block p) journal ≡ false → is_left journal p ≡ false
unfolding is_left
unclosed_unleft journal p unclosed =
    elim (cases_Bool (any_event (λ q e. closes_block p e && is_left_close journal q) journal)) [
      | inr unleft ↦ unleft
      | inl left ↦
          let (q, e, at, found) = any_event-found (λ q e. closes_block p e && is_left_close journal q) journal left in
          absurd
          (both_ways (list_any (closes_block p) journal) unclosed
          (any_at (closes_block p) journal q e at (and_parts (closes_block p e) (is_left_close journal q) found).0))
    ]

-- a block that a task opened and hasn't left is in its nest
pub block_within : (journal : List Event) (task p : ℕ) → IsBlockOf journal task p → is_left journal p ≡ false → Contains (nest journal task) (BlockMember p)
unfolding nest member_at
block_within journal task p block unleft =
    gathered-from (member_at journal task) journal p block.event (BlockMember p) block.stands
    (rw (block.says, eq-eqb block.opening.by task block.by, unleft) refl)

-- the event ends the task that is within the block
pub record IsBlockEnded (event : Event) (before : List Event) (p : ℕ) : Type 0 where
  pub task : ℕ
  pub block : IsBlockOf before task p
  pub was : has_ended before task ≡ false
  pub now : has_ended (event ∷ before) task ≡ true
  pub within : Contains (nest before task) (BlockMember p)

pub record IsClosed (event : Event) (p : ℕ) : Type 0 where
  pub closing : Closing
  pub says : closing_in event ≡ Some closing
  pub of : closing.block ≡ p

-- an opening ends nobody
opening_quiet : (e : Event) (o : Opening) → opening_in e ≡ Some o → IsQuiet e
unfolding opening_in completed_in gone_in quit_in aborted_in elaborated_in failed_in creation_in
opening_quiet (event.Opened by under) o says =
    record { completes = refl; goes = refl; quits = refl; aborts = refl; elaborates = refl; fails = refl; makes = refl }
opening_quiet _ o says = absurd (none-some o says)

-- a block is newly complete where the event closes it, or ends its task
pub block_newly : (event : Event) (before : List Event) (p : ℕ) → IsLawful (event ∷ before) → is_complete before (Block p) ≡ false
    → is_complete (event ∷ before) (Block p) ≡ true → IsClosed event p ⊎ IsBlockEnded event before p
unfolding is_complete is_complete_block
block_newly event before p lawful was now =
    let parts = or_parts (list_any (closes_block p) before) (is_some_and (opening_at before p) (λ (o : Opening). has_ended before o.by)) was in
    elim (or_cases (list_any (closes_block p) (event ∷ before))
    (is_some_and (opening_at (event ∷ before) p) (λ (o : Opening). has_ended (event ∷ before) o.by)) now) [
      | inl closed ↦
          elim (or_cases (closes_block p event) (list_any (closes_block p) before) closed) [
            | inl here ↦
                let (c, says, same) = option_map_or-true (λ (c : Closing). eqb c.block p) (closing_in event) here in
                inl (record { closing = c; says = says; of = eqb-true c.block p same })
            | inr there ↦ absurd (both_ways (list_any (closes_block p) before) parts.0 there)
          ]
      | inr over ↦
          let (o, opened, ended) = option_map_or-true (λ (o : Opening). has_ended (event ∷ before) o.by) (opening_at (event ∷ before) p) over in
          let (e, at, says) = option_and_then-some opening_in (event_at (event ∷ before) p) o opened in
          elim (event_at-cases event before p e at) [
            | inl newest ↦
                let here : opening_in event ≡ Some o = ap opening_in newest.1 ∙ says in
                let ran = running_live before o.by (opening_asked event before o lawful.1 here).runs in
                absurd (both_ways (has_ended before o.by) ran (sym (quiet_ended event before o.by (opening_quiet event o here)) ∙ ended))
            | inr older ↦
                let block : IsBlockOf before o.by p = record { event = e; opening = o; stands = older; says = says; by = refl } in
                let live : has_ended before o.by ≡ false = rw (older, says) at parts.1 in
                inr
                (record { task = o.by; block = block; was = live; now = ended; within = block_within before o.by p block (unclosed_unleft before p parts.0) })
          ]
    ]

-- what a task that is never started was made within is newly complete, or its maker newly terminated
pub record IsNewlyAbandoned (event : Event) (before : List Event) (task : ℕ) : Type 0 where
  pub creation : Creation
  pub made : creation_of before task ≡ Some creation
  pub never : has_start before task ≡ false
  pub unfinished : is_complete before creation.under ≡ false
  pub why : ((is_complete before creation.under ≡ false) × (is_complete (event ∷ before) creation.under ≡ true))
      ⊎ ((is_terminated before creation.by ≡ false) × (is_terminated (event ∷ before) creation.by ≡ true))

-- the event makes the task
pub record IsJustMade (event : Event) (before : List Event) (task : ℕ) : Type 0 where
  pub creation : Creation
  pub says : creation_in event ≡ Some creation
  pub is : task ≡ task_count before

and_true : (b : Bool) → (b && true) ≡ false → b ≡ false
and_true true fails = fails
and_true false fails = refl

not_over : (journal : List Event) (task : ℕ) (c : Creation) → creation_of journal task ≡ Some c → has_start journal task ≡ false
    → is_abandoned journal task ≡ false → is_over journal c ≡ false
unfolding is_abandoned
not_over journal task c made never was = and_true (is_over journal c) (rw (made, never) at was)

pub abandoned_newly : (event : Event) (before : List Event) (task : ℕ) → is_abandoned before task ≡ false → is_abandoned (event ∷ before) task ≡ true
    → IsJustMade event before task ⊎ IsNewlyAbandoned event before task
unfolding is_abandoned creation_of has_start
abandoned_newly event before task was now =
    let both = and_parts (is_some_and (creation_of (event ∷ before) task) (is_over (event ∷ before))) (not (has_start (event ∷ before) task)) now in
    let (c, made, over) = option_map_or-true (is_over (event ∷ before)) (creation_of (event ∷ before) task) both.0 in
    elim (option_or-some (if eqb task (task_count before) then creation_in event else None) (creation_of before task) c made) [
      | inl new ↦
          let found = if_some (eqb task (task_count before)) (creation_in event) c new in
          inl (record { creation = c; says = found.1; is = eqb-true task (task_count before) found.0 })
      | inr old ↦
          let never = (or_parts (lists_task task (started_in event)) (has_start before task) (not-true (has_start (event ∷ before) task) both.1)).1 in
          let not_yet : is_over before c ≡ false = not_over before task c old never was in
          let parts = or_parts (is_complete before c.under) (is_terminated before c.by) not_yet in
          inr (record {
            creation = c;
            made = old;
            never = never;
            unfinished = parts.0;
            why =
                elim (or_cases (is_complete (event ∷ before) c.under) (is_terminated (event ∷ before) c.by) over) [
                  | inl complete ↦ inl (parts.0, complete)
                  | inr terminated ↦ inr (parts.1, terminated)
                ];
          })
    ]
