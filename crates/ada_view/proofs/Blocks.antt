-- Blocks: who opened one exists, and where one is complete or left (9.4).
use Rattle.std.proofs.Common.{◌≡◌, ℕ, zero, suc, ◌<◌, Bool, true, false, not, ◌||◌, Option, Some, List, [], ◌∷◌, refl, sym, ap, ◌∙◌}
use Rattle.std.proofs.Common.{arith, inl, inr}
use Rattle.std.specs.List.{list_any}
use Rattle.std.specs.Option.{option_and_then}
use Rattle.std.proofs.lemmas.Bool.{eq-eqb, true≢false, true_from_ne_false}
use Rattle.std.proofs.lemmas.Option.{none-some, same_Some}
use Rattle.ada_events.specs.declared.event.Event.{Event}
use Rattle.ada_events.specs.declared.event.Event.TheVariants.{Opened}
use Rattle.ada_events.specs.declared.names.TaskNo.{TaskNo}
use Rattle.ada_events.specs.declared.names.Master.{Master}
use Rattle.ada_events.specs.declared.names.Master.TheVariants.{Block}
use Rattle.ada_events.specs.declared.request.Request.{Request}
use Rattle.ada_events.specs.declared.request.Request.TheVariants as request
use Rattle.ada_events.specs.Search.{is_some_and, event_at, all_below}
use Rattle.ada_events.specs.Says.{Opening, Closing, opening_in, opening_at, closing_in}
use Rattle.ada_events.specs.Asks.{asker, asked_event}
use Rattle.ada_events.specs.Tasks.{task_count}
use Rattle.ada_events.specs.Masters.{depends_on}
use Rattle.ada_events.specs.Phases.{has_ended, is_terminated}
use Rattle.ada_events.specs.Nests.{nest, is_left}
use Rattle.ada_events.specs.Termination.{is_complete_block, all_terminated}
use Rattle.ada_events.specs.Forced.{is_to_quit}
use Rattle.ada_events.specs.Lawful.{IsLawful, MayFollow}
use Rattle.ada_laws.proofs.asking.Accepting.{asker_exists}
use Rattle.ada_laws.proofs.within.Framing.{IsBlockOf}
use Rattle.ada_laws.proofs.searching.Growing.{task_count-more}
use Rattle.ada_laws.proofs.within.Parents.{same_truth}
use Rattle.ada_laws.proofs.forced.Rows.{forced-row}
use Rattle.ada_laws.proofs.searching.Searching.{event_at-cases, option_map_or-true}
use Rattle.ada_laws.proofs.forced.Stepping.{row-opens_none}
use Rattle.ada_records.specs.declared.record.Record.{Record}
use Rattle.ada_records.specs.Records.{IsRecordOf}
use Rattle.ada_records.specs.RecordedStates.{has_ended_by}
use Rattle.ada_records.proofs.recording.Queries.{records_tell}
use Rattle.ada_step_laws.proofs.newly.Completing.{any_at}
use Rattle.ada_events.specs.Holders.{has_block}
use Rattle.ada_events.specs.Refusals.{refusal}
use Rattle.ada_laws.proofs.within.Owners.{block_in_nest, nest_has_block}
use Rattle.ada_step_laws.proofs.holding.LiveHolders.{a_left_block_has_no_live_dependent}
use Rattle.ada_view.specs.internal.Ending.{closes, closes_at}
use Rattle.ada_view.proofs.Closing.{closed_at}
use Rattle.ada_view.proofs.Pending.{held_there}
use Rattle.ada_view.proofs.Quitting.{deserted_stays}

asked_opens : (journal : List Event) (r : Request) (o : Opening) → opening_in (asked_event journal r) ≡ Some o → asker r ≡ Some o.by
unfolding opening_in asked_event asker
asked_opens journal (request.Open by) o says = ap (λ (x : Opening). Some x.by) (same_Some _ o says)
asked_opens journal _ o says = absurd (none-some o says)

new_opener : (event : Event) (before : List Event) (o : Opening) → MayFollow refusal before event → opening_in event ≡ Some o → o.by < task_count before
new_opener event before o (inl forces) says = absurd (none-some o (sym (row-opens_none before event (forced-row before event forces)) ∙ says))
new_opener event before o (inr asked) says =
    asker_exists before asked.request o.by asked.accepted (asked_opens before asked.request o (ap opening_in (sym asked.becomes) ∙ says))

-- who opened a block exists
pub opener_exists : (journal : List Event) (p : ℕ) (e : Event) (o : Opening) → IsLawful journal → event_at journal p ≡ Some e → opening_in e ≡ Some o
    → o.by < task_count journal
unfolding event_at
opener_exists [] p e o lawful at says = absurd (none-some e at)
opener_exists (event ∷ before) p e o lawful at says =
    elim (event_at-cases event before p e at) [
      | inl now ↦ omega (arith, task_count-more event before, new_opener event before o lawful.1 (ap opening_in now.1 ∙ says))
      | inr was ↦ omega (arith, task_count-more event before, opener_exists before p e o lawful.0 was says)
    ]

combined : (e c l : Bool) → (e ≡ false → c ≡ l) → (e || c) ≡ (l || e)
combined true c true same = refl
combined true c false same = refl
combined false c true same = same refl
combined false c false same = same refl

closes_there : (journal : List Event) (block at kept : ℕ) (e : Event) (k : Closing) → kept ≡ at → event_at journal at ≡ Some e → closing_in e ≡ Some k
    → k.block ≡ block → closes_at journal block kept ≡ true
closes_there journal block at kept e k same stands says of = rw (same, stands, says) (eq-eqb k.block block of)

-- a block that its task is within is complete where the task has ended, or is suspended at a close of the block
pub complete_told : (journal : List Event) (by block : ℕ) (kept : Record) → IsLawful journal → IsRecordOf journal by kept → IsBlockOf journal by block
    → has_block block (nest journal by) ≡ true → (has_ended_by kept || closes_at journal block kept.suspension.at) ≡ is_complete_block journal block
unfolding is_complete_block
complete_told journal by block kept lawful right own within =
    ap (λ e. e || closes_at journal block kept.suspension.at) (records_tell journal by kept right).ended
    ∙ combined (has_ended journal by) (closes_at journal block kept.suspension.at) (list_any (closes block) journal) (λ live.
    same_truth (closes_at journal block kept.suspension.at) (list_any (closes block) journal) there (back live))
    ∙ ap (λ e. list_any (closes block) journal || e) (sym opener)
  where
    opener : is_some_and (opening_at journal block) (λ (o : Opening). has_ended journal o.by) ≡ has_ended journal by
    opener =
        ap (λ (o : Option Opening). is_some_and o (λ (x : Opening). has_ended journal x.by)) (ap (option_and_then opening_in) own.stands ∙ own.says)
        ∙ ap (has_ended journal) own.by

    there : closes_at journal block kept.suspension.at ≡ true → list_any (closes block) journal ≡ true
    there closed =
        let (e, at, found) = option_map_or-true (closes block) (event_at journal kept.suspension.at) closed in
        any_at (closes block) journal kept.suspension.at e at found

    back : has_ended journal by ≡ false → list_any (closes block) journal ≡ true → closes_at journal block kept.suspension.at ≡ true
    back live closed =
        let at = closed_at journal by block lawful own (block_in_nest journal by block within).1 live closed in
        closes_there journal block at.at kept.suspension.at at.stands.event at.closing
        (held_there journal by kept.suspension.at at.at lawful right.suspension.at at.suspended)
        at.stands.stands at.stands.says at.of

all_pass : (test : ℕ → Bool) → ((u : ℕ) → test u ≡ true) → (n : ℕ) → all_below test n ≡ true
unfolding all_below
all_pass test passes zero = refl
all_pass test passes (suc n) = rw (all_pass test passes n, passes n) refl

-- a block that its task isn't within is left, and then nobody depends on it who isn't terminated
pub deserted : (journal : List Event) (by block : ℕ) → IsLawful journal → IsBlockOf journal by block → has_block block (nest journal by) ≡ false
    → all_terminated journal (Block block) ≡ true
unfolding all_terminated
deserted journal by block lawful own without =
    all_pass (λ u. not (depends_on journal u (Block block)) || is_terminated journal u) (λ u. ended u (depends_on journal u (Block block)) refl)
    (task_count journal)
  where
    left : is_left journal block ≡ true
    left = true_from_ne_false (is_left journal block) (λ unleft. true≢false (sym (nest_has_block journal by block own unleft) ∙ without))

    ended : (u : ℕ) (d : Bool) → depends_on journal u (Block block) ≡ d → (not (depends_on journal u (Block block)) || is_terminated journal u) ≡ true
    ended u false apart = rw apart refl
    ended u true depends = rw depends (a_left_block_has_no_live_dependent journal block u lawful left depends)

-- a block that is left has nobody who is to quit
pub left_stays : (journal : List Event) (by : TaskNo) (under : Master) (at : ℕ) → IsLawful journal → event_at journal at ≡ Some (Opened by under)
    → has_block at (nest journal by.0) ≡ false → is_to_quit journal (Block at) ≡ false
unfolding opening_in
left_stays journal by under at lawful stands without =
    sym (deserted_stays journal (Block at) (deserted journal by.0 at lawful
    (record { event = Opened by under; opening = record { by = by.0; under = under }; stands = stands; says = refl; by = refl }) without))
