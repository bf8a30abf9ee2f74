-- What one more event changes in the records where it changes those of a few tasks.
use Rattle.std.proofs.Common.{eqb, ◌≡◌, ◌≢◌, ℕ, suc, ◌+◌, ◌<◌, true, false, Some, None, List, ◌∷◌, length, set, sym, refl, ap, subst, ◌∙◌, arith, inl, inr}
use Rattle.std.proofs.Common.{zero}
use Rattle.std.specs.Option.{option_map}
use Rattle.std.proofs.lemmas.Bool.{cases_eq, true≢false}
use Rattle.std.proofs.lemmas.List.{length-set, get_or-set_same, get_or-set_other}
use Rattle.ada_events.specs.declared.event.Event.{Event}
use Rattle.ada_events.specs.declared.event.Event.TheVariants.{Ended, Met}
use Rattle.ada_events.specs.declared.names.TaskNo.{TaskNo}
use Rattle.ada_events.specs.declared.outcome.Outcome.{Outcome}
use Rattle.ada_events.specs.declared.outcome.Outcome.TheVariants.{Raised, Served, Accepted}
use Rattle.ada_events.specs.Search.{is_number, is_some_and, event_at}
use Rattle.ada_events.specs.Says.{Meeting, held_in, released_in, meeting_in, creation_in}
use Rattle.ada_events.specs.Tasks.{creation_of}
use Rattle.ada_events.specs.Outcomes.{raised_in, released_to, choice_met}
use Rattle.ada_events.specs.Lawful.{IsLawful}
use Rattle.ada_laws.specs.Suspension.{IsSuspendedAt, HoldsSomebody}
use Rattle.ada_laws.proofs.searching.Growing.{task_count-same}
use Rattle.ada_laws.proofs.queues.Meeting.{met_taking, taken_queued}
use Rattle.ada_laws.proofs.queues.Queueing.{open_call_suspends}
use Rattle.ada_laws.proofs.held.Suspending.{suspended_exists}
use Rattle.ada_laws.proofs.searching.Searching.{is_number-from}
use Rattle.ada_laws.proofs.held.OutcomeLaws.{raises_none, unraised}
use Rattle.ada_records.specs.declared.record.Suspension.{Suspension}
use Rattle.ada_records.specs.declared.record.Record.{Record}
use Rattle.ada_records.specs.declared.record.Stage.{Stage}
use Rattle.ada_records.specs.Records.{no_record, record_at, IsSuspensionOf, IsStageOf, IsRecordOf, AreRecords, IsPlainHold, IsPlainRelease}
use Rattle.ada_records.specs.Records.{freed}
use Rattle.ada_records.specs.Noted.{waits_at_open_terminate}
use Rattle.ada_records.specs.internal.Records.{held}
use Rattle.ada_records.proofs.recording.Creations.{same_creation, created_still, created_kept}
use Rattle.ada_step_laws.proofs.changing.Holding.{hold_only, quiet_ends, holder_ran}
use Rattle.ada_step_laws.proofs.changing.QueueChanges.{ends}
use Rattle.ada_step_laws.proofs.changing.Saying.{IsPlain, number_none, number_other, no_meeting, other_call, release_only, held_apart, met_frees, call_not_wait}
use Rattle.ada_step_laws.proofs.changing.Saying.{is_met-now, unmet_same, met_says}
use Rattle.ada_records.proofs.recording.Suspensions.{held_there, suspension_held, suspension_released, suspension_later, suspension_same, suspension_ended}
use Rattle.ada_records.proofs.recording.Suspensions.{same_outcome}
use Rattle.ada_step_laws.proofs.changing.LatestOutcomes.{what_is_released_held, raisers_have_raised}
use Rattle.ada_step_laws.proofs.changing.Existing.{positive}
use Rattle.ada_records.proofs.recording.Stages.{stage_after, stage_more, stage_plain}

-- a record that stays, of a task that the event doesn't touch
pub record IsUntouched (event : Event) (before : List Event) (task at : ℕ) : Type 0 where
  pub holds : is_number task (held_in event) ≡ false
  pub raises : is_number task (raised_in event) ≡ false
  pub frees : is_number at (released_in event) ≡ false
  pub meets : is_some_and (meeting_in event) (λ (m : Meeting). eqb m.call at) ≡ false
  pub ends : ends event before task ≡ false

pub untouched : (event : Event) (before : List Event) (task : ℕ) (kept : Record) → IsLawful (event ∷ before) → IsRecordOf before task kept
    → IsUntouched event before task kept.suspension.at → stage_after event before task kept.stage ≡ kept.stage
    → creation_of (event ∷ before) task ≡ creation_of before task → IsRecordOf (event ∷ before) task kept
untouched event before task kept lawful old apart same creation = record {
  suspension = suspension_same event before task kept.suspension lawful old.suspension apart.holds apart.raises apart.frees apart.meets apart.ends;
  stage = subst (IsStageOf (event ∷ before) task) same (stage_more event before task kept.stage old.stage);
  created = created_still event before task kept.created creation old.created;
}

-- a record with another latest suspension, where the event changes nothing else
pub suspension_only : (event : Event) (before : List Event) (task : ℕ) (was now : Record) (suspension : Suspension) → IsPlain event → IsRecordOf before task was
    → IsSuspensionOf (event ∷ before) task suspension → now ≡ record was { suspension = suspension } → IsRecordOf (event ∷ before) task now
suspension_only event before task was now suspension plain old right is =
    subst (IsRecordOf (event ∷ before) task) (sym is) (record {
      suspension = right;
      stage = subst (IsStageOf (event ∷ before) task) (stage_plain event before task was.stage plain) (stage_more event before task was.stage old.stage);
      created = created_kept event before task was.created plain.quiet.makes old.created;
    })

-- the records with one changed
pub one_changed : (event : Event) (before : List Event) (records : List Record) (task : ℕ) (now : Record) → creation_in event ≡ None → AreRecords records before
    → task < length records → IsRecordOf (event ∷ before) task now
    → ((other : ℕ) → other < length records → other ≢ task → IsRecordOf (event ∷ before) other (record_at records other))
    → AreRecords (set records task now) (event ∷ before)
one_changed event before records task now makes old within changed others = record {
  many = length-set records task now ∙ old.many ∙ sym (task_count-same event before makes);
  each = λ other below.
      let known : other < length records = omega (arith, length-set records task now) in
      elim (cases_eq other task) [
        | inl same ↦ subst (λ (n : ℕ). IsRecordOf (event ∷ before) n (record_at (set records task now) n)) (sym same)
            (rw (get_or-set_same records task now no_record within) changed)
        | inr differs ↦ rw (get_or-set_other records task other now no_record differs) (others other known differs)
      ];
}

-- the records with two changed
pub two_changed : (event : Event) (before : List Event) (records : List Record) (one two : ℕ) (first second : Record) → creation_in event ≡ None
    → AreRecords records before → one < length records → two < length records → two ≢ one → IsRecordOf (event ∷ before) one first
    → IsRecordOf (event ∷ before) two second → ((other : ℕ) → other < length records → other ≢ one → other ≢ two
    → IsRecordOf (event ∷ before) other (record_at records other)) → AreRecords (set (set records one first) two second) (event ∷ before)
two_changed event before records one two first second makes old has_one has_two differs right_first right_second others = record {
  many = length-set (set records one first) two second ∙ length-set records one first ∙ old.many ∙ sym (task_count-same event before makes);
  each = λ other below.
      let within : two < length (set records one first) = omega (arith, has_two, length-set records one first) in
      let known : other < length records = omega (arith, length-set (set records one first) two second, length-set records one first) in
      elim (cases_eq other two) [
        | inl same ↦ subst (λ (n : ℕ). IsRecordOf (event ∷ before) n (record_at (set (set records one first) two second) n)) (sym same)
            (rw (get_or-set_same (set records one first) two second no_record within) right_second)
        | inr not_two ↦
            elim (cases_eq other one) [
              | inl same ↦
                  subst (λ (n : ℕ). IsRecordOf (event ∷ before) n (record_at (set (set records one first) two second) n)) (sym same)
                  (rw (
                    get_or-set_other (set records one first) two one second no_record (λ same. differs (sym same)),
                    get_or-set_same records one first
                        no_record has_one,
                  ) right_first)
              | inr not_one ↦
                  rw (get_or-set_other (set records one first) two other second no_record not_two, get_or-set_other records one other first no_record not_one)
                  (others other known not_one not_two)
            ]
      ];
}

abbrev pub suspended_at : List Record → ℕ → ℕ
suspended_at records task = (record_at records task).suspension.at

-- the records after an event that holds a task up
pub records_hold : (event : Event) (before : List Event) (records : List Record) (task : ℕ) (now : Record) → IsLawful (event ∷ before)
    → AreRecords records before → IsPlainHold event task
    → now ≡ record (record_at records task) { suspension = held (length before + 1) (waits_at_open_terminate event) }
    → AreRecords (set records task now) (event ∷ before)
records_hold event before records task now lawful old hold is =
    let only = hold_only event task hold.holds in
    let plain : IsPlain event = record { quiet = only.quiet; starts = hold.starts } in
    let ran = holder_ran event before task lawful hold.holds in
    let within : task < length records = omega (arith, ran.0, old.many) in
    let next : length before + 1 ≡ suc (length before) = omega arith in
    one_changed event before records task now only.quiet.makes old within
    (suspension_only event before task (record_at records task) now
    (held (length before + 1) (waits_at_open_terminate event)) plain (old.each task within)
    (subst (λ (n : ℕ). IsSuspensionOf (event ∷ before) task (held n (waits_at_open_terminate event))) (sym next)
    (suspension_held event before task lawful hold.holds)) is)
    (λ other known differs.
    untouched event before other (record_at records other) lawful (old.each other known)
    (record {
      holds = number_other other task (held_in event) hold.holds differs;
      raises = number_none other (raised_in event) (raises_none event task hold.holds);
      frees = number_none (suspended_at records other) (released_in event) only.releases;
      meets = no_meeting event (suspended_at records other) only.meets;
      ends = quiet_ends event before other only.quiet;
    })
    (stage_plain event before other (record_at records other).stage plain) (same_creation event before other only.quiet.makes))

-- who is suspended elsewhere is kept so
pub elsewhere : (journal : List Event) (records : List Record) (u v p : ℕ) → AreRecords records journal → u < length records → u ≢ v → 0 < p
    → IsSuspendedAt journal v p → suspended_at records u ≢ p
elsewhere journal records u v p stand below differs some held = λ same.
    differs (held_apart journal u v p (subst (λ n. IsSuspendedAt journal u n) same ((stand.each u below).suspension.at.held (omega arith))) held)

-- a task that an event which releases another's position neither raises anything in nor meets is untouched
unreleased : (event : Event) (before : List Event) (records : List Record) (task other p : ℕ) → IsLawful (event ∷ before) → AreRecords records before
    → other < length records → other ≢ task → 0 < p → IsSuspendedAt before task p → released_in event ≡ Some p → is_number other (raised_in event) ≡ false
    → is_some_and (meeting_in event) (λ (m : Meeting). eqb m.call (suspended_at records other)) ≡ false
    → IsRecordOf (event ∷ before) other (record_at records other)
unreleased event before records task other p lawful old known differs some held frees raises meets =
    let only = release_only event p frees in
    untouched event before other (record_at records other) lawful (old.each other known)
    (record {
      holds = number_none other (held_in event) only.holds;
      raises = raises;
      frees = number_other (suspended_at records other) p (released_in event) frees (elsewhere before records other task p old known differs some held);
      meets = meets;
      ends = quiet_ends event before other only.plain.quiet;
    })
    (stage_plain event before other (record_at records other).stage only.plain) (same_creation event before other only.plain.quiet.makes)

-- what a position holds up, by the records
pub record IsKeptAt (journal : List Event) (records : List Record) (task position : ℕ) : Type 0 where
  pub held : IsSuspendedAt journal task position
  pub within : task < length records
  pub some : 0 < position
  pub at : suspended_at records task ≡ position

some_position : (journal : List Event) (p : ℕ) (e : Event) → event_at journal p ≡ Some e → 0 < p
some_position journal zero e at = absurd (positive journal e at)
some_position journal (suc n) e at = omega arith

pub kept_at : (journal : List Event) (records : List Record) (task position : ℕ) → IsLawful journal → AreRecords records journal
    → IsSuspendedAt journal task position → IsKeptAt journal records task position
kept_at journal records task position lawful stand held =
    let within : task < length records = omega (arith, suspended_exists journal task position lawful held, stand.many) in
    record {
      held = held;
      within = within;
      some = some_position journal position held.event held.stands;
      at = held_there journal task (suspended_at records task) position lawful (stand.each task within).suspension.at held;
    }

-- somebody is suspended at what an event releases
pub release_holds : (event : Event) (before : List Event) (position : ℕ) → IsLawful (event ∷ before) → released_in event ≡ Some position
    → HoldsSomebody before position
release_holds event before position lawful frees =
    let (task, held) = what_is_released_held event before position lawful frees in
    record { task = task; held = held }

-- the records after an event that releases what a task is suspended at, otherwise than by a rendezvous or an exception
pub records_release : (event : Event) (before : List Event) (records : List Record) (task position : ℕ) (now : Record) → IsLawful (event ∷ before)
    → AreRecords records before → IsPlainRelease event position → IsSuspendedAt before task position
    → now ≡ record (record_at records task) { suspension = freed (released_to before event) } → AreRecords (set records task now) (event ∷ before)
records_release event before records task position now lawful old frees held is =
    let kept = kept_at before records task position lawful.0 old held in
    let only = release_only event position frees.releases in
    one_changed event before records task now only.plain.quiet.makes old kept.within
    (suspension_only event before task (record_at records task) now (freed (released_to before event)) only.plain (old.each task kept.within)
    (suspension_released event before task position lawful held frees.releases) is)
    (λ other known differs.
    unreleased event before records task other position lawful old known differs kept.some held frees.releases
    (number_none other (raised_in event) frees.raises) (no_meeting event (suspended_at records other) frees.meets))

raising_says : (by : TaskNo) (call : ℕ) → (released_in (Ended by call true) ≡ Some call) × (raised_in (Ended by call true) ≡ Some by.0)
    × (meeting_in (Ended by call true) ≡ None) × ((before : List Event) → released_to before (Ended by call true) ≡ Raised)
unfolding released_in raised_in meeting_in released_to
raising_says by call = (refl, refl, refl, λ before. refl)

met_raises_none : (call wait : ℕ) → raised_in (Met call wait) ≡ None
unfolding raised_in
met_raises_none call wait = refl

met_becomes : (before : List Event) (call wait : ℕ) → released_to before (Met call wait) ≡ Accepted call (choice_met before wait)
unfolding released_to
met_becomes before call wait = refl

pub within_set : (records : List Record) (i n : ℕ) (now : Record) → n < length records → n < length (set records i now)
within_set records i n now below = omega (arith, below, length-set records i now)

-- the records after a task ended a rendezvous by an exception
pub records_raised : (before : List Event) (records : List Record) (by : TaskNo) (caller call : ℕ) (calls raises : Record)
    → IsLawful (Ended by call true ∷ before) → AreRecords records before → by.0 < length records → IsSuspendedAt before caller call
    → calls ≡ record (record_at records caller) { suspension = freed Raised }
    → raises ≡ record (record_at (set records caller calls) by.0) {
      suspension = record (record_at
          (set records caller calls) by.0).suspension { outcome = Raised };
    }
    → AreRecords (set (set records caller calls) by.0 raises) (Ended by call true ∷ before)
records_raised before records by caller p calls raises lawful old has_by held calls_is raises_is =
    let event = Ended by p true in
    let kept = kept_at before records caller p lawful.0 old held in
    let says = raising_says by p in
    let only = release_only event p says.0 in
    let quiet_caller : is_number caller (raised_in event) ≡ false = unraised event before caller p lawful held in
    let differs : by.0 ≢ caller = λ same. true≢false (sym (is_number-from caller (raised_in event) (says.1 ∙ ap Some same)) ∙ quiet_caller) in
    let was : record_at (set records caller calls) by.0 ≡ record_at records by.0 = get_or-set_other records caller by.0 calls no_record differs in
    let is : raises ≡ record (record_at records by.0) { suspension = record (record_at records by.0).suspension { outcome = Raised } } =
    raises_is ∙ ap (λ (r : Record). record r { suspension = record r.suspension { outcome = Raised } }) was in
    two_changed event before records caller by.0 calls raises only.plain.quiet.makes old kept.within has_by differs
    (suspension_only event before caller (record_at records caller) calls (freed Raised) only.plain (old.each caller kept.within)
    (subst (λ (o : Outcome). IsSuspensionOf (event ∷ before) caller (freed o)) (says.3 before)
    (suspension_released event before caller p lawful held says.0)) calls_is)
    (suspension_only event before by.0 (record_at records by.0) raises (record (record_at records by.0).suspension { outcome = Raised }) only.plain
    (old.each by.0 has_by)
    (suspension_later event before by.0 (record_at records by.0).suspension (record_at records by.0).suspension.joined Raised lawful
    (old.each by.0 has_by).suspension
    (number_none by.0 (held_in event) only.holds)
    (number_other (suspended_at records by.0) p (released_in event) says.0 (elsewhere before records by.0 caller p old has_by differs kept.some held))
    (quiet_ends event before by.0 only.plain.quiet)
    (λ some. (old.each by.0 has_by).suspension.joined some
    ∙ sym (unmet_same event before (suspended_at records by.0) (no_meeting event (suspended_at records by.0) says.2)))
    (sym (raisers_have_raised event before by.0 says.1))) is)
    (λ other known not_caller not_by.
    unreleased event before records caller other p lawful old known not_caller kept.some held says.0
    (number_other other by.0 (raised_in event) says.1 not_by) (no_meeting event (suspended_at records other) says.2))

-- the records after a task ended a rendezvous otherwise
pub records_served : (before : List Event) (records : List Record) (by : TaskNo) (caller call : ℕ) (now : Record) → IsLawful (Ended by call false ∷ before)
    → AreRecords records before → IsSuspendedAt before caller call → now ≡ record (record_at records caller) { suspension = freed Served }
    → AreRecords (set records caller now) (Ended by call false ∷ before)
unfolding released_in meeting_in raised_in released_to
records_served before records by caller call now lawful old held is =
    records_release (Ended by call false) before records caller call now lawful old (record { releases = refl; meets = refl; raises = refl }) held is

-- the call and the wait between which a rendezvous begins hold somebody up
pub met_holds : (event : Event) (before : List Event) (call wait : ℕ) → IsLawful (event ∷ before) → event ≡ Met call wait → HoldsSomebody before call
    × HoldsSomebody before wait
met_holds event before call wait lawful met =
    let taking = met_taking before event (record { call = call; wait = wait }) lawful.1 (ap meeting_in met ∙ met_says call wait) in
    let (choice, queued) = taken_queued before call wait taking in (
      record { task = queued.call.by; held = open_call_suspends before queued.call call queued.opened },
      release_holds event before wait lawful (ap released_in met ∙ (met_frees call wait).0),
    )

-- the records after a rendezvous began
pub records_met : (before : List Event) (records : List Record) (caller acceptor call wait choice : ℕ) (waits calls : Record)
    → IsLawful (Met call wait ∷ before) → AreRecords records before → IsSuspendedAt before caller call → IsSuspendedAt before acceptor wait
    → choice ≡ choice_met before wait → waits ≡ record (record_at records acceptor) { suspension = freed (Accepted call choice) }
    → calls ≡ record (record_at (set records acceptor waits) caller) {
      suspension = record (record_at
          (set records acceptor waits) caller).suspension { joined = true };
    }
    → AreRecords (set (set records acceptor waits) caller calls) (Met call wait ∷ before)
records_met before records caller acceptor call wait choice waits calls lawful old at_call at_wait chosen waits_is calls_is =
    let event = Met call wait in
    let calling = kept_at before records caller call lawful.0 old at_call in
    let waiting = kept_at before records acceptor wait lawful.0 old at_wait in
    let frees : released_in event ≡ Some wait = (met_frees call wait).0 in
    let meets : option_map (λ (m : Meeting). m.call) (meeting_in event) ≡ Some call = (met_frees call wait).1 in
    let only = release_only event wait frees in
    let raises : raised_in event ≡ None = met_raises_none call wait in
    let apart : call ≢ wait = call_not_wait event before call wait lawful refl in
    let differs : caller ≢ acceptor = λ same. apart (sym calling.at ∙ ap (λ n. suspended_at records n) same ∙ waiting.at) in
    let becomes : released_to before event ≡ Accepted call choice = met_becomes before call wait ∙ ap (Accepted call) (sym chosen) in
    let unfreed : is_number (suspended_at records caller) (released_in event)
    ≡ false = number_other (suspended_at records caller) wait (released_in event) frees (λ same. apart (sym calling.at ∙ same)) in
    let is : calls ≡ record (record_at records caller) { suspension = record (record_at records caller).suspension { joined = true } } =
    calls_is ∙ ap (λ (r : Record). record r { suspension = record r.suspension { joined = true } })
    (get_or-set_other records acceptor caller waits no_record differs) in
    two_changed event before records acceptor caller waits calls only.plain.quiet.makes old waiting.within calling.within differs
    (suspension_only event before acceptor (record_at records acceptor) waits (freed (Accepted call choice)) only.plain (old.each acceptor waiting.within)
    (subst (λ (o : Outcome). IsSuspensionOf (event ∷ before) acceptor (freed o)) becomes
    (suspension_released event before acceptor wait lawful at_wait frees)) waits_is)
    (suspension_only event before caller (record_at records caller) calls (record (record_at records caller).suspension { joined = true }) only.plain
    (old.each caller calling.within)
    (suspension_later event before caller (record_at records caller).suspension true (record_at records caller).suspension.outcome lawful
    (old.each caller calling.within).suspension
    (number_none caller (held_in event) only.holds) unfreed (quiet_ends event before caller only.plain.quiet)
    (λ some. sym (is_met-now event before (suspended_at records caller) (meets ∙ ap Some (sym calling.at))))
    ((old.each caller calling.within).suspension.outcome
    ∙ same_outcome event before caller (suspended_at records caller) lawful (old.each caller calling.within).suspension.at
    (number_none caller (held_in event) only.holds) (number_none caller (raised_in event) raises) unfreed)) is)
    (λ other known not_acceptor not_caller.
    unreleased event before records acceptor other wait lawful old known not_acceptor waiting.some at_wait frees
    (number_none other (raised_in event) raises)
    (other_call (meeting_in event) (suspended_at records other) call meets
    (elsewhere before records other caller call old known not_caller calling.some at_call)))

-- an event that ends one task at most, or none, and touches nobody else
pub record TouchesOne (event : Event) (before : List Event) (task : ℕ) : Type 0 where
  pub holds : held_in event ≡ None
  pub raises : raised_in event ≡ None
  pub frees : released_in event ≡ None
  pub meets : meeting_in event ≡ None
  pub makes : creation_in event ≡ None
  pub ends : (other : ℕ) → other ≢ task → ends event before other ≡ false
  pub stage : (other : ℕ) (kept : Stage) → other ≢ task → stage_after event before other kept ≡ kept

-- the records after an event that touches one task
pub records_one : (event : Event) (before : List Event) (records : List Record) (task : ℕ) (now : Record) → IsLawful (event ∷ before)
    → AreRecords records before → TouchesOne event before task → task < length records → IsRecordOf (event ∷ before) task now
    → AreRecords (set records task now) (event ∷ before)
records_one event before records task now lawful old only within right =
    one_changed event before records task now only.makes old within right
    (λ other known differs.
    untouched event before other (record_at records other) lawful (old.each other known)
    (record {
      holds = number_none other (held_in event) only.holds;
      raises = number_none other (raised_in event) only.raises;
      frees = number_none (suspended_at records other) (released_in event) only.frees;
      meets = no_meeting event (suspended_at records other) only.meets;
      ends = only.ends other differs;
    })
    (only.stage other (record_at records other).stage differs) (same_creation event before other only.makes))

-- the records after an event that ends one task
pub records_end : (event : Event) (before : List Event) (records : List Record) (task : ℕ) (now : Record) → IsLawful (event ∷ before)
    → AreRecords records before → TouchesOne event before task → task < length records → ends event before task ≡ true
    → now ≡ record (record_at records task) {
      suspension = freed (record_at records task).suspension.outcome;
      stage = stage_after event before task (record_at records task).stage;
    }
    → AreRecords (set records task now) (event ∷ before)
records_end event before records task now lawful old only within ended is =
    records_one event before records task now lawful old only within
    (subst (IsRecordOf (event ∷ before) task) (sym is) (record {
      suspension = suspension_ended event before task (record_at records task).suspension lawful (old.each task within).suspension ended;
      stage = stage_more event before task (record_at records task).stage (old.each task within).stage;
      created = created_kept event before task (record_at records task).created only.makes (old.each task within).created;
    }))
