-- Changing the counts along a way outwards, a task at a time.
use Rattle.std.proofs.Common.{◌≡◌, ◌≢◌, ℕ, zero, suc, ◌<◌, Bool, true, false, not, ◌||◌, ◌&&◌, List, [], ◌∷◌, length, get_or, set, Some, None, refl, ap, sym}
use Rattle.std.proofs.Common.{◌∙◌, arith, inl, inr}
use Rattle.std.specs.Prelude.{◌==◌, if◌then◌else◌}
use Rattle.std.proofs.lemmas.Bool.{cases_Bool, cases_eq, eq-eqb, ne_eqb, or_left, or_right, and_from, false_from_ne_true}
use Rattle.std.proofs.lemmas.List.{map-set, length-map, get_or-set_same, get_or-set_other, set-get_or, get_or_default}
use Rattle.ada_events.specs.declared.names.TaskNo.{TaskNo}
use Rattle.ada_events.specs.declared.names.Master.{Master}
use Rattle.ada_events.specs.declared.names.Master.TheVariants.{Body, Block}
use Rattle.ada_events.specs.declared.names.Member.{Member}
use Rattle.ada_tables.specs.declared.task.Task.{Task}
use Rattle.ada_tables.specs.declared.change.Change.{Change}
use Rattle.ada_tables.specs.internal.Changes.{changed}
use Rattle.ada_tables.specs.Layers.{members}
use Rattle.ada_tables.specs.internal.Layers.{live_at}
use Rattle.ada_events.specs.Holders.{has_block, holds, encloses}
use Rattle.ada_tables.specs.Dependents.{Facts, nobody, task_at, reaches, depends_on}
use Rattle.ada_tables.specs.Counts.{facts_of, facts, first_slots}
use Rattle.ada_tables.specs.internal.Counts.{no_record, record_at, recounted, ChangesAlong, StandAlone, IsLed}
use Rattle.ada_tables.proofs.Nests.{members-moved_to, live_at-moved_to}
use Rattle.ada_tables.proofs.Reaching.{reaches_none, passes_holds, reached_held, body_below, Leads, leads}

-- what is known of a task is read of its record
pub facts_at : (tasks : List Task) (task : ℕ) → task_at (facts tasks) task ≡ facts_of (record_at tasks task)
facts_at [] task = refl
facts_at (first ∷ rest) zero = refl
facts_at (first ∷ rest) (suc task) = facts_at rest task

pub master_read : (tasks : List Task) (task : ℕ) (d : Task) → task < length tasks → (task_at (facts tasks) task).master ≡ (get_or tasks task d).master
master_read tasks task d low = ap (λ (f : Facts). f.master) (facts_at tasks task) ∙ ap (λ (t : Task). t.master) (get_or_default tasks task no_record d low)

pub facts_counted : (change : Change) (from : Master) (task : Task) → facts_of (recounted change from task) ≡ facts_of task
facts_counted change (Body t) task = refl
facts_counted change (Block block) task =
    ap (λ (ms : List Member). let f : Facts = record { master = task.master; families = task.families; nest = ms; phase = task.phase } in f)
    (members-moved_to (changed change) block task.nest)

-- a record written with the same facts changes none
pub facts-set : (tasks : List Task) (task : ℕ) (new : Task) → facts_of new ≡ facts_of (record_at tasks task) → facts (set tasks task new) ≡ facts tasks
facts-set tasks task new same =
    map-set facts_of tasks task new
    ∙ ap (set (facts tasks) task) (same ∙ sym (facts_at tasks task))
    ∙ set-get_or (facts tasks) task nobody

pub first_slot_at : (tasks : List Task) (task : ℕ) → get_or (first_slots tasks) task 0 ≡ (record_at tasks task).first_slot
first_slot_at [] task = refl
first_slot_at (first ∷ rest) zero = refl
first_slot_at (first ∷ rest) (suc task) = first_slot_at rest task

-- a record written with the same first slot changes none
pub first_slots-set : (tasks : List Task) (task : ℕ) (new : Task) → new.first_slot ≡ (record_at tasks task).first_slot
    → first_slots (set tasks task new) ≡ first_slots tasks
first_slots-set tasks task new same =
    map-set (λ (t : Task). t.first_slot) tasks task new
    ∙ ap (set (first_slots tasks) task) (same ∙ sym (first_slot_at tasks task))
    ∙ set-get_or (first_slots tasks) task 0

first_slot_counted : (change : Change) (from : Master) (task : Task) → (recounted change from task).first_slot ≡ task.first_slot
first_slot_counted change (Body t) task = refl
first_slot_counted change (Block block) task = refl

pub along_begins : (change : Change) (tasks : List Task) (passed : Master → Bool) → ChangesAlong change tasks tasks passed passed
along_begins change tasks passed =
    record {
      same = refl;
      holders = λ task. refl;
      firsts = refl;
      bodies = λ task low. rw (never (passed (Body (record { 0 = task })))) refl;
      blocks = λ task block low has. rw (never (passed (Block block))) refl;
      within = λ master is. is;
    }
  where
    never : (b : Bool) → (b && not b) ≡ false
    never true = refl
    never false = refl

-- the masters left to pass are told in another way
pub along_same : (change : Change) (old new : List Task) (passed left other : Master → Bool) → ((master : Master) → other master ≡ left master)
    → ChangesAlong change old new passed left → ChangesAlong change old new passed other
along_same change old new passed left other same along =
    record {
      same = along.same;
      holders = along.holders;
      firsts = along.firsts;
      bodies = λ task low. rw (same (Body (record { 0 = task }))) (along.bodies task low);
      blocks = λ task block low has. rw (same (Block block)) (along.blocks task block low has);
      within = λ master is. along.within master (rw same at is);
    }

-- a body is among the masters of its task, outside all others
encloses_body : (task : ℕ) (nest : List Member) (from : Master) (t : TaskNo) → encloses task nest from (Body t) ≡ (t.0 == task)
encloses_body task nest (Body u) t = refl
encloses_body task nest (Block block) t = refl

live_counted : (change : Change) (from : Master) (task : Task) → (recounted change from task).live ≡ changed change task.live
live_counted change (Body t) task = refl
live_counted change (Block block) task = refl

holder_counted : (change : Change) (from : Master) (task : Task) → (recounted change from task).holder ≡ task.holder
holder_counted change (Body t) task = refl
holder_counted change (Block block) task = refl

live_at-counted : (change : Change) (from : Master) (number block : ℕ) (task : Task) → has_block block (members task.nest) ≡ true
    → live_at block (recounted change from task).nest
    ≡ (if encloses number (members task.nest) from (Block block) then changed change (live_at block task.nest) else live_at block task.nest)
live_at-counted change (Body t) number block task has = refl
live_at-counted change (Block inner) number block task has = live_at-moved_to (changed change) inner block task.nest has

-- a count that is changed here, and not later
counted_here : (count : ℕ → ℕ) (passed left later : Bool) (new now old : ℕ) → left ≡ true → later ≡ false → (left ≡ true → passed ≡ true)
    → now ≡ (if passed && not left then count old else old) → new ≡ count now → new ≡ (if passed && not later then count old else old)
counted_here count passed left later new now old is none within was changes =
    let all = within is in
    let same : now ≡ old = was ∙ rw (all, is) refl in
    changes ∙ ap count same ∙ rw (all, none) refl

counted_elsewhere : (count : ℕ → ℕ) (passed left later : Bool) (new now old : ℕ) → left ≡ later → now ≡ (if passed && not left then count old else old)
    → new ≡ now → new ≡ (if passed && not later then count old else old)
counted_elsewhere count passed left later new now old same was stays = stays ∙ was ∙ ap (λ b. if passed && not b then count old else old) same

module _ (change : Change) (old now : List Task) (passed : Master → Bool) (at : ℕ) (from : Master) (single : StandAlone (facts old)) (within : at < length old)
    (long : length now ≡ length old) (held : holds at (task_at (facts old) at).nest from ≡ true) (left : Master → Bool)
    (left_is : (to : Master) → left to ≡ (encloses at (task_at (facts old) at).nest from to || depends_on (facts old) at to))
    (along : ChangesAlong change old now passed left) where
  abbrev here : Facts
  here = task_at (facts old) at

  read_is : facts_of (record_at now at) ≡ here
  read_is = sym (facts_at now at) ∙ ap (λ fs. task_at fs at) along.same

  many : length (facts old) ≡ length old
  many = length-map old facts_of

  -- no block of this nest is passed later
  block_later : (block : ℕ) → has_block block here.nest ≡ true → depends_on (facts old) at (Block block) ≡ false
  block_later block has =
      false_from_ne_true _ (λ reached.
      let found = reached_held (facts old) at here.master (Block block) reached in
      let same = single.alone at found.0 block (omega (arith, many)) (omega (arith, many, found.1)) has found.2 in
      absurd (omega (arith, found.1)))

  -- no block of another nest is passed here
  block_here : (task block : ℕ) → task < length old → task ≢ at → has_block block (task_at (facts old) task).nest ≡ true
      → encloses at here.nest from (Block block) ≡ false
  block_here task block low differs has =
      false_from_ne_true _ (λ passing. differs (single.alone task at block (omega (arith, many)) (omega (arith, many)) has
      (passes_holds at here (Some from) (Block block) (and_from _ _ held passing))))

  bodies_now : (task : ℕ) → task < length old → (record_at (set now at (recounted change from (record_at now at))) task).live
      ≡ (if passed (Body (record { 0 = task })) && not (depends_on (facts old) at (Body (record { 0 = task }))) then changed change (record_at old task).live
      else (record_at old task).live)
  bodies_now task low =
      elim (cases_eq task at) [
        | inl same ↦
            let none : depends_on (facts old) at (Body (record { 0 = task }))
            ≡ false = body_below (facts old) at here.master (record { 0 = task }) (omega arith) in
            counted_here (changed change) (passed (Body (record { 0 = task }))) (left (Body (record { 0 = task }))) _ _ (record_at now task).live _
            (left_is (Body (record { 0 = task })) ∙ or_left _ _ (encloses_body at here.nest from (record { 0 = task }) ∙ eq-eqb task at same))
            none (along.within (Body (record { 0 = task }))) (along.bodies task low)
            (rw same (ap (λ (t : Task). t.live) (get_or-set_same now at (recounted change from (record_at now at)) no_record (omega arith))
            ∙ live_counted change from (record_at now at)))
        | inr differs ↦
            counted_elsewhere (changed change) (passed (Body (record { 0 = task }))) (left (Body (record { 0 = task }))) _ _ (record_at now task).live _
            (left_is (Body (record { 0 = task })) ∙ ap (λ b. b || depends_on (facts old) at (Body (record { 0 = task })))
            (encloses_body at here.nest from (record { 0 = task }) ∙ ne_eqb task at differs))
            (along.bodies task low)
            (ap (λ (t : Task). t.live) (get_or-set_other now at task (recounted change from (record_at now at)) no_record differs))
      ]

  blocks_now : (task block : ℕ) → task < length old → has_block block (task_at (facts old) task).nest ≡ true
      → live_at block (record_at (set now at (recounted change from (record_at now at))) task).nest
      ≡ (if passed (Block block) && not (depends_on (facts old) at (Block block)) then changed change (live_at block (record_at old task).nest)
      else live_at block (record_at old task).nest)
  blocks_now task block low has =
      elim (cases_eq task at) [
        | inl same ↦ here_now same
        | inr differs ↦
            counted_elsewhere (changed change) (passed (Block block)) (left (Block block)) _ _ (live_at block (record_at now task).nest) _
            (left_is (Block block) ∙ ap (λ b. b || depends_on (facts old) at (Block block)) (block_here task block low differs has))
            (along.blocks task block low has)
            (ap (λ (t : Task). live_at block t.nest) (get_or-set_other now at task (recounted change from (record_at now at)) no_record differs))
      ]
    where
      here_now : task ≡ at → live_at block (record_at (set now at (recounted change from (record_at now at))) task).nest
          ≡ (if passed (Block block) && not (depends_on (facts old) at (Block block)) then changed change (live_at block (record_at old task).nest)
          else live_at block (record_at old task).nest)
      here_now same =
          let stands : has_block block here.nest ≡ true = rw same at has in
          let read : has_block block (members (record_at now at).nest) ≡ true = ap (λ (f : Facts). has_block block f.nest) read_is ∙ stands in
          let none = block_later block stands in
          let written = ap (λ (t : Task). live_at block t.nest) (get_or-set_same now at (recounted change from (record_at now at)) no_record (omega arith))
          ∙ live_at-counted change from at block (record_at now at) read in
          let within_nest : encloses at (members (record_at now at).nest) from (Block block)
          ≡ encloses at here.nest from (Block block) = ap (λ (f : Facts). encloses at f.nest from (Block block)) read_is in
          let was = rw same at (along.blocks task block low has) in
          rw same (elim (cases_Bool (encloses at here.nest from (Block block))) [
            | inl inside ↦
                counted_here (changed change) (passed (Block block)) (left (Block block)) _ _ (live_at block (record_at now at).nest) _
                (left_is (Block block) ∙ or_left _ _ inside)
                none (along.within (Block block)) was
                (written ∙ rw (within_nest, inside) refl)
            | inr outside ↦
                counted_elsewhere (changed change) (passed (Block block)) (left (Block block)) _ _ (live_at block (record_at now at).nest) _
                (left_is (Block block) ∙ ap (λ b. b || depends_on (facts old) at (Block block)) outside)
                was
                (written ∙ rw (within_nest, outside) refl)
          ])

  holders_now : (task : ℕ) → (record_at (set now at (recounted change from (record_at now at))) task).holder ≡ (record_at old task).holder
  holders_now task =
      elim (cases_eq task at) [
        | inl same ↦ rw same (ap (λ (t : Task). t.holder) (get_or-set_same now at (recounted change from (record_at now at)) no_record (omega arith))
            ∙ holder_counted change from (record_at now at))
        | inr differs ↦ ap (λ (t : Task). t.holder) (get_or-set_other now at task (recounted change from (record_at now at)) no_record differs)
      ] ∙ along.holders task

  pub along_held : ChangesAlong change old (set now at (recounted change from (record_at now at))) passed (depends_on (facts old) at)
  along_held =
      record {
        same = facts-set now at (recounted change from (record_at now at)) (facts_counted change from (record_at now at)) ∙ along.same;
        holders = holders_now;
        firsts = first_slots-set now at (recounted change from (record_at now at)) (first_slot_counted change from (record_at now at)) ∙ along.firsts;
        bodies = bodies_now;
        blocks = blocks_now;
        within = λ master is. along.within master (left_is master ∙ or_right _ _ is);
      }

-- the counts of the masters that one task depends on are changed, but for those that a task on the way does
pub record IsUnderWay (change : Change) (old now : List Task) (passed : Master → Bool) (number : ℕ) : Type 0 where
  pub within : number < length old
  pub along : ChangesAlong change old now passed (depends_on (facts old) number)
  pub led : IsLed old number

module _ (change : Change) (old now : List Task) (passed : Master → Bool) (number : ℕ) (so_far : IsUnderWay change old now passed number) where
  long_now : length now ≡ length old
  long_now = sym (length-map now facts_of) ∙ ap (λ fs. length fs) so_far.along.same ∙ length-map old facts_of

  master_is : (d : Task) → (task_at (facts old) number).master ≡ (get_or now number d).master
  master_is d = ap (λ fs. (task_at fs number).master) (sym so_far.along.same) ∙ master_read now number d (omega (arith, so_far.within, long_now))

  holder_is : (d : Task) → (record_at old number).holder ≡ (get_or now number d).holder
  holder_is d = sym (so_far.along.holders number) ∙ ap (λ (t : Task). t.holder) (get_or_default now number no_record d (omega (arith, so_far.within, long_now)))

  -- the way goes by the next holder
  pub next_leads : (master : Master) (d e : Task) → (get_or now number d).master ≡ Some master → Leads old number master (get_or now number e).holder
  next_leads master d e is = leads old number master (get_or now number e).holder (rw (master_is d ∙ is, holder_is e) at so_far.led)

  pub next_within : (master : Master) (d e : Task) → (get_or now number d).master ≡ Some master → (get_or now number e).holder < length now
  next_within master d e is = let way = next_leads master d e is in omega (arith, way.low, so_far.within, long_now)

  -- the counts of the next holder are changed
  pub goes_outwards : (master : Master) (d e f written : Task) → StandAlone (facts old) → (get_or now number d).master ≡ Some master
      → written ≡ recounted change master (get_or now (get_or now number e).holder f)
      → IsUnderWay change old (set now (get_or now number e).holder written) passed (get_or now number e).holder
  goes_outwards master d e f written single is written_is =
      let way = next_leads master d e is in
      let low : (get_or now number e).holder < length old = omega (arith, way.low, so_far.within) in
      let written_there : written ≡ recounted change master (record_at now (get_or now number e).holder) = written_is
      ∙ ap (recounted change master) (get_or_default now (get_or now number e).holder f no_record (omega (arith, long_now, low))) in
      record {
        within = low;
        along = rw written_there (along_held change old now passed (get_or now number e).holder master single low long_now way.held
            (depends_on (facts old) number)
            (λ to. ap (λ m. reaches (facts old) number m to) (master_is d ∙ is) ∙ way.way to) so_far.along);
        led = way.on;
      }

  -- the main program was made under none, and depends on none
  pub goes_no_further : (d : Task) → (get_or now number d).master ≡ None → ChangesAlong change old now passed (λ _. false)
  goes_no_further d none =
      along_same change old now passed (depends_on (facts old) number) (λ _. false)
      (λ to. sym (ap (λ m. reaches (facts old) number m to) (master_is d ∙ none) ∙ reaches_none (facts old) number to)) so_far.along
