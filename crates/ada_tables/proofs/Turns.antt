-- What each call does to the records of tasks, as a contract sees them.
use Rattle.std.proofs.Common.{◌-◌, ◌≡◌, ◌≢◌, ℕ, ◌+◌, ◌<◌, ◌≤◌, true, false, List, [], ◌∷◌, ◌++◌, length, get_or, set, take, Some, None, refl, ap, sym, ◌∙◌}
use Rattle.std.proofs.Common.{arith}
use Rattle.std.proofs.lemmas.List.{map-set, length-map, get_or-map, get_or_default, map-append}
use Rattle.ada_events.specs.declared.names.Master.{Master}
use Rattle.ada_events.specs.declared.names.Master.TheVariants.{Block}
use Rattle.ada_events.specs.declared.names.Member.{Member}
use Rattle.ada_events.specs.declared.names.Member.TheVariants.{Block as BlockMember, Rendezvous}
use Rattle.ada_tables.specs.declared.task.Task.{Task}
use Rattle.ada_tables.specs.declared.layers.Layer.{Layer}
use Rattle.ada_tables.specs.declared.layers.Layer.TheVariants.{Rendezvous as RendezvousLayer}
use Rattle.ada_tables.specs.declared.phase.Phase.{Phase}
use Rattle.ada_tables.specs.Layers.{members, member_of}
use Rattle.ada_tables.specs.internal.Layers.{layer_of, live_at}
use Rattle.ada_events.specs.Holders.{has_block, holds}
use Rattle.ada_tables.specs.Dependents.{Facts, task_at, depends_on, is_terminated, live_dependents, cut, Known}
use Rattle.ada_tables.specs.Counts.{facts_of, facts, first_slots}
use Rattle.ada_tables.specs.internal.Counts.{no_record, record_at, ChangesAlong, StandAlone, AreCounted, IsLed, is_led}
use Rattle.ada_tables.proofs.Alongs.{facts_at, first_slot_at, first_slots-set}
use Rattle.std.proofs.lemmas.List.{take-append-drop, drop_more, drop_all, take-map, get_or_read}
use Rattle.std.proofs.lemmas.Option.{slice_get-get_or}
use Rattle.std.proofs.Common.{drop}
use Rattle.std.specs.Option.{ForSome}
use Rattle.ada_events.specs.Nests.{innermost}
use Rattle.ada_events.specs.declared.names.Family.{Family}
use Rattle.ada_tables.specs.declared.phase.Phase.TheVariants.{Unstarted, Active, Held, Quittable, Completed, Terminated}
use Rattle.ada_tables.specs.declared.change.Change.TheVariants.{Added, Ended}
use Rattle.ada_tables.specs.Dependents.{with_nest, with_phase, IsFresh, IsIdle, IsOpen, made_facts, parent_within, parent_from}
use Rattle.ada_tables.specs.internal.Layers.{cut_layers}
use Rattle.ada_tables.specs.internal.Counts.{made}
use Rattle.ada_tables.proofs.Nesting.{nest_is, pushed_rendezvous, pushed_block, popped_rendezvous, popped_block, member_of-layer_of}
use Rattle.ada_tables.proofs.Cutting.{cut_rec, cut_layers_is, members-cut_rec, cut_counted}
use Rattle.ada_tables.proofs.Ending.{goes_on, ends}
use Rattle.ada_tables.proofs.Parents.{parent_is}
use Rattle.ada_tables.proofs.Adding.{stand_alone, facts_pushed, pushed_alone, pushed_led, added_counted, open_led, added_main}

abbrev known_of : List Facts → List ℕ → ℕ → Known
known_of tasks firsts room = record { tasks = tasks; firsts = firsts; room = room }

-- a nest that changes in a record changes in what is known
pub facts-with_nest : (tasks : List Task) (task : ℕ) (layers : List Layer)
    → facts (set tasks task (record (record_at tasks task) { nest = layers })) ≡ with_nest task (members layers) (facts tasks)
facts-with_nest tasks task layers =
    map-set facts_of tasks task (record (record_at tasks task) { nest = layers })
    ∙ ap (λ (f : Facts). let g : Facts = record f { nest = members layers } in set (facts tasks) task g) (sym (facts_at tasks task))

pub facts-with_phase : (tasks : List Task) (task : ℕ) (phase : Phase)
    → facts (set tasks task (record (record_at tasks task) { phase = phase })) ≡ with_phase task phase (facts tasks)
facts-with_phase tasks task phase =
    map-set facts_of tasks task (record (record_at tasks task) { phase = phase })
    ∙ ap (λ (f : Facts). let g : Facts = record f { phase = phase } in set (facts tasks) task g) (sym (facts_at tasks task))

-- what follows for the records and for what is known
abbrev pub Holds : List Task → List Facts → List ℕ → Type 0
Holds tasks known firsts = AreCounted tasks × (facts tasks ≡ known) × (first_slots tasks ≡ firsts)

-- a member comes into a nest
pub pushed : (tasks : List Task) (task : ℕ) (read : Task) (nest : List Layer) (member : Member) → AreCounted tasks → task < length tasks
    → read ≡ get_or tasks task read → nest ≡ read.nest ++ layer_of member ∷ [] → IsFresh member (facts tasks)
    → Holds (set tasks task (record read { nest = nest })) (with_nest task ((task_at (facts tasks) task).nest ++ member ∷ []) (facts tasks))
    (first_slots tasks)
pushed tasks task read nest member right within read_is nest_new fresh =
    let there = get_or_read tasks task read within read_is no_record in
    rw (nest_new, there) (
      counted_still member fresh,
      facts-with_nest tasks task ((record_at tasks task).nest ++ layer_of member ∷ [])
          ∙ ap (λ ms. with_nest task ms (facts tasks))
          (map-append member_of (record_at tasks task).nest (layer_of member ∷ [])
          ∙ ap (λ m. members (record_at tasks task).nest ++ m ∷ []) (member_of-layer_of member) ∙ ap (λ ms. ms ++ member ∷ []) (sym (nest_is tasks task))),
      first_slots-set tasks task (record (record_at tasks task) { nest = (record_at tasks task).nest ++ layer_of member ∷ [] }) refl,
    )
  where
    counted_still : (m : Member) → IsFresh m (facts tasks)
        → AreCounted (set tasks task (record (record_at tasks task) { nest = (record_at tasks task).nest ++ layer_of m ∷ [] }))
    counted_still (BlockMember block) free = pushed_block tasks task right within block (λ other low. free other (rw length-map low))
    counted_still (Rendezvous call) free = pushed_rendezvous tasks task right within call

-- a list and its last item
ends_with : {A : Type 0} (xs : List A) (d : A) → 0 < length xs → xs ≡ take (length xs - 1) xs ++ get_or xs (length xs - 1) d ∷ []
ends_with xs d some =
    let past : length xs ≤ length xs - 1 + 1 = omega arith in
    let last : drop (length xs - 1) xs ≡ get_or xs (length xs - 1) d ∷ [] = drop_more xs (length xs - 1) d (omega arith)
    ∙ ap (λ rest. get_or xs (length xs - 1) d ∷ rest) (drop_all (length xs - 1 + 1) xs past) in
    sym (take-append-drop (length xs - 1) xs) ∙ ap (λ rest. take (length xs - 1) xs ++ rest) last

no_layer : Layer
no_layer = RendezvousLayer 0

-- the innermost member leaves a nest
pub popped : (tasks : List Task) (task : ℕ) (read : Task) (nest : List Layer) → AreCounted tasks → task < length tasks → read ≡ get_or tasks task read
    → nest ≡ take (length read.nest - 1) read.nest → 0 < length (task_at (facts tasks) task).nest
    → ForSome (innermost (task_at (facts tasks) task).nest) (IsIdle (facts tasks))
    → Holds (set tasks task (record read { nest = nest }))
    (with_nest task (take (length (task_at (facts tasks) task).nest - 1) (task_at (facts tasks) task).nest) (facts tasks)) (first_slots tasks)
popped tasks task read nest right within read_is nest_new some idle =
    let there = get_or_read tasks task read within read_is no_record in
    rw (nest_new, there) (
      counted_still (member_of last) refl (idle (member_of last) innermost_is),
      facts-with_nest tasks task shorter ∙ ap (λ ms. with_nest task ms (facts tasks)) shorter_is,
      first_slots-set tasks task (record (record_at tasks task) { nest = shorter }) refl,
    )
  where
    old : List Layer
    old = (record_at tasks task).nest

    shorter : List Layer
    shorter = take (length (record_at tasks task).nest - 1) (record_at tasks task).nest

    last : Layer
    last = get_or (record_at tasks task).nest (length (record_at tasks task).nest - 1) no_layer

    long : length (task_at (facts tasks) task).nest ≡ length (record_at tasks task).nest
    long = ap (λ ms. length ms) (nest_is tasks task) ∙ length-map (record_at tasks task).nest member_of

    many : 0 < length (record_at tasks task).nest
    many = omega (arith, long)

    shorter_is : members (take (length (record_at tasks task).nest - 1) (record_at tasks task).nest)
        ≡ take (length (task_at (facts tasks) task).nest - 1) (task_at (facts tasks) task).nest
    shorter_is = sym (take-map member_of (length (record_at tasks task).nest - 1) (record_at tasks task).nest) ∙ rw (long, nest_is tasks task) refl

    innermost_is : innermost (task_at (facts tasks) task).nest ≡ Some (member_of last)
    innermost_is =
        ap innermost (nest_is tasks task)
        ∙ slice_get-get_or (members (record_at tasks task).nest) (length (members (record_at tasks task).nest) - 1) (member_of last)
        (omega (arith, length-map (record_at tasks task).nest member_of, many))
        ∙ ap (λ n. Some (get_or (members (record_at tasks task).nest) (n - 1) (member_of last))) (length-map (record_at tasks task).nest member_of)
        ∙ ap Some (get_or-map member_of (record_at tasks task).nest (length (record_at tasks task).nest - 1) no_layer (member_of last) (omega (arith, many)))

    counted_still : (m : Member) → member_of last ≡ m → IsIdle (facts tasks) m
        → AreCounted (set tasks task (record (record_at tasks task) { nest = take (length (record_at tasks task).nest - 1) (record_at tasks task).nest }))
    counted_still (BlockMember block) is none = popped_block tasks task right within (take (length (record_at tasks task).nest - 1) (record_at tasks task).nest)
        last (ends_with (record_at tasks task).nest no_layer many) block is none
    counted_still (Rendezvous call) is none = popped_rendezvous tasks task right within
        (take (length (record_at tasks task).nest - 1) (record_at tasks task).nest) last (ends_with (record_at tasks task).nest no_layer many) call is

-- a task gets another phase, and doesn't end
pub phased : (tasks : List Task) (task : ℕ) (read : Task) (phase : Phase) → AreCounted tasks → task < length tasks → read ≡ get_or tasks task read
    → is_terminated (task_at (facts tasks) task).phase ≡ false → is_terminated phase ≡ false
    → Holds (set tasks task (record read { phase = phase })) (with_phase task phase (facts tasks)) (first_slots tasks)
phased tasks task read phase right within read_is lives on =
    let there = get_or_read tasks task read within read_is no_record in
    rw there (
      goes_on tasks task phase right within lives on,
      facts-with_phase tasks task phase,
      first_slots-set tasks task (record (record_at tasks task) { phase = phase }) refl,
    )

-- a task ends
pub ended : (tasks lowered : List Task) (task : ℕ) (d : Task) → AreCounted tasks → task < length tasks
    → is_terminated (task_at (facts tasks) task).phase ≡ false → ChangesAlong Ended tasks lowered (depends_on (facts tasks) task) (λ _. false)
    → Holds (set lowered task (record (get_or lowered task d) { phase = Terminated })) (with_phase task Terminated (facts tasks)) (first_slots tasks)
ended tasks lowered task d right within lives along =
    let long : length lowered ≡ length tasks = sym (length-map lowered facts_of) ∙ ap (λ fs. length fs) along.same ∙ length-map tasks facts_of in
    let there : get_or lowered task d ≡ record_at lowered task = get_or_default lowered task d no_record (omega (arith, long)) in
    rw there (
      ends tasks lowered task (depends_on (facts tasks) task) right within lives along (λ master. refl),
      facts-with_phase lowered task Terminated ∙ ap (with_phase task Terminated) along.same,
      first_slots-set lowered task (record (record_at lowered task) { phase = Terminated }) refl ∙ along.firsts,
    )

-- a rendezvous leaves a nest
pub cut_out : (tasks : List Task) (task call : ℕ) (read : Task) (nest : List Layer) → AreCounted tasks → task < length tasks → read ≡ get_or tasks task read
    → nest ≡ cut_layers call read.nest
    → Holds (set tasks task (record read { nest = nest })) (with_nest task (cut call (task_at (facts tasks) task).nest) (facts tasks)) (first_slots tasks)
cut_out tasks task call read nest right within read_is nest_new =
    let there = get_or_read tasks task read within read_is no_record in
    rw (nest_new, there, cut_layers_is call (record_at tasks task).nest) (
      cut_counted tasks task right within call,
      facts-with_nest tasks task (cut_rec call (record_at tasks task).nest)
          ∙ ap (λ ms. with_nest task ms (facts tasks)) (members-cut_rec call (record_at tasks task).nest ∙ ap (cut call) (sym (nest_is tasks task))),
      first_slots-set tasks task (record (record_at tasks task) { nest = cut_rec call (record_at tasks task).nest }) refl,
    )

-- what a contract sees, with other tasks
pub same_known : (room : ℕ) (tasks known : List Facts) (now firsts : List ℕ) → tasks ≡ known → now ≡ firsts
    → known_of tasks now room ≡ known_of known firsts room
same_known room tasks known now firsts same same_firsts = rw (same, same_firsts) refl

-- what is read of a record is known
pub known_of_read : (tasks : List Task) (task : ℕ) (read : Task) → task < length tasks → read ≡ get_or tasks task read
    → task_at (facts tasks) task ≡ facts_of read
known_of_read tasks task read within read_is = facts_at tasks task ∙ ap facts_of (sym (get_or_read tasks task read within read_is no_record))

-- so is its first slot
pub first_slot_read : (tasks : List Task) (task : ℕ) (read : Task) → task < length tasks → read ≡ get_or tasks task read
    → read.first_slot ≡ get_or (first_slots tasks) task 0
first_slot_read tasks task read within read_is =
    ap (λ (t : Task). t.first_slot) (get_or_read tasks task read within read_is no_record) ∙ sym (first_slot_at tasks task)

module _ (tasks : List Task) (holder block : ℕ) (read : Task) (right : AreCounted tasks) (within : holder < length tasks)
    (read_is : read ≡ get_or tasks holder read) (held : has_block block (task_at (facts tasks) holder).nest ≡ true) where
  -- the count of a block is read of its holder
  pub live_read : live_at block read.nest ≡ live_dependents (facts tasks) (Block block)
  live_read = ap (λ (t : Task). live_at block t.nest) (get_or_read tasks holder read within read_is no_record) ∙ right.blocks holder block within held

  -- and so is its parent
  pub parent_read : Some (parent_within holder (members read.nest) block) ≡ parent_from 0 (facts tasks) block
  parent_read =
      ap (λ (f : Facts). Some (parent_within holder f.nest block)) (sym (known_of_read tasks holder read within read_is))
      ∙ parent_is (facts tasks) holder block (stand_alone tasks right) (omega (arith, length-map tasks facts_of)) held

pub not_terminated : (phase : Phase) → phase ≢ Terminated → is_terminated phase ≡ false
not_terminated Unstarted other = refl
not_terminated Active other = refl
not_terminated Held other = refl
not_terminated Quittable other = refl
not_terminated Completed other = refl
not_terminated Terminated other = absurd (other refl)

-- the main program is the first task
pub main_made : (tasks new : List Task) (record_of : Task) (holder first : ℕ) (families : List Family) → AreCounted tasks → facts tasks ≡ []
    → new ≡ tasks ++ record_of ∷ [] → record_of ≡ made None holder first families → AreCounted new
main_made [] new record_of holder first families right none new_is made_is = rw (new_is, made_is) (added_main holder first families right)
main_made (_ ∷ rest) new record_of holder first families right none new_is made_is = absurd (cc)

-- a task is made under an open master
module _ (tasks pushed : List Task) (record_of : Task) (master : Master) (holder first : ℕ) (families : List Family) (right : AreCounted tasks)
    (few : length (facts tasks) < 256) (is_open : IsOpen (facts tasks) master) (low : holder < length tasks)
    (held : holds holder (task_at (facts tasks) holder).nest master ≡ true) (pushed_is : pushed ≡ tasks ++ record_of ∷ [])
    (made_is : record_of ≡ made (Some master) holder first families) where
  room : length tasks < 256
  room = rw length-map at few

  led : is_led tasks (length tasks) (Some master) holder ≡ true
  led = open_led tasks master holder right is_open low held

  all_is : pushed ≡ tasks ++ made (Some master) holder first families ∷ []
  all_is = pushed_is ∙ ap (λ t. tasks ++ t ∷ []) made_is

  pub made_alone : StandAlone (facts pushed)
  made_alone = rw all_is (pushed_alone tasks (Some master) holder first families right)

  pub made_led : (number : ℕ) → number ≡ length tasks → IsLed pushed number
  made_led number number_is = rw (all_is, number_is) (pushed_led tasks (Some master) holder first families right room led)

  pub task_made : (raised : List Task) (number : ℕ) → number ≡ length tasks → ChangesAlong Added pushed raised (depends_on (facts pushed) number) (λ _. false)
      → Holds raised (facts tasks ++ made_facts (Some master) families ∷ []) (first_slots tasks ++ first ∷ [])
  task_made raised number number_is along = (
    added_counted tasks (Some master) holder first families right room led raised (rw (all_is, number_is) at along),
    along.same ∙ ap facts all_is ∙ facts_pushed tasks (Some master) holder first families right,
    along.firsts ∙ ap first_slots all_is ∙ map-append (λ (t : Task). t.first_slot) tasks (made (Some master) holder first families ∷ []),
  )
