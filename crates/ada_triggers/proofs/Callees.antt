-- What masters may force on which the callee of a call depends.
use Rattle.std.proofs.Common.{◌≡◌, ℕ, ◌&&◌, not, true, false, List, Some, None, ◌∷◌, length, sym, refl, ap, ◌∙◌, subst, inl, inr}
use Rattle.std.specs.Option.{option_map, option_and_then}
use Rattle.std.proofs.lemmas.Bool.{true≢false, false_from_ne_true, and_parts, not-true}
use Rattle.std.proofs.lemmas.Option.{none-some, same_Some}
use Rattle.ada_events.specs.declared.event.Event.{Event}
use Rattle.ada_events.specs.declared.event.Event.TheVariants.{Halted, Cancelled}
use Rattle.ada_events.specs.declared.names.TaskNo.{TaskNo}
use Rattle.ada_events.specs.declared.names.Master.{Master}
use Rattle.ada_events.specs.Says.{Call, creation_in, call_in, call_at, completed_in}
use Rattle.ada_events.specs.Masters.{depends_on}
use Rattle.ada_events.specs.Phases.{is_terminated, has_ended}
use Rattle.ada_events.specs.Termination.{is_at_open_terminate, is_ready_to_quit, has_empty_queues}
use Rattle.ada_events.specs.Nests.{nest}
use Rattle.ada_events.specs.Lawful.{IsLawful}
use Rattle.ada_laws.specs.Calls.{IsCallAt}
use Rattle.ada_laws.proofs.searching.Growing.{is_terminated-more, has_ended-terminated}
use Rattle.ada_step_laws.specs.Rows.{step_at}
use Rattle.ada_step_laws.specs.declared.row.Row.{Row}
use Rattle.ada_agenda.specs.Keeping.{has_key, Puts, KeepsUp}
use Rattle.ada_agenda.specs.internal.Keeping.{Both}
use Rattle.ada_step_laws.specs.Kinds.{quitting_row, quitting_key, OfCompletion, OfHalt, OfCancellation}
use Rattle.ada_step_laws.specs.Kinds.OfCompletion.{quits as task_quits}
use Rattle.ada_step_laws.specs.Kinds.OfHalt.{completes, quits_block, empties}
use Rattle.ada_step_laws.specs.Kinds.OfCancellation.{quits as quits_with}
use Rattle.ada_step_laws.specs.Held.{IsHeldAt}
use Rattle.ada_agenda.proofs.Noting.{grows_same, held_there, noted_giving}
use Rattle.ada_laws.proofs.within.Owners.{has_contained}
use Rattle.ada_triggers.specs.internal.Keys.{OfFirst, AsBlock, AsCompletion, AsDependent, AsCalleeAt, may_quit}
use Rattle.ada_triggers.specs.internal.Keys.AsMember.{block}
use Rattle.ada_triggers.specs.internal.Keys.AsHolder.{quits}
use Rattle.ada_triggers.specs.internal.Keys.AsDependent.{through}
use Rattle.ada_triggers.specs.internal.Keys.AsCalleeAt.{called}
use Rattle.ada_triggers.proofs.Giving.{quitter, quitter_of}
use Rattle.ada_triggers.proofs.Holding.{block_place}
use Rattle.ada_triggers.proofs.Ends.{dependent_held, completion_key}

-- the callee of a call
callee_is : (before : List Event) (at callee : ℕ) (c : Call) → option_map (λ (c : Call). c.callee) (call_at before at) ≡ Some callee → IsCallAt before c at
    → c.callee ≡ callee
callee_is before at callee c is stands =
    same_Some c.callee callee (sym (ap (option_map (λ (c : Call). c.callee)) (ap (option_and_then call_in) stands.stands ∙ stands.says)) ∙ is)

callee_key : (before : List Event) (new : List (List ℕ)) (at callee : ℕ) (row : Row) (key : ℕ)
    → option_map (λ (c : Call). c.callee) (call_at before at) ≡ Some callee
    → ((row : Row) (key : ℕ) → AsDependent before callee row key → has_key new row key ≡ true) → AsCalleeAt before at row key → has_key new row key ≡ true
callee_key before new at callee row key is here (called c r k stands of) =
    here r k (subst (λ n. AsDependent before n r k) (callee_is before at callee c is stands) of)

pub callee_put : (before : List Event) (old new : List (List ℕ)) (at callee : ℕ) → option_map (λ (c : Call). c.callee) (call_at before at) ≡ Some callee
    → Puts old new (AsDependent before callee) → Puts old new (AsCalleeAt before at)
callee_put before old new at callee is puts =
    record { grows = puts.grows; here = λ row key of. callee_key before new at callee row key is puts.here of }

no_callee_key : (before : List Event) (new : List (List ℕ)) (at : ℕ) (row : Row) (key : ℕ)
    → option_map (λ (c : Call). c.callee) (call_at before at) ≡ None → AsCalleeAt before at row key → has_key new row key ≡ true
no_callee_key before new at row key none (called c r k stands of) =
    absurd (none-some c.callee (sym none ∙ ap (option_map (λ (c : Call). c.callee)) (ap (option_and_then call_in) stands.stands ∙ stands.says)))

pub no_callee : (before : List Event) (old : List (List ℕ)) (at : ℕ) → option_map (λ (c : Call). c.callee) (call_at before at) ≡ None
    → Puts old old (AsCalleeAt before at)
no_callee before old at none = record { grows = grows_same old; here = λ row key of. no_callee_key before old at row key none of }

-- who is ready to quit wasn't terminated before
ready_live : (event : Event) (before : List Event) (u : ℕ) → is_ready_to_quit (event ∷ before) u ≡ true → is_terminated before u ≡ false
unfolding is_ready_to_quit
ready_live event before u ready =
    let both = and_parts (is_at_open_terminate (event ∷ before) u && not (has_ended (event ∷ before) u)) (has_empty_queues (event ∷ before) u) ready in
    let unended : has_ended (event ∷ before) u ≡ false =
    not-true (has_ended (event ∷ before) u) (and_parts (is_at_open_terminate (event ∷ before) u) (not (has_ended (event ∷ before) u)) both.0).1 in
    false_from_ne_true (is_terminated before u) (λ ended.
    true≢false (sym (has_ended-terminated (event ∷ before) u (is_terminated-more event before u ended)) ∙ unended))

-- a master on which a callee depends that becomes ready to quit
quitting_callee : (event : Event) (before : List Event) (at : ℕ) (c : Call) (m : Master) → IsLawful before → IsCallAt before c at
    → is_ready_to_quit (event ∷ before) c.callee ≡ true → depends_on before c.callee m ≡ true → may_quit before m ≡ true
    → AsCalleeAt before at (quitting_row m) (quitting_key m)
quitting_callee event before at c m lawful stands ready depends may =
    let live = ready_live event before c.callee ready in
    let by = dependent_held before c.callee m lawful live depends in
    called c (quitting_row m) (quitting_key m) stands (through by.holder m (quitting_row m) (quitting_key m) live depends by.held (quits m by.held may))

-- a cancellation
cancel_key : (event step : Event) (before : List Event) (call : ℕ) (row : Row) (key : ℕ) → IsLawful before → completed_in event ≡ None
    → step_at (event ∷ before) row key ≡ Some step → OfCancellation event before call row key → AsCalleeAt before call row key
cancel_key event step before call row key lawful none gives (quits_with c m stands ready depends) =
    quitting_callee event before call c m lawful stands ready depends (quitter event step before m none gives)

cancels_nobody : (call : ℕ) → completed_in (Cancelled call) ≡ None
unfolding completed_in
cancels_nobody call = refl

pub cancellation_noted : (before : List Event) (old new : List (List ℕ)) (call : ℕ) → Puts old new (AsCalleeAt before call)
    → KeepsUp before (Cancelled call) old new
cancellation_noted before old new call puts lawful agenda =
    noted_giving (Cancelled call) before old new (AsCalleeAt before call) lawful agenda puts (λ row key step added gives.
    cancel_key (Cancelled call) step before call row key lawful.0 (cancels_nobody call) gives added)

-- all that was put for a halt
abbrev pub HaltKeys : List Event → TaskNo → ℕ → Row → ℕ → Type 0
HaltKeys before task at =
    let blocks = OfFirst (AsBlock (nest before task.0)) (length (nest before task.0)) in
    Both (Both (AsCompletion before task) blocks) (AsCalleeAt before at)

halt_key : (event step : Event) (before : List Event) (task : TaskNo) (at : ℕ) (row : Row) (key : ℕ) → IsLawful before → completed_in event ≡ Some task.0
    → creation_in event ≡ None → IsHeldAt before task.0 at → step_at (event ∷ before) row key ≡ Some step → OfHalt event before task row key
    → HaltKeys before task at row key
halt_key event step before task at row key lawful done makes is gives (completes r k of) =
    inl (inl (completion_key event step before task r k lawful makes gives of))
halt_key event step before task at row key lawful done makes is gives (quits_block p among) =
    let (k, below, here) = block_place (nest before task.0) p (has_contained (nest before task.0) p among.0 among.1 among.2) in
    inl (inr (record { task = k; among = below; of = block p here }))
halt_key event step before task at row key lawful done makes is gives (empties p c m suspended stands ready depends) =
    let there = held_there before task.0 at p lawful is suspended in
    elim (quitter_of event step before task m done gives) [
      | inl own ↦
          inl (inl (completion_key event step before task (quitting_row m) (quitting_key m) lawful makes gives
          (subst (λ (n : Master). OfCompletion before task (quitting_row n) (quitting_key n)) (sym own) task_quits)))
      | inr may ↦ inr (quitting_callee event before at c m lawful (subst (IsCallAt before c) there.1 stands) ready depends may)
    ]

halt_completes : (task : TaskNo) → completed_in (Halted task) ≡ Some task.0
unfolding completed_in
halt_completes task = refl

halts_alone : (task : TaskNo) → creation_in (Halted task) ≡ None
unfolding creation_in
halts_alone task = refl

pub halt_noted : (before : List Event) (old new : List (List ℕ)) (task : TaskNo) (at : ℕ) → IsHeldAt before task.0 at
    → Puts old new (HaltKeys before task at) → KeepsUp before (Halted task) old new
halt_noted before old new task at held puts lawful agenda =
    noted_giving (Halted task) before old new (HaltKeys before task at) lawful agenda puts (λ row key step added gives.
    halt_key (Halted task) step before task at row key lawful.0 (halt_completes task) (halts_alone task) held gives added)
