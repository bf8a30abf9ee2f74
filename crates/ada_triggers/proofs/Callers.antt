-- Who is halted when a rendezvous ends or a call fails.
use Rattle.std.proofs.Common.{◌≡◌, ℕ, Bool, true, List, Some, None, sym, ap, ◌∙◌}
use Rattle.std.specs.Option.{option_map, option_and_then}
use Rattle.std.proofs.lemmas.Option.{none-some, same_Some}
use Rattle.ada_events.specs.declared.event.Event.{Event}
use Rattle.ada_events.specs.declared.event.Event.TheVariants.{Ended, Failed}
use Rattle.ada_events.specs.declared.names.TaskNo.{TaskNo}
use Rattle.ada_events.specs.Says.{Call, call_in, call_at}
use Rattle.ada_events.specs.Phases.{is_abnormal}
use Rattle.ada_laws.specs.Calls.{IsCallAt}
use Rattle.ada_step_laws.specs.declared.row.Row.{Row}
use Rattle.ada_step_laws.specs.declared.row.Row.TheVariants.{Halting}
use Rattle.ada_agenda.specs.Keeping.{has_key, Puts, When, AsKey, KeepsUp}
use Rattle.ada_step_laws.specs.Kinds.{OfEnd}
use Rattle.ada_step_laws.specs.Kinds.OfEnd.{halts}
use Rattle.ada_agenda.proofs.Noting.{grows_same, noted}
use Rattle.ada_triggers.specs.internal.Keys.{AsCallerAt}
use Rattle.ada_agenda.specs.Keeping.AsKey.{itself}
use Rattle.ada_agenda.specs.Keeping.When.{holds_so}
use Rattle.ada_triggers.specs.internal.Keys.AsCallerAt.{made}

caller_said : (before : List Event) (at : ℕ) (c : Call) → IsCallAt before c at → option_map (λ (c : Call). c.by) (call_at before at) ≡ Some c.by
caller_said before at c stands = ap (option_map (λ (c : Call). c.by)) (ap (option_and_then call_in) stands.stands ∙ stands.says)

caller_key : (before : List Event) (new : List (List ℕ)) (at caller : ℕ) (row : Row) (key : ℕ)
    → option_map (λ (c : Call). c.by) (call_at before at) ≡ Some caller
    → (is_abnormal before caller ≡ true → has_key new Halting caller ≡ true) → AsCallerAt before at row key → has_key new row key ≡ true
caller_key before new at caller row key is here (made c stands abnormal) =
    let same = same_Some c.by caller (sym (caller_said before at c stands) ∙ is) in
    ap (has_key new Halting) same ∙ here (ap (is_abnormal before) (sym same) ∙ abnormal)

pub caller_put : (before : List Event) (old new : List (List ℕ)) (at caller : ℕ) (so : Bool)
    → option_map (λ (c : Call). c.by) (call_at before at) ≡ Some caller → so ≡ is_abnormal before caller
    → Puts old new (When so (AsKey Halting caller)) → Puts old new (AsCallerAt before at)
caller_put before old new at caller so is told puts = record {
  grows = puts.grows;
  here = λ row key of.
      caller_key before new at caller row key is (λ abnormal. puts.here Halting caller (holds_so (told ∙ abnormal) itself)) of;
}

no_caller_key : (before : List Event) (new : List (List ℕ)) (at : ℕ) (row : Row) (key : ℕ) → option_map (λ (c : Call). c.by) (call_at before at) ≡ None
    → AsCallerAt before at row key → has_key new row key ≡ true
no_caller_key before new at row key none (made c stands abnormal) = absurd (none-some c.by (sym none ∙ caller_said before at c stands))

pub no_caller : (before : List Event) (old : List (List ℕ)) (at : ℕ) → option_map (λ (c : Call). c.by) (call_at before at) ≡ None
    → Puts old old (AsCallerAt before at)
no_caller before old at none = record { grows = grows_same old; here = λ row key of. no_caller_key before old at row key none of }

end_key : (before : List Event) (call : ℕ) (row : Row) (key : ℕ) → OfEnd before call row key → AsCallerAt before call row key
end_key before call row key (halts c stands abnormal) = made c stands abnormal

pub end_noted : (before : List Event) (old new : List (List ℕ)) (by : TaskNo) (call : ℕ) (raised : Bool) → Puts old new (AsCallerAt before call)
    → KeepsUp before (Ended by call raised) old new
end_noted before old new by call raised puts lawful agenda =
    noted (Ended by call raised) before old new (AsCallerAt before call) lawful agenda puts (end_key before call)

pub failure_noted : (before : List Event) (old new : List (List ℕ)) (call : ℕ) → Puts old new (AsCallerAt before call)
    → KeepsUp before (Failed call) old new
failure_noted before old new call puts lawful agenda =
    noted (Failed call) before old new (AsCallerAt before call) lawful agenda puts (end_key before call)
