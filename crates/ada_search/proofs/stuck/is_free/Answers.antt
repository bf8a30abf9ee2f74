use Rattle.std.proofs.Common.{◌≡◌, ℤ, None, w64, sym, subst, ◌∙◌}
use Rattle.std.proofs.lemmas.Bool.{not-true}
use Rattle.std.proofs.lemmas.Int.{to_z-of_z}
use Rattle.ada_events.specs.declared.request.Request.TheVariants.{Tick}
use Rattle.ada_laws.specs.Unlimited.{refusal_but_limits}
use Rattle.ada_search.proofs.Free.{finished_free, going_free, waiting_free}
use Rattle.ada_search.proofs.stuck.is_free.Goals as goal

pub returns-in-Finished-clause-free : goal.returns-in-Finished-clause-free
returns-in-Finished-clause-free c = λ yes. finished_free c.args.kernel.now (sym c.verdict_in.ensures ∙ c.in-Finished.is)

pub returns-in-GoesOn-clause-free : goal.returns-in-GoesOn-clause-free
returns-in-GoesOn-clause-free c = λ yes. going_free c.args.kernel.now (sym c.verdict_in.ensures ∙ c.in-GoesOn.is)

pub returns-in-WaitsForTick-clause-free : goal.returns-in-WaitsForTick-clause-free
returns-in-WaitsForTick-clause-free c = λ yes.
    let known = c.journal-journal.ensures in
    let until = c.in-WaitsForTick.until in
    let fits = rw c.in-WaitsForTick.is at c.verdict_in.type_inv in
    let unrefused : refusal_but_limits c.args.kernel.now (Tick until) ≡ None
    = subst (λ (n : ℤ). refusal_but_limits c.args.kernel.now (Tick n) ≡ None) (to_z-of_z w64 until (record { sfits = assumption fits }))
    (c.may_tick.ensures yes) in
    waiting_free c.args.kernel.now until known.lawful known.settled
    (not-true _ (sym c.has_room.ensures ∙ c.if-not-has_room.false)) (sym c.verdict_in.ensures ∙ c.in-WaitsForTick.is) unrefused
