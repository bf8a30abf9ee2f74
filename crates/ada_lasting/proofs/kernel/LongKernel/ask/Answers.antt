use Rattle.std.proofs.Common.{◌≡◌, ◌+◌, ◌-◌, Bool, true, List, length, take, sym, ap, ◌∙◌, subst, inr, arith}
use Rattle.std.specs.Prelude.{is_some}
use Rattle.ada_events.specs.declared.event.Event.{Event}
use Rattle.ada_events.specs.declared.request.Request.{Request}
use Rattle.ada_events.specs.Tasks.{task_count}
use Rattle.ada_events.specs.Steps.{IsAccepted, IsRefused as IsRefusedNow}
use Rattle.ada_standing.specs.Asking.{renamed_request}
use Rattle.ada_lasting.specs.declared.failure.NotDone.TheVariants.{GivenUp}
use Rattle.ada_lasting.specs.Naming.{Naming, found, renaming_of, length_of}
use Rattle.ada_lasting.specs.internal.Keeping.{grown_to}
use Rattle.ada_lasting.specs.internal.Mastering.{masters_next}
use Rattle.ada_lasting.specs.Meaning.{meant}
use Rattle.ada_lasting.specs.internal.Nameable.{names_nameable}
use Rattle.ada_lasting.specs.Following.{Long, Follows, IsStepped}
use Rattle.ada_lasting.specs.Refusing.{IsCause}
use Rattle.ada_lasting.specs.internal.Causes.{IsUnnamed}
use Rattle.ada_lasting.specs.internal.Present.{named_next}
use Rattle.ada_lasting.specs.internal.Ended.{ended_in}
use Rattle.ada_lasting.proofs.GivingUp.{names_stay}
use Rattle.ada_lasting.proofs.Noting.{nothing_noted, noted_task}
use Rattle.ada_lasting.proofs.Ends.{earlier_again, one_ends_nobody}
use Rattle.ada_lasting.proofs.Refused.{unnamed_is_cause}
use Rattle.ada_lasting.proofs.Asked.{stepped_by, refused_by, after_longer, until_next}
use Rattle.ada_lasting.proofs.kernel.LongKernel.ask.Goals as goal

-- a task that was given up is named
pub returns-in-Some-clause-err : goal.returns-in-Some-clause-err
returns-in-Some-clause-err c = λ journal follows.
    let r : Request = meant c.args.request in
    subst (λ (k : Long). IsCause journal r k (GivenUp c.in-Some.task)) c.self.view_is
    (noted_task c.self.inside.names r c.in-Some.task (sym c.asked-asked.ensures.noted ∙ c.in-Some.is))

-- the task that it makes gets no name

pub invariant_of-self : goal.invariant_of-self
invariant_of-self c =
    let (journal, follows) = c.self.invariant.3 in
    rw (c.in-Err.ensures.unnamed, c.in-Err.ensures.unchanged) (c.self.invariant.0, c.self.invariant.1, c.self.invariant.2, (journal, follows))

pub returns-in-Err-clause-err : goal.returns-in-Err-clause-err
returns-in-Err-clause-err c = λ journal follows.
    let r : Request = meant c.args.request in
    unnamed_is_cause journal r c.args.self.now c.master-master.result c.master-master.ensures.made c.in-Err.cause
    (subst (λ (k : Long). IsUnnamed c.master-master.result k.names c.in-Err.cause) c.self.view_is c.in-Err.ensures.why)

pub returns-in-Err-clause-unchanged : goal.returns-in-Err-clause-unchanged
returns-in-Err-clause-unchanged c = rw (c.in-Err.ensures.unnamed, c.in-Err.ensures.unchanged) c.self.view_is

-- the present journal answers

pub grow-requires : goal.grow-requires
grow-requires c =
    let longer = after_longer c.self.inside.kernel c.asked-asked.result c.step.new.self c.in-Ok.ensures.ok.after in
    let long : c.len.result ≡ length c.step.new.self = c.len.ensures ∙ ap length c.journal-in-Ok.ensures.events in
    let until = ap (λ (n : Naming). n.until) c.in_default-name_next.ensures.named
    ∙ until_next (is_some c.master-master.result) c.self.inside.names c.tasks.result in
    omega (arith, longer, long, until, c.self.invariant.0)

-- it accepts the request

stepped_now : (c : goal.After-grow) (journal : List Event) → Follows journal c.args.self.now
    → IsStepped journal (meant c.args.request) c.next_position-position.result (record {
      present = c.step.new.self;
      names = c.grow.new.self;
      group = take (length c.step.new.self - c.len-before.result) c.step.new.self;
      masters = c.name_next.new.self;
    })
stepped_now c journal follows =
    let kernel : Long = c.args.self.now in
    let r : Request = meant c.args.request in
    let more : Bool = is_some c.master-master.result in
    let present : c.self.inside.kernel ≡ kernel.present = ap (λ (k : Long). k.present) c.self.view_is in
    let asked : c.asked-asked.result ≡ renamed_request (renaming_of kernel.names) r =
    c.asked-asked.ensures.asked ∙ ap (λ (k : Long). renamed_request (renaming_of k.names) r) c.self.view_is in
    let nameable : names_nameable kernel.names r ≡ true =
    subst (λ (k : Long). names_nameable k.names r ≡ true) c.self.view_is
    (nothing_noted c.self.inside.names r (sym c.asked-asked.ensures.noted ∙ c.in_default.is)) in
    let accepted : IsAccepted kernel.present (renamed_request (renaming_of kernel.names) r) c.in-Ok.field-0 c.step.new.self =
    subst (λ q. IsAccepted kernel.present q c.in-Ok.field-0 c.step.new.self) asked
    (subst (λ (p : List Event). IsAccepted p c.asked-asked.result c.in-Ok.field-0 c.step.new.self) present c.in-Ok.ensures.ok) in
    let long : c.len.result ≡ length c.step.new.self = c.len.ensures ∙ ap length c.journal-in-Ok.ensures.events in
    let number : c.tasks.result ≡ task_count kernel.present = c.tasks.ensures ∙ ap task_count present in
    let named : c.name_next.new.names ≡ named_next more kernel.names (task_count kernel.present) =
    c.in_default-name_next.ensures.named
    ∙ (ap (λ (k : Long). named_next more k.names c.tasks.result) c.self.view_is ∙ ap (named_next more kernel.names) number) in
    let names : c.grow.new.self ≡ grown_to (named_next more kernel.names (task_count kernel.present)) (length c.step.new.self) =
    c.grow.ensures
    ∙ (ap (λ (n : Naming). grown_to n c.len.result) named
    ∙ ap (grown_to (named_next more kernel.names (task_count kernel.present))) long) in
    let masters : c.name_next.new.self ≡ masters_next c.master-master.result kernel.names.made kernel.masters =
    c.in_default-name_next.ensures.added ∙ ap (λ (k : Long). masters_next c.master-master.result k.names.made k.masters) c.self.view_is in
    let before : c.len-before.result ≡ length kernel.present = c.len-before.ensures ∙ (ap length c.journal.ensures.events ∙ ap length present) in
    let next : c.next_position-position.result ≡ length_of kernel.names + 1 =
    c.next_position-position.ensures ∙ ap (λ (k : Long). length_of k.names + 1) c.self.view_is in
    stepped_by journal kernel follows r c.known.ensures nameable c.master-master.result c.master-master.ensures.under c.master-master.ensures.made
    c.in-Ok.field-0 _ c.next_position-position.result accepted names (ap (λ n. take (length c.step.new.self - n) c.step.new.self) before)
    masters next

pub invariant_of-self-in-Ok : goal.invariant_of-self-in-Ok
invariant_of-self-in-Ok c =
    let (journal, follows) = c.self.invariant.3 in
    let longer = after_longer c.self.inside.kernel c.asked-asked.result c.step.new.self c.in-Ok.ensures.ok.after in
    let long : c.len.result ≡ length c.step.new.self = c.len.ensures ∙ ap length c.journal-in-Ok.ensures.events in
    let before : c.len-before.result ≡ length c.self.inside.kernel = c.len-before.ensures ∙ ap length c.journal.ensures.events in
    let now = stepped_now c journal (subst (Follows journal) c.self.view_is follows) in
    let after = c.in-Ok.ensures.ok.after in
    let right : c.take_ended.new.flags ≡ ended_in c.self.inside.kernel = c.take_ended.ensures ∙ c.read_ended-are_read.ensures in (
      sym long ∙ sym (ap (λ (n : Naming). n.until) c.grow.ensures),
      omega (arith, longer, before),
      record {
        before = inr (right ∙ ap ended_in (earlier_again c.self.inside.kernel c.asked-asked.result c.step.new.self c.len-before.result before after));
        one = one_ends_nobody c.self.inside.kernel c.asked-asked.result c.step.new.self c.len-before.result before after;
      },
      (now.grown, now.follows),
    )

pub returns-in-Ok-clause-ok : goal.returns-in-Ok-clause-ok
returns-in-Ok-clause-ok c = λ journal follows. stepped_now c journal follows

pub returns-in-Ok-clause-names : goal.returns-in-Ok-clause-names
returns-in-Ok-clause-names c = λ task v is.
    let more : Bool = is_some c.master-master.result in
    rw (c.grow.ensures, c.in_default-name_next.ensures.named)
    (names_stay more c.self.inside.names c.tasks.result c.len.result task v (ap (λ (k : Long). found k.names.tasks task) c.self.view_is ∙ is))

-- it refuses the request

restored_names : (c : goal.After-named) → c.unname_next.new.names ≡ c.self.inside.names
restored_names c = c.unname_next.ensures.names c.self.inside.names c.tasks.result c.in_default-name_next.ensures.named

restored_masters : (c : goal.After-named) → c.unname_next.new.self ≡ c.self.inside.masters
restored_masters c = c.unname_next.ensures.masters c.self.inside.names.made c.self.inside.masters c.in_default-name_next.ensures.added

pub invariant_of-self-in-Err-step : goal.invariant_of-self-in-Err-step
invariant_of-self-in-Err-step c =
    let (journal, follows) = c.self.invariant.3 in
    rw (c.in-Err-step.ensures.err.unchanged, restored_names c, restored_masters c)
    (c.self.invariant.0, c.self.invariant.1, c.self.invariant.2, (journal, follows))

pub returns-in-Err-step-clause-err : goal.returns-in-Err-step-clause-err
returns-in-Err-step-clause-err c = λ journal follows.
    let kernel : Long = c.args.self.now in
    let r : Request = meant c.args.request in
    let present : c.self.inside.kernel ≡ kernel.present = ap (λ (k : Long). k.present) c.self.view_is in
    let asked : c.asked-asked.result ≡ renamed_request (renaming_of kernel.names) r =
    c.asked-asked.ensures.asked ∙ ap (λ (k : Long). renamed_request (renaming_of k.names) r) c.self.view_is in
    let nameable : names_nameable kernel.names r ≡ true =
    subst (λ (k : Long). names_nameable k.names r ≡ true) c.self.view_is
    (nothing_noted c.self.inside.names r (sym c.asked-asked.ensures.noted ∙ c.in_default.is)) in
    let refused : IsRefusedNow kernel.present (renamed_request (renaming_of kernel.names) r) c.in-Err-step.cause c.step.new.self =
    subst (λ q. IsRefusedNow kernel.present q c.in-Err-step.cause c.step.new.self) asked
    (subst (λ (p : List Event). IsRefusedNow p c.asked-asked.result c.in-Err-step.cause c.step.new.self) present c.in-Err-step.ensures.err) in
    subst (IsCause journal r kernel) (sym c.named.ensures)
    (refused_by journal kernel follows r c.known.ensures nameable c.in-Err-step.cause c.step.new.self refused)

pub returns-in-Err-step-clause-unchanged : goal.returns-in-Err-step-clause-unchanged
returns-in-Err-step-clause-unchanged c =
    rw (c.in-Err-step.ensures.err.unchanged, restored_names c, restored_masters c) c.self.view_is

pub returns-in-Err-step-clause-names : goal.returns-in-Err-step-clause-names
returns-in-Err-step-clause-names c = λ task v is.
    rw (restored_names c) (ap (λ (k : Long). found k.names.tasks task) c.self.view_is ∙ is)
