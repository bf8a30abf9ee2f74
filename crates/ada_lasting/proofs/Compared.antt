-- What is equal by the tests of these types is the same.
use Rattle.std.proofs.Common.{◌≡◌, eqb, true, ◌&&◌, ap}
use Rattle.std.specs.Ordering.{int_eq}
use Rattle.std.specs.Cmp.{signed_Decides}
use Rattle.std.proofs.lemmas.Bool.{and_parts, eqb-true, false≢true}
use Rattle.ada_border.specs.declared.events.PlainEvent.{PlainEvent}
use Rattle.ada_events.specs.declared.names.TaskNo.{TaskNo}
use Rattle.ada_lasting.specs.contracts.requests.LastingMasterPartialEq.TheImpl as LastingMasterPartialEq
use Rattle.ada_lasting.specs.declared.masters.Dependent.{Dependent}
use Rattle.ada_lasting.specs.declared.requests.LastingMaster.{LastingMaster}
use Rattle.ada_lasting.specs.declared.requests.LastingMaster.TheVariants.{Body, Block}
use Rattle.ada_lasting.specs.declared.rows.Row.{Row}

pub same_task : (x y : TaskNo) → eqb x.0 y.0 ≡ true → x ≡ y
same_task x y same = λ i. record { 0 = eqb-true x.0 y.0 same i }

pub same_row : (x y : Row) → (eqb x.lasting y.lasting && eqb x.present y.present) ≡ true → x ≡ y
same_row x y same =
    let both = and_parts (eqb x.lasting y.lasting) (eqb x.present y.present) same in
    λ i. record { lasting = eqb-true x.lasting y.lasting both.0 i; present = eqb-true x.present y.present both.1 i }

same_master : (x y : LastingMaster) → LastingMasterPartialEq.eq-value.it x y ≡ true → x ≡ y
same_master (Body s) (Body t) same = ap Body (eqb-true s t same)
same_master (Body s) (Block t) same = absurd (false≢true same)
same_master (Block s) (Body t) same = absurd (false≢true same)
same_master (Block s) (Block t) same = ap Block (eqb-true s t same)

pub same_dependent : (x y : Dependent) → (eqb x.task y.task && LastingMasterPartialEq.eq-value.it x.master y.master) ≡ true → x ≡ y
same_dependent x y same =
    let both = and_parts (eqb x.task y.task) _ same in
    λ i. record { task = eqb-true x.task y.task both.0 i; master = same_master x.master y.master both.1 i }

pub same_numbers : (x y : PlainEvent)
    → (eqb x.kind y.kind && (eqb x.form y.form && (eqb x.task y.task && (eqb x.callee y.callee && (eqb x.family y.family && (
    int_eq x.index y.index && (eqb x.under_kind y.under_kind && (eqb x.master_kind y.master_kind && (
    eqb x.under y.under && (eqb x.master y.master && (eqb x.call y.call && (eqb x.position y.position && (
    eqb x.number y.number && (eqb x.is_timed y.is_timed && (int_eq x.moment y.moment && (int_eq x.duration y.duration)))))))))))))))) ≡ true
    → x ≡ y
same_numbers x y same =
    let kinds = and_parts (eqb x.kind y.kind) _ same in
    let forms = and_parts (eqb x.form y.form) _ kinds.1 in
    let tasks = and_parts (eqb x.task y.task) _ forms.1 in
    let callees = and_parts (eqb x.callee y.callee) _ tasks.1 in
    let families = and_parts (eqb x.family y.family) _ callees.1 in
    let indexes = and_parts (int_eq x.index y.index) _ families.1 in
    let under_kinds = and_parts (eqb x.under_kind y.under_kind) _ indexes.1 in
    let master_kinds = and_parts (eqb x.master_kind y.master_kind) _ under_kinds.1 in
    let unders = and_parts (eqb x.under y.under) _ master_kinds.1 in
    let masters = and_parts (eqb x.master y.master) _ unders.1 in
    let calls = and_parts (eqb x.call y.call) _ masters.1 in
    let positions = and_parts (eqb x.position y.position) _ calls.1 in
    let numbers = and_parts (eqb x.number y.number) _ positions.1 in
    let timed = and_parts (eqb x.is_timed y.is_timed) _ numbers.1 in
    let moments = and_parts (int_eq x.moment y.moment) _ timed.1 in
    λ i. record {
      kind = eqb-true x.kind y.kind kinds.0 i;
      form = eqb-true x.form y.form forms.0 i;
      task = eqb-true x.task y.task tasks.0 i;
      callee = eqb-true x.callee y.callee callees.0 i;
      family = eqb-true x.family y.family families.0 i;
      index = (signed_Decides x.index y.index).0 indexes.0 i;
      under_kind = eqb-true x.under_kind y.under_kind under_kinds.0 i;
      master_kind = eqb-true x.master_kind y.master_kind master_kinds.0 i;
      under = eqb-true x.under y.under unders.0 i;
      master = eqb-true x.master y.master masters.0 i;
      call = eqb-true x.call y.call calls.0 i;
      position = eqb-true x.position y.position positions.0 i;
      number = eqb-true x.number y.number numbers.0 i;
      is_timed = eqb-true x.is_timed y.is_timed timed.0 i;
      moment = (signed_Decides x.moment y.moment).0 moments.0 i;
      duration = (signed_Decides x.duration y.duration).0 moments.1 i;
    }
