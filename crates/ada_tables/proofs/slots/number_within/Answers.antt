use Rattle.std.proofs.Common.{arith, sym}
use Rattle.std.proofs.lemmas.List.{length-take-le}
use Rattle.ada_tables.proofs.Numbers.{family_place, entries_before, sum_is}
use Rattle.ada_tables.proofs.slots.number_within.Goals as goal

pub slice_bounds-entries_in-end : goal.slice_bounds-entries_in-end
slice_bounds-entries_in-end c =
    let low = family_place c.args.families.now c.args.entry c.requires.known in
    sym (length-take-le c.from-place.result c.args.families.now (omega (arith, low)))

pub entries_in-requires : goal.entries_in-requires
entries_in-requires c = omega (arith, entries_before c.args.families.now c.from-place.result)

pub bounds-families-place : goal.bounds-families-place
bounds-families-place c = omega (arith, family_place c.args.families.now c.args.entry c.requires.known)

pub overflow_add-result : goal.overflow_add-result
overflow_add-result c =
    omega (
      arith,
      (sum_is c.args.families.now c.args.entry c.from-place.result c.entries_in.result c.offset_in.result _ c.requires.known c.from-place.ensures
          c.entries_in.ensures c.offset_in.ensures).1,
    )

pub returns-clause-value : goal.returns-clause-value
returns-clause-value c =
    (sum_is c.args.families.now c.args.entry c.from-place.result c.entries_in.result c.offset_in.result _ c.requires.known c.from-place.ensures
    c.entries_in.ensures c.offset_in.ensures).0

pub returns-clause-below : goal.returns-clause-below
returns-clause-below c =
    (sum_is c.args.families.now c.args.entry c.from-place.result c.entries_in.result c.offset_in.result _ c.requires.known c.from-place.ensures
    c.entries_in.ensures c.offset_in.ensures).1
