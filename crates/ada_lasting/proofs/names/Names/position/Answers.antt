use Rattle.std.proofs.Common.{◌^◌, suc, arith}
use Rattle.ada_lasting.proofs.Finding.{rises_wider}
use Rattle.ada_lasting.proofs.names.Names.position.Goals as goal

pub find-requires : goal.find-requires
find-requires c =
    let far = c.self.invariant.5 in
    rw c.deref.ensures.value (rises_wider c.self.inside.places.items 0 (suc c.self.inside.since) (2 ^ 64) c.self.invariant.2 (omega (arith, far)))

pub overflow_cast-result : goal.overflow_cast-result
overflow_cast-result c =
    let within = c.if-later-from.true in
    let most = c.from.ensures in
    let small = c.self.invariant.4 in
    omega (arith, within, most, small)

pub overflow_add-result : goal.overflow_add-result
overflow_add-result c =
    let within = c.if-later-from.true in
    let most = c.from.ensures in
    let small = c.self.invariant.4 in
    let order = c.self.invariant.3 in
    omega (arith, within, most, small, order)
