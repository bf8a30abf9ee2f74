use Rattle.std.proofs.Common.{◌≡◌, Some, None, true, false, if◌then◌else◌, sym, ap, ◌∙◌}
use Rattle.std.specs.Cmp.Lexicographic.{bytes_decides}
use Rattle.std.specs.List.{list_any}
use Rattle.std.specs.Str.{bytes_eq}
use Rattle.ada_statements.proofs.BoundNames.{among_found, among_passed, among_over}
use Rattle.ada_statements.proofs.names.found_in.Goals as goal

pub returns-then-is : goal.returns-then-is
returns-then-is c =
    let bytes = c.args.bytes.now in
    let names = c.args.names.now in
    let name = c.name-item.result in
    let same : bytes_eq bytes name ≡ true = sym c.is.ensures ∙ c.if-is.true in
    let among : list_any (bytes_eq bytes) names ≡ true =
    sym c.loop-name.invariant ∙ among_found bytes names c.loop-name.name-index name c.loop-name-test.true c.name-item.is same in
    ap Some (sym ((bytes_decides bytes name).0 same)) ∙ sym (ap (λ t. if t then Some bytes else None) among)

pub loop-name-preserved : goal.loop-name-preserved
loop-name-preserved c =
    let bytes = c.args.bytes.now in
    let name = c.name-item.result in
    let differs : bytes_eq bytes name ≡ false = sym c.is.ensures ∙ c.if-is.false in
    among_passed bytes c.args.names.now c.loop-name.name-index name c.loop-name-test.true c.name-item.is differs ∙ c.loop-name.invariant

pub returns : goal.returns
returns c =
    let bytes = c.args.bytes.now in
    sym (ap (λ t. if t then Some bytes else None) (sym c.loop-name.invariant ∙ among_over bytes c.args.names.now c.loop-name.name-index c.loop-name-test.false))
