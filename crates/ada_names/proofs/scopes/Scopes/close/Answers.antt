use Rattle.std.proofs.Common.{◌≡◌, ◌+◌, ◌-◌, ◌≤◌, ◌<◌, List, length, drop, ap, ◌∙◌, arith}
use Rattle.std.proofs.lemmas.List.{drop-drop, length-drop}
use Rattle.ada_names.specs.declared.scopes.Entity.{Entity}
use Rattle.ada_names.proofs.scopes.Scopes.close.Goals as goal

-- how many are left after one less
one_fewer : (left less : List Entity) → less ≡ drop 1 left → length less ≡ length left - 1
one_fewer left less is = ap length is ∙ length-drop 1 left

-- what is left after one less
one_less : (all left less : List Entity) → left ≡ drop (length all - length left) all → length left ≤ length all → 0 < length left → less ≡ drop 1 left
    → less ≡ drop (length all - length less) all
one_less all left less rest fewer some is =
    let fewer_left = one_fewer left less is in
    let count : (length all - length left) + 1 ≡ length all - length less = omega (arith, fewer_left) in
    is ∙ ap (drop 1) rest ∙ drop-drop 1 (length all - length left) all ∙ ap (λ n. drop n all) count

pub names-preserved : goal.names-preserved
names-preserved c =
    let all = c.args.self.now in
    let fewer_left : length c.forget.new.self ≡ length c.names.self - 1 = one_fewer c.names.self c.forget.new.self c.forget.ensures in
    record {
      rest = one_less all c.names.self c.forget.new.self c.names.invariant.rest c.names.invariant.fewer (omega arith) c.forget.ensures;
      fewer = omega (arith, fewer_left);
      enough = omega (arith, fewer_left);
    }

pub returns : goal.returns
returns c =
    let all = c.args.self.now in
    let count : length all - length c.names.self ≡ length all - c.args.first = omega arith in
    c.names.invariant.rest ∙ ap (λ n. drop n all) count
