-- What reads and writes do to known bytes, one after another.
use Rattle.std.proofs.Common.{◌≡◌, ◌⊎◌, ℕ, ◌+◌, ◌-◌, ◌≤◌, Option, Some, None, List, ◌++◌, length, take, drop, ap, sym, ◌∙◌, subst, append_assoc, append-nil}
use Rattle.std.proofs.Common.{arith, length-append, length-drop, inl, inr, IfSome}
use Rattle.std.specs.Io.KnownBytes.{Appends, Consumes, IsAtEnd}
use Rattle.ada_replay.specs.Input.{TakesAtMost}
use Rattle.std.proofs.Math.Seq.{take-add}
use Rattle.std.proofs.lemmas.List.{take_all, take-append-le}

-- two writes are one write of both
pub appends_both : (old mid new : Option (List ℕ)) (xs ys : List ℕ) → Appends old mid xs → Appends mid new ys → Appends old new (xs ++ ys)
appends_both None mid new xs ys first second = tt
appends_both (Some us) None new xs ys first second = absurd first
appends_both (Some us) (Some bs) None xs ys first second = absurd second
appends_both (Some us) (Some bs) (Some cs) xs ys first second = second ∙ ap (λ zs. zs ++ ys) first ∙ append_assoc us xs ys

pub appends_more : (old mid new : Option (List ℕ)) (bytes : List ℕ) (n m : ℕ) → Appends old mid (take n bytes)
    → Appends mid new (take m (take (length bytes - n) (drop n bytes))) → Appends old new (take (n + m) bytes)
appends_more old mid new bytes n m first second =
    let rest : take (length bytes - n) (drop n bytes) ≡ drop n bytes = take_all (length bytes - n) (drop n bytes) (omega (arith, length-drop n bytes)) in
    let both : Appends old new (take n bytes ++ take m (drop n bytes)) =
    appends_both old mid new (take n bytes) (take m (drop n bytes)) first (subst (λ bs. Appends mid new (take m bs)) rest second) in
    subst (λ bs. Appends old new bs) (sym (take-add n m bytes)) both

-- what was consumed, up to the end or to a bound, is the input's beginning up to that bound
pub consumed_whole : (old new : Option (List ℕ)) (text : List ℕ) (n : ℕ) → Consumes old new text → length text ≤ n → IsAtEnd new ⊎ (n ≤ length text)
    → IfSome old (λ bytes. text ≡ take n bytes)
consumed_whole None new text n consumed within end = tt
consumed_whole (Some bytes) None text n consumed within end = absurd consumed
consumed_whole (Some bytes) (Some rest) text n consumed within (inl end) =
    sym (ap (take n) (consumed ∙ ap (λ r. text ++ r) end ∙ append-nil text) ∙ take_all n text within)
consumed_whole (Some bytes) (Some rest) text n consumed within (inr full) =
    sym (ap (take n) consumed ∙ take-append-le n text rest full ∙ take_all n text within)

-- what was taken twice was taken at once
consumes_both : (old mid new : Option (List ℕ)) (xs ys : List ℕ) → Consumes old mid xs → Consumes mid new ys → Consumes old new (xs ++ ys)
consumes_both None mid new xs ys first second = tt
consumes_both (Some us) None new xs ys first second = absurd first
consumes_both (Some us) (Some bs) None xs ys first second = absurd second
consumes_both (Some us) (Some bs) (Some cs) xs ys first second = first ∙ ap (λ zs. xs ++ zs) second ∙ sym (append_assoc xs ys cs)

-- a text was taken, and then no more than may still be taken
pub takes_more : (old mid new : Option (List ℕ)) (text : List ℕ) (most len : ℕ) → Consumes old mid text → length text ≡ len → len ≤ most
    → TakesAtMost (most - len) mid new → TakesAtMost most old new
takes_more old mid new text most len consumed is within (bytes, more, few) =
    (text ++ bytes, consumes_both old mid new text bytes consumed more, omega (arith, length-append text bytes, is))
