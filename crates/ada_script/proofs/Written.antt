-- Alternatives written one after the other are joined.
use Rattle.std.proofs.Common.{◌≡◌, ℕ, Bool, true, false, List, [], ◌∷◌, ◌++◌, map, length, refl, sym, ap, ◌∙◌, append_assoc}
use Rattle.std.specs.Prelude.{codes, ◌==◌}
use Rattle.std.proofs.lemmas.List.{append-nil}
use Rattle.std.proofs.Math.Dec.{eqb-suc-zero}
use Rattle.ada_events.specs.declared.request.Tail.{Tail}
use Rattle.ada_statements.specs.declared.statement.Alternative.{Alternative}
use Rattle.ada_script.specs.Spelling.{choice_words, tail_alternatives, else_words, joined_by_or, select_words}
use Rattle.ada_script.specs.internal.Writing.{or_words, linked_by_or}

joined_linked : (first : List (List ℕ)) (others : List (List (List ℕ))) → joined_by_or (first ∷ others) ≡ first ++ linked_by_or false others
joined_linked first [] = sym (append-nil first)
joined_linked first (second ∷ others) = ap (λ (r : List (List ℕ)). first ++ (codes "or" ∷ r)) (joined_linked second others)

linked_joined : (alternatives : List (List (List ℕ))) → joined_by_or alternatives ≡ linked_by_or true alternatives
linked_joined [] = refl
linked_joined (first ∷ others) = joined_linked first others

linked-append : (is_first : Bool) (xs ys : List (List (List ℕ))) → linked_by_or false (xs ++ ys) ≡ linked_by_or false xs ++ linked_by_or false ys
linked-append is_first [] ys = refl
linked-append is_first (x ∷ xs) ys =
    ap (λ (r : List (List ℕ)). (or_words false ++ x) ++ r) (linked-append is_first xs ys)
    ∙ sym (append_assoc (or_words false ++ x) (linked_by_or false xs) (linked_by_or false ys))

linked_behind : (choices : List Alternative) (tail : List (List (List ℕ)))
    → linked_by_or true (map choice_words choices ++ tail) ≡ linked_by_or true (map choice_words choices) ++ linked_by_or (length choices == 0) tail
linked_behind [] tail = refl
linked_behind (c ∷ cs) tail =
    rw (eqb-suc-zero (length cs)) (ap (λ (r : List (List ℕ)). choice_words c ++ r) (linked-append true (map choice_words cs) tail)
    ∙ sym (append_assoc (choice_words c) (linked_by_or false (map choice_words cs)) (linked_by_or false tail)))

pub select_words-linked : (choices : List Alternative) (tail : Tail)
    → select_words choices tail ≡ linked_by_or true (map choice_words choices)
    ++ (linked_by_or (length choices == 0) (tail_alternatives tail) ++ else_words tail)
select_words-linked choices tail =
    let first = linked_by_or true (map choice_words choices) in
    let second = linked_by_or (length choices == 0) (tail_alternatives tail) in
    ap (λ (r : List (List ℕ)). r ++ else_words tail)
    (linked_joined (map choice_words choices ++ tail_alternatives tail) ∙ linked_behind choices (tail_alternatives tail))
    ∙ append_assoc first second (else_words tail)

-- what was written is a selective wait's alternatives
pub alternatives_written : (before after choices-written : List (List ℕ)) (choices : List Alternative) (tail : Tail) (none : Bool)
    → none ≡ (length choices == 0)
    → choices-written ≡ before ++ linked_by_or true (map choice_words choices)
    → after ≡ choices-written ++ (linked_by_or none (tail_alternatives tail) ++ else_words tail) → after ≡ before ++ select_words choices tail
alternatives_written before after choices-written choices tail none empty first second =
    let rest = linked_by_or (length choices == 0) (tail_alternatives tail) ++ else_words tail in
    second ∙ ap (λ (n : Bool). choices-written ++ (linked_by_or n (tail_alternatives tail) ++ else_words tail)) empty
    ∙ ap (λ (r : List (List ℕ)). r ++ rest) first
    ∙ append_assoc before (linked_by_or true (map choice_words choices)) rest ∙ ap (λ (r : List (List ℕ)). before ++ r) (sym (select_words-linked choices tail))
