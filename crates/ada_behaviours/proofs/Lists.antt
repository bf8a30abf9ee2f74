-- Two functions that agree, over a list.
use Rattle.std.proofs.Common.{◌≡◌, Bool, ◌||◌, List, [], ◌∷◌, fold, refl, ap, ◌∙◌}
use Rattle.std.specs.List.{list_any}

pub fold_alike : {A B : Type 0} (one other : B → A → B) (agree : (b : B) (a : A) → one b a ≡ other b a) (first : B) (all : List A)
    → fold one first all ≡ fold other first all
fold_alike one other agree first [] = refl
fold_alike one other agree first (a ∷ all) =
    ap (λ b. fold one b all) (agree first a) ∙ fold_alike one other agree (other first a) all

pub any_alike : {A : Type 0} (one other : A → Bool) (agree : (a : A) → one a ≡ other a) (all : List A) → list_any one all ≡ list_any other all
any_alike one other agree [] = refl
any_alike one other agree (a ∷ all) =
    ap (λ b. b || list_any one all) (agree a) ∙ ap (λ b. other a || b) (any_alike one other agree all)
