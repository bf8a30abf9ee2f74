-- Accounts of some lines: one more at the end, and in a loop.
use Rattle.std.proofs.Common.{◌≡◌, ℕ, ◌+◌, ◌<◌, List, [], ◌∷◌, ◌++◌, sym, ap, ◌∙◌, subst, append_assoc, append-nil, length, take, get_or}
use Rattle.std.proofs.lemmas.List.{take_more}
use Rattle.ada_script.specs.declared.script.Line.{Line}
use Rattle.ada_replay.specs.declared.answer.Answer.{Answer}
use Rattle.ada_replay.specs.Answers.{answer_to}
use Rattle.ada_replay.specs.Play.{PlayState, SaysLine}
use Rattle.ada_replay.specs.Accounts.{Accounts}
use Rattle.ada_replay.specs.Accounts.Accounts.{no_more, one_more}

-- one more line at the end
pub accounts-push : (lines : List Line) (line : Line) (old mid new : PlayState) (answers : List Answer) (text said : List ℕ)
    → Accounts lines old answers text mid → SaysLine line mid said new
    → Accounts (lines ++ line ∷ []) old (answers ++ answer_to mid line.statement (length new.journal) ∷ []) (text ++ said) new
accounts-push lines line old mid new answers text said no_more says =
    subst (λ t. Accounts (line ∷ []) old (answer_to mid line.statement (length new.journal) ∷ []) t new) (append-nil said) (one_more said says no_more)
accounts-push lines line old mid new answers text said
    (one_more {line = first} {others = others} {answers = given} {between = next} {rest = b} a first_says accounts) says =
    subst (λ t. Accounts (first ∷ (others ++ line ∷ [])) old
    (answer_to old first.statement (length next.journal) ∷ (given ++ answer_to mid line.statement (length new.journal) ∷ [])) t new)
    (sym (append_assoc a b said))
    (one_more a first_says (accounts-push others line next mid new given b said accounts says))

-- the next line, in a loop over the lines
pub answers_grow : (lines : List Line) (i : ℕ) (line : Line) (old mid new : PlayState) (answers more : List Answer) (text longer : List ℕ) (answer : Answer)
    → i < length lines → line ≡ get_or lines i line → Accounts (take i lines) old answers text mid
    → (said : List ℕ) × (longer ≡ text ++ said) × SaysLine line mid said new
    → answer ≡ answer_to mid line.statement (length new.journal) → more ≡ answers ++ answer ∷ []
    → Accounts (take (i + 1) lines) old more longer new
answers_grow lines i line old mid new answers more text longer answer below is so_far (said, grown, says) answered pushed =
    subst (λ ls. Accounts ls old more longer new) (ap (λ l. take i lines ++ l ∷ []) is ∙ sym (take_more lines i line below))
    (subst (λ t. Accounts (take i lines ++ line ∷ []) old more t new) (sym grown)
    (subst (λ a. Accounts (take i lines ++ line ∷ []) old a (text ++ said) new) (ap (λ a. answers ++ a ∷ []) (sym answered) ∙ sym pushed)
    (accounts-push (take i lines) line old mid new answers text said so_far says)))
