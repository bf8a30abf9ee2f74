-- A play that is shown: one more line at the end, and in a loop.
use Rattle.std.proofs.Common.{◌≡◌, ℕ, ◌+◌, ◌<◌, List, [], ◌∷◌, ◌++◌, sym, ap, ◌∙◌, subst, append_assoc, append-nil, length, take, get_or}
use Rattle.std.proofs.lemmas.List.{take_more}
use Rattle.ada_script.specs.declared.script.Line.{Line}
use Rattle.ada_replay.specs.declared.answer.Answer.{Answer}
use Rattle.ada_replay.specs.Answers.{answer_to}
use Rattle.ada_replay.specs.Play.{PlayState, SaysLine}
use Rattle.ada_page.specs.declared.moments.Moment.{Moment}
use Rattle.ada_page.specs.Shows.{IsMoment, Shows}
use Rattle.ada_page.specs.Shows.Shows.{no_more, one_more}

-- one more line at the end
shows-push : (lines : List Line) (line : Line) (old mid new : PlayState) (answers : List Answer) (text said : List ℕ)
    → (moments : List Moment) (last : Moment) → Shows lines old answers text moments mid → SaysLine line mid said new
    → IsMoment (length mid.journal) new.journal last
    → Shows (lines ++ line ∷ []) old (answers ++ answer_to mid line.statement (length new.journal) ∷ []) (text ++ said) (moments ++ last ∷ []) new
shows-push lines line old mid new answers text said moments last no_more says stands =
    subst (λ t. Shows (line ∷ []) old (answer_to mid line.statement (length new.journal) ∷ []) t (last ∷ []) new) (append-nil said)
    (one_more said last says stands no_more)
shows-push lines line old mid new answers text said moments last
    (one_more {line = first} {others = others} {answers = given} {moments = stood} {between = next} {rest = b} a moment first_says first_stands shows)
    says stands =
    subst (λ t. Shows (first ∷ (others ++ line ∷ [])) old
    (answer_to old first.statement (length next.journal) ∷ (given ++ answer_to mid line.statement (length new.journal) ∷ [])) t
    (moment ∷ (stood ++ last ∷ [])) new)
    (sym (append_assoc a b said))
    (one_more a moment first_says first_stands (shows-push others line next mid new given b said stood last shows says stands))

-- the next line, in a loop over the lines
pub shows_grow : (lines : List Line) (i : ℕ) (line : Line) (old mid new : PlayState) (answers more : List Answer) (text longer : List ℕ)
    → (moments grown : List Moment) (answer : Answer) (last : Moment)
    → i < length lines → line ≡ get_or lines i line → Shows (take i lines) old answers text moments mid
    → (said : List ℕ) × (longer ≡ text ++ said) × SaysLine line mid said new
    → answer ≡ answer_to mid line.statement (length new.journal) → IsMoment (length mid.journal) new.journal last
    → more ≡ answers ++ answer ∷ [] → grown ≡ moments ++ last ∷ []
    → Shows (take (i + 1) lines) old more longer grown new
shows_grow lines i line old mid new answers more text longer moments grown answer last below is so_far (said, added, says) answered stands pushed stood =
    subst (λ ls. Shows ls old more longer grown new) (ap (λ l. take i lines ++ l ∷ []) is ∙ sym (take_more lines i line below))
    (subst (λ t. Shows (take i lines ++ line ∷ []) old more t grown new) (sym added)
    (subst (λ a. Shows (take i lines ++ line ∷ []) old a (text ++ said) grown new) (ap (λ a. answers ++ a ∷ []) (sym answered) ∙ sym pushed)
    (subst (λ s. Shows (take i lines ++ line ∷ []) old (answers ++ answer_to mid line.statement (length new.journal) ∷ []) (text ++ said) s new) (sym stood)
    (shows-push (take i lines) line old mid new answers text said moments last so_far says stands))))
