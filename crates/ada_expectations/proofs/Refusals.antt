-- The refused lines of one line more.
use Rattle.std.proofs.Common.{◌≡◌, ℕ, zero, suc, ◌+◌, Option, Some, List, [], ◌∷◌, ◌++◌, take, slice_get, refl, sym, ap, ◌∙◌, arith}
use Rattle.std.proofs.lemmas.Option.{none-some, same_Some}
use Rattle.ada_script.specs.declared.script.Line.{Line}
use Rattle.ada_replay.specs.declared.answer.Answer.{Answer}
use Rattle.ada_replay.specs.declared.answer.Answer.TheVariants.{Group, Refused, Shown}
use Rattle.ada_expectations.specs.declared.judging.RefusedLine.{RefusedLine}
use Rattle.ada_expectations.specs.Plays.{refused_in}
use Rattle.ada_expectations.specs.internal.Refusals.{refused_line}

pub no_lines : (answers : List Answer) → refused_in [] answers ≡ []
unfolding refused_in
no_lines answers = refl

-- the line at a place, with its answer
first_line : (line other : Line) (answer : Option Answer) → line ≡ other → refused_line line.line answer ≡ refused_line other.line answer
first_line line other answer same = ap (λ (l : Line). refused_line l.line answer) same

one_more : (lines : List Line) (answers : List Answer) (i : ℕ) (line : Line) → slice_get lines i ≡ Some line
    → refused_in (take (suc i) lines) answers ≡ refused_in (take i lines) answers ++ refused_line line.line (slice_get answers i)
unfolding refused_in
one_more [] answers i line is = absurd (none-some line is)
one_more (other ∷ lines) [] zero line is = refl
one_more (other ∷ lines) [] (suc i) line is = refl
one_more (other ∷ lines) (Refused cause ∷ answers) zero line is = first_line other line (Some (Refused cause)) (same_Some other line is)
one_more (other ∷ lines) (Group first last ∷ answers) zero line is = refl
one_more (other ∷ lines) (Shown value ∷ answers) zero line is = refl
one_more (other ∷ lines) (Refused cause ∷ answers) (suc i) line is =
    ap (λ (rest : List RefusedLine). record { line = other.line; cause = cause } ∷ rest) (one_more lines answers i line is)
one_more (other ∷ lines) (Group first last ∷ answers) (suc i) line is = one_more lines answers i line is
one_more (other ∷ lines) (Shown value ∷ answers) (suc i) line is = one_more lines answers i line is

pub one_line_more : (lines : List Line) (answers : List Answer) (i : ℕ) (line : Line) (answer : Option Answer) (before after : List RefusedLine)
    → slice_get lines i ≡ Some line → answer ≡ slice_get answers i → before ≡ refused_in (take i lines) answers
    → after ≡ before ++ refused_line line.line answer → after ≡ refused_in (take (i + 1) lines) answers
one_line_more lines answers i line answer before after is answered known grows =
    let next : suc i ≡ i + 1 = omega arith in
    rw (grows, known, answered) (sym (one_more lines answers i line is) ∙ ap (λ n. refused_in (take n lines) answers) next)
