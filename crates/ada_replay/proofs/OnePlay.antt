-- Lines have one play.
use Rattle.std.proofs.Common.{◌≡◌, ℕ, Option, Some, None, Result, Ok, Err, List, ◌++◌, length, refl, sym, ap, ◌∙◌, subst, inl, inr}
use Rattle.std.specs.Prelude.{IsOk}
use Rattle.std.proofs.lemmas.Bool.{false≢true}
use Rattle.std.proofs.lemmas.Option.{none-some, same_Some}
use Rattle.ada_events.specs.declared.refusal.Refusal.{Refusal}
use Rattle.ada_events.specs.declared.request.Request.{Request}
use Rattle.ada_laws.proofs.asking.RequestLaws.{leads_to_one_journal}
use Rattle.ada_script.specs.declared.script.Line.{Line}
use Rattle.ada_statements.specs.Binding.{request_of}
use Rattle.ada_printing.specs.declared.value.Value.{Value}
use Rattle.ada_printing.specs.Texts.{refusal_text}
use Rattle.ada_replay.specs.Play.{PlayState, group_text, shown, accepted_text, SaysLine, Plays}
use Rattle.ada_replay.specs.Play.Plays.{no_more, one_more}
use Rattle.ada_replay.proofs.Saying.{AcceptsAsked, RefusesAsked}

state_same : (a b : PlayState) → a.journal ≡ b.journal → a.names ≡ b.names → a ≡ b
state_same a b journals names = ap (λ j. record { journal = j; names = a.names }) journals ∙ ap (λ n. record { journal = b.journal; names = n }) names

-- a line is accepted in one way, refused in one way, and not both

accepted_once : (line : Line) (asked : Option Request) (old a b : PlayState) (text other : List ℕ)
    → AcceptsAsked line.statement old a asked → text ≡ accepted_text line old a asked
    → AcceptsAsked line.statement old b asked → other ≡ accepted_text line old b asked
    → (text ≡ other) × (a ≡ b)
accepted_once line None old a b text other one printed two printed_too = (printed ∙ sym printed_too, one.1 ∙ sym two.1)
accepted_once line (Some request) old a b text other one printed two printed_too =
    let same : a ≡ b = state_same a b (leads_to_one_journal old.journal request a.journal b.journal one.after two.after) (one.bound ∙ sym two.bound) in
    (printed ∙ ap (λ (s : PlayState). group_text s.names (length old.journal) s.journal) same ∙ sym printed_too, same)

ok_not_err : (shown : Result Value Refusal) (cause : Refusal) → IsOk shown → shown ≡ Err cause → ⊥
ok_not_err (Ok value) cause ok refused = cc
ok_not_err (Err other) cause ok refused = false≢true ok

accepted_unrefused : (line : Line) (asked : Option Request) (old new : PlayState) (cause : Refusal)
    → AcceptsAsked line.statement old new asked
    → RefusesAsked line.statement old cause asked → ⊥
accepted_unrefused line None old new cause accepted refused = ok_not_err (shown old.names old.journal line.statement) cause accepted.0 refused
accepted_unrefused line (Some request) old new cause accepted refused = none-some cause (sym accepted.unrefused ∙ refused)

refused_once : (line : Line) (asked : Option Request) (old : PlayState) (one two : Refusal)
    → RefusesAsked line.statement old one asked
    → RefusesAsked line.statement old two asked → one ≡ two
refused_once line None old one two first second = let e = sym first ∙ second in cc
refused_once line (Some request) old one two first second = same_Some one two (sym first ∙ second)

says_once : (line : Line) (old a b : PlayState) (text other : List ℕ) → SaysLine line old text a → SaysLine line old other b → (text ≡ other) × (a ≡ b)
says_once line old a b text other (inl one) (inl two) =
    accepted_once line (request_of old.names line.statement) old a b text other one.0 one.1 two.0 two.1
says_once line old a b text other (inl one) (inr (cause, refused, same, printed)) =
    absurd (accepted_unrefused line (request_of old.names line.statement) old a cause one.0 refused)
says_once line old a b text other (inr (cause, refused, same, printed)) (inl two) =
    absurd (accepted_unrefused line (request_of old.names line.statement) old b cause two.0 refused)
says_once line old a b text other (inr (cause, refused, same, printed)) (inr (cause', refused', same', printed')) =
    let causes : cause ≡ cause' = refused_once line (request_of old.names line.statement) old cause cause' refused refused' in
    (printed ∙ ap (refusal_text line.line) causes ∙ sym printed', same ∙ sym same')

pub plays_once : (lines : List Line) (old a b : PlayState) (text other : List ℕ) → Plays lines old text a → Plays lines old other b → (text ≡ other) × (a ≡ b)
plays_once lines old a b text other no_more no_more = (refl, refl)
plays_once lines old a b text other (one_more {line = line} {others = others} {between = m} {rest = r} s says plays)
    (one_more {between = m'} {rest = r'} s' says' plays') =
    let first = says_once line old m m' s s' says says' in
    let rest = plays_once others m' a b r r' (subst (λ z. Plays others z r a) first.1 plays) plays' in
    (ap (λ z. z ++ r) first.0 ∙ ap (λ z. s' ++ z) rest.0, rest.1)
