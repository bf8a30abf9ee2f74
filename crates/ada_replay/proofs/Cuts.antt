-- What was written of a play and what is yet to be written, and what was written of it before it was broken off.
use Rattle.std.proofs.Common.{◌≡◌, ℕ, ◌+◌, ◌<◌, ◌≤◌, Option, Some, None, List, [], ◌∷◌, ◌++◌, length, take, drop, get_or, sym, ap, ◌∙◌, subst, append_assoc}
use Rattle.std.proofs.Common.{append-nil, arith, Result, Ok, Err, IfErr, OnOk, inr}
use Rattle.std.specs.Io.KnownBytes.{Appends}
use Rattle.std.proofs.lemmas.List.{take_more, take-append-drop, take_all}
use Rattle.ada_script.specs.declared.script.Line.{Line}
use Rattle.ada_replay.specs.declared.fault.RunFault.{RunFault}
use Rattle.ada_replay.specs.declared.fault.RunFault.TheVariants.{Write}
use Rattle.ada_replay.specs.Play.{PlayState, SaysLine, Plays}
use Rattle.ada_replay.specs.Play.Plays.{no_more}
use Rattle.ada_replay.specs.Ends.{IsShortage, IsWritten, IsCutShort}
use Rattle.ada_replay.proofs.Bytes.{appends_both}
use Rattle.ada_replay.proofs.Playing.{IsAtRest, plays-push, plays-append, lines_play}

pub appends_nothing : (bytes : Option (List ℕ)) → Appends bytes bytes []
appends_nothing None = tt
appends_nothing (Some us) = sym (append-nil us)

-- some lines were played; of what they print some was written, and the text isn't written yet
pub record IsPending (lines : List Line) (old new : PlayState) (before after : Option (List ℕ)) (text : List ℕ) : Type 0 where
  pub written : List ℕ
  pub plays : Plays lines old (written ++ text) new
  pub appended : Appends before after written

-- nothing was played yet
pub nothing_pending : (old : PlayState) (bytes : Option (List ℕ)) → IsPending [] old old bytes bytes []
nothing_pending old bytes = record { written = []; plays = no_more; appended = appends_nothing bytes }

-- one more line was played, and what it says was appended to the text
pub pending_line : (lines : List Line) (i : ℕ) (line : Line) (old mid new : PlayState) (before after : Option (List ℕ)) (text more : List ℕ)
    → i < length lines → line ≡ get_or lines i line → IsPending (take i lines) old mid before after text
    → (said : List ℕ) × (more ≡ text ++ said) × SaysLine line mid said new → IsPending (take (i + 1) lines) old new before after more
pending_line lines i line old mid new before after text more below is so_far (said, grown, says) = record {
  written = so_far.written;
  plays = subst (λ t. Plays (take (i + 1) lines) old t new) (append_assoc so_far.written text said ∙ ap (λ t. so_far.written ++ t) (sym grown))
      (subst (λ ls. Plays ls old ((so_far.written ++ text) ++ said) new) (ap (λ l. take i lines ++ l ∷ []) is ∙ sym (take_more lines i line below))
      (plays-push (take i lines) line old mid new (so_far.written ++ text) said so_far.plays says));
  appended = so_far.appended;
}

-- a piece of the text was written
pub pending_piece : (lines : List Line) (old new : PlayState) (before between after : Option (List ℕ)) (text rest : List ℕ)
    → IsPending lines old new before between text → (piece : List ℕ) × Appends between after piece × (text ≡ piece ++ rest)
    → IsPending lines old new before after rest
pending_piece lines old new before between after text rest so_far (piece, appended, cut) = record {
  written = so_far.written ++ piece;
  plays = subst (λ t. Plays lines old t new) (ap (λ t. so_far.written ++ t) cut ∙ sym (append_assoc so_far.written piece rest)) so_far.plays;
  appended = appends_both before between after so_far.written piece so_far.appended appended;
}

-- the whole text was written
pub pending_written : (lines : List Line) (old new : PlayState) (before between after : Option (List ℕ)) (text : List ℕ)
    → IsPending lines old new before between text → Appends between after text → IsWritten (Plays lines old) before after new
pending_written lines old new before between after text so_far appended = record {
  text = so_far.written ++ text;
  prints = so_far.plays;
  appended = appends_both before between after so_far.written text so_far.appended appended;
}

-- a beginning of the text was written
pub pending_cut : (lines : List Line) (old new : PlayState) (before between after : Option (List ℕ)) (text : List ℕ)
    → IsPending lines old new before between text → (n : ℕ) × Appends between after (take n text) → IsCutShort (Plays lines old) before after
pending_cut lines old new before between after text so_far (n, appended) = record {
  written = so_far.written ++ take n text;
  rest = drop n text;
  new = new;
  prints = subst (λ t. Plays lines old t new)
      (ap (λ t. so_far.written ++ t) (sym (take-append-drop n text)) ∙ sym (append_assoc so_far.written (take n text) (drop n text))) so_far.plays;
  appended = appends_both before between after so_far.written (take n text) so_far.appended appended;
}

-- the play of the first lines was cut short, and so is that of all
cut_more : (lines : List Line) (i : ℕ) (old : PlayState) (before after : Option (List ℕ)) → (cut : IsCutShort (Plays (take i lines) old) before after)
    → IsAtRest cut.new → IsCutShort (Plays lines old) before after
cut_more lines i old before after cut rest =
    let others = lines_play (drop i lines) cut.new rest in
    let whole : Plays lines old ((cut.written ++ cut.rest) ++ others.text) others.new =
    subst (λ ls. Plays ls old ((cut.written ++ cut.rest) ++ others.text) others.new) (take-append-drop i lines)
    (plays-append (take i lines) (drop i lines) old cut.new others.new (cut.written ++ cut.rest) others.text cut.prints others.plays) in
    record {
      written = cut.written;
      rest = cut.rest ++ others.text;
      new = others.new;
      prints = subst (λ t. Plays lines old t others.new) (append_assoc cut.written cut.rest others.text) whole;
      appended = cut.appended;
    }

-- the play was broken off behind its first lines, and a beginning of the text was written
pub lines_cut : (lines : List Line) (i : ℕ) (old mid : PlayState) (before between after : Option (List ℕ)) (text : List ℕ) → IsAtRest mid
    → IsPending (take i lines) old mid before between text → (n : ℕ) × Appends between after (take n text) → IsCutShort (Plays lines old) before after
unfolding pending_cut
lines_cut lines i old mid before between after text rest so_far cut =
    cut_more lines i old before after (pending_cut (take i lines) old mid before between after text so_far cut) rest

-- whether a write succeeds or fails, a beginning of its bytes was written
pub some_written : (text bytes : List ℕ) (before after : Option (List ℕ)) (result : Result (Unit {0}) RunFault) → bytes ≡ text
    → OnOk result (Appends before after bytes) → IfErr result (λ fault. (fault ≡ Write) × (n : ℕ) × Appends before after (take n bytes))
    → (n : ℕ) × Appends before after (take n text)
some_written text bytes before after (Ok done) same all cut =
    (length text, subst (Appends before after) (same ∙ sym (take_all (length text) text (omega arith))) all)
some_written text bytes before after (Err fault) same all (is, n, appended) = (n, subst (λ bs. Appends before after (take n bs)) same appended)

-- the first lines are all lines
pub all_played : (lines : List Line) (i : ℕ) (old new : PlayState) (before after : Option (List ℕ)) (text : List ℕ)
    → length lines ≤ i → IsPending (take i lines) old new before after text → IsPending lines old new before after text
all_played lines i old new before after text full so_far = subst (λ ls. IsPending ls old new before after text) (take_all i lines full) so_far

-- the last write, of all that is left: what was written is the play where it succeeds, and else a beginning
pub play_ends : (lines : List Line) (old new : PlayState) (before between after : Option (List ℕ)) (text bytes : List ℕ) (result : Result (Unit {0}) RunFault)
    → IsPending lines old new before between text → bytes ≡ text → OnOk result (Appends between after bytes)
    → OnOk result (IsWritten (Plays lines old) before after new)
play_ends lines old new before between after text bytes (Ok done) so_far same all =
    pending_written lines old new before between after text so_far (subst (Appends between after) same all)
play_ends lines old new before between after text bytes (Err fault) so_far same all = tt

pub play_is_cut : (lines : List Line) (old new : PlayState) (before between after : Option (List ℕ)) (text bytes : List ℕ) (result : Result (Unit {0}) RunFault)
    → IsPending lines old new before between text → bytes ≡ text
    → IfErr result (λ fault. (fault ≡ Write) × (n : ℕ) × Appends between after (take n bytes))
    → IfErr result (λ fault. IsShortage fault × IsCutShort (Plays lines old) before after)
play_is_cut lines old new before between after text bytes (Ok done) so_far same cut = tt
play_is_cut lines old new before between after text bytes (Err fault) so_far same (is, n, appended) =
    (inr is, pending_cut lines old new before between after text so_far (n, subst (λ bs. Appends between after (take n bs)) same appended))
