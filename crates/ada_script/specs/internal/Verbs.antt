-- The verbs of the statements, and their words.
use Rattle.std.specs.Prelude.{ℕ, List, [], ◌∷◌, find, Option, codes}
use Rattle.std.specs.Str.{bytes_eq}
use Rattle.ada_script.specs.declared.verb.Verb.{Verb}
use Rattle.ada_script.specs.declared.verb.Verb.TheVariants as verbs

abbrev pub verb_word : Verb → List ℕ
verb_word verbs.Open = codes "open"
verb_word verbs.Create = codes "create"
verb_word verbs.Activate = codes "activate"
verb_word verbs.Up = codes "up"
verb_word verbs.Fail = codes "fail"
verb_word verbs.Call = codes "call"
verb_word verbs.Try = codes "try"
verb_word verbs.Accept = codes "accept"
verb_word verbs.Select = codes "select"
verb_word verbs.End = codes "end"
verb_word verbs.Raise = codes "raise"
verb_word verbs.Close = codes "close"
verb_word verbs.Delay = codes "delay"
verb_word verbs.Complete = codes "complete"
verb_word verbs.Abort = codes "abort"
verb_word verbs.Show = codes "show"

abbrev pub all_verbs : List Verb
all_verbs =
    verbs.Call ∷ verbs.Accept ∷ verbs.End ∷ verbs.Select ∷ verbs.Delay ∷ verbs.Show ∷ verbs.Up ∷ verbs.Create ∷ verbs.Activate ∷ verbs.Try ∷ verbs.Complete
    ∷ verbs.Abort ∷ verbs.Open ∷ verbs.Close ∷ verbs.Fail ∷ verbs.Raise ∷ []

unfoldable pub verb_of : List ℕ → Option Verb
verb_of word = find (λ verb. bytes_eq (verb_word verb) word) all_verbs
