-- Questions are answered alike.
use Rattle.std.proofs.Common.{◌≡◌, ℕ, Option, Some, None, Result, Ok, Err, List, refl, sym, ap}
use Rattle.std.proofs.lemmas.Option.{none-some, same_Some}
use Rattle.ada_events.specs.declared.event.Event.{Event}
use Rattle.ada_events.specs.declared.names.Entry.{Entry}
use Rattle.ada_events.specs.declared.refusal.Refusal.{Refusal}
use Rattle.ada_events.specs.Calls.{count_of}
use Rattle.ada_events.specs.Refusals.{lacks_family, is_outside}
use Rattle.ada_events.specs.Attributes.{is_finished, count_refusal, own_count}
use Rattle.ada_standing.specs.Renaming.{Renaming}
use Rattle.ada_standing.specs.StandsIn.{StandsIn}
use Rattle.ada_standing.specs.Asking.{AnswerAlike, AnswersAlike}
use Rattle.ada_standing.specs.Laws.{AnsweredAlike}
use Rattle.ada_standing.proofs.alike.Orderly.{IsOrderly}
use Rattle.ada_standing.proofs.alike.Phases.{running_alike, callable_alike}
use Rattle.ada_standing.proofs.alike.Queueing.{queue_alike, count_alike}
use Rattle.ada_standing.proofs.lawful.Orderly.{lawful_orderly}

-- the same families are declared, with the same ranges
pub lacks_alike : (old new : List Event) (names : Renaming) (u v : ℕ) (entry : Entry) → StandsIn old new names → names.task u ≡ Some v
    → lacks_family new v entry ≡ lacks_family old u entry
unfolding lacks_family
lacks_alike old new names u v entry stands named = rw (stands.same u v named).families refl

pub outside_alike : (old new : List Event) (names : Renaming) (u v : ℕ) (entry : Entry) → StandsIn old new names → names.task u ≡ Some v
    → is_outside new v entry ≡ is_outside old u entry
unfolding is_outside
outside_alike old new names u v entry stands named = rw (stands.same u v named).families refl

count_refused_alike : (old new : List Event) (names : Renaming) (u v : ℕ) (entry : Entry) → StandsIn old new names → names.task u ≡ Some v
    → count_refusal new v entry ≡ count_refusal old u entry
unfolding count_refusal
count_refused_alike old new names u v entry stands named =
    let same = stands.same u v named in
    rw (
      same.exists,
      same.existed,
      running_alike old new names u v stands named,
      lacks_alike old new names u v entry stands named,
      outside_alike old new names u v entry stands named,
    ) refl

answers_same : (o p : Option Refusal) (m n : ℕ) → o ≡ p → m ≡ n
    → ◌≡◌ {A = Result ℕ Refusal} (elim o [ None ↦ Ok m | Some refused ↦ Err refused ]) (elim p [ None ↦ Ok n | Some refused ↦ Err refused ])
answers_same None None m n same counts = ap Ok counts
answers_same (Some r) (Some s) m n same counts = ap Err (same_Some r s same)
answers_same None (Some s) m n same counts = absurd (none-some s same)
answers_same (Some r) None m n same counts = absurd (none-some r (sym same))

own_count_alike : (old new : List Event) (names : Renaming) (u v : ℕ) (entry : Entry) → StandsIn old new names → IsOrderly old → IsOrderly new
    → names.task u ≡ Some v → own_count new v entry ≡ own_count old u entry
unfolding own_count
own_count_alike old new names u v entry stands orderly also named =
    answers_same (count_refusal new v entry) (count_refusal old u entry) (count_of new v entry) (count_of old u entry)
    (count_refused_alike old new names u v entry stands named) (sym (count_alike old new names u v entry stands orderly also named))

answer_alike : (old new : List Event) (names : Renaming) (u v : ℕ) → StandsIn old new names → IsOrderly old → IsOrderly new → names.task u ≡ Some v
    → AnswerAlike old new names u v
answer_alike old new names u v stands orderly also named = record {
  terminated = (stands.same u v named).terminated;
  callable = sym (callable_alike old new names u v stands named);
  running = sym (running_alike old new names u v stands named);
  outcome = (stands.same u v named).outcome;
  queue = λ entry. queue_alike old new names u v entry stands orderly also named;
  count = λ entry. sym (count_alike old new names u v entry stands orderly also named);
  count_refused = λ entry. count_refused_alike old new names u v entry stands named;
  own_count = λ entry. own_count_alike old new names u v entry stands orderly also named;
}

pub answers_alike : (old new : List Event) (names : Renaming) → StandsIn old new names → IsOrderly old → IsOrderly new → AnswersAlike old new names
unfolding is_finished
answers_alike old new names stands orderly also = record {
  moments = stands.moments;
  finished = (stands.same 0 0 stands.tasks.main).terminated;
  tasks = λ u v named. answer_alike old new names u v stands orderly also named;
}

pub answered_alike : AnsweredAlike
answered_alike old new names stands lawful lawful_too = answers_alike old new names stands (lawful_orderly old lawful) (lawful_orderly new lawful_too)
