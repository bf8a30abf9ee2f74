-- What holds a task up as another holds one up as a third does.
use Rattle.std.proofs.Common.{◌≡◌, ℕ, Option, Some, List, refl, sym, ap, ◌∙◌, subst, is_some}
use Rattle.std.specs.Option.{option_and_then}
use Rattle.std.proofs.lemmas.Option.{same_Some, none-some}
use Rattle.ada_events.specs.declared.event.Event.{Event}
use Rattle.ada_events.specs.Search.{is_some_and}
use Rattle.ada_events.specs.Says.{Call, Start, Wait, call_in, wait_in, delay_in, start_in, closing_in}
use Rattle.ada_events.specs.Waits.{tail_due}
use Rattle.ada_laws.proofs.searching.Searching.{option_and_then-some}
use Rattle.ada_standing.specs.Renaming.{Renaming, chained}
use Rattle.ada_standing.specs.Holds.{IsSameCall, IsSameWait, IsSameStart, IsSameHold, is_same_kind}
use Rattle.ada_standing.specs.StandsIn.{StandsIn}
use Rattle.ada_standing.proofs.alike.Kinds.{AreBoth, AreDueAlike, AreClosesAlike, calls_alike, waits_alike, delays_alike, starts_alike, closes_alike}
use Rattle.ada_standing.proofs.alike.Activating.{done_one}

-- of two things that are said alike the one is known where the other is
other_said : {X : Type 0} (Same : X → X → Type 0) (a b : Option X) (x : X) → AreBoth Same a b → a ≡ Some x → (y : X) × (b ≡ Some y) × Same x y
other_said {X = X} Same a b x (AreBoth.both z y is has same) said = (y, has, subst (λ (w : X). Same w y) (same_Some z x (sym is ∙ said)) same)
other_said Same a b x (AreBoth.neither none also) said = absurd (none-some x (sym none ∙ said))

said_alike : {X : Type 0} (Same : X → X → Type 0) (a b : Option X) → AreBoth Same a b → is_some b ≡ is_some a
said_alike Same a b (AreBoth.both x y is has same) = rw (is, has) refl
said_alike Same a b (AreBoth.neither none also) = rw (none, also) refl

timed_alike : (a b : Option Wait) → AreBoth IsSameWait a b
    → is_some_and b (λ (w : Wait). is_some (tail_due w.tail)) ≡ is_some_and a (λ (w : Wait). is_some (tail_due w.tail))
timed_alike a b (AreBoth.both w v is has same) = rw (is, has, same.tail) refl
timed_alike a b (AreBoth.neither none also) = rw (none, also) refl

-- what is of one kind is held up by what is of one kind
pub kind_alike : (old new : List Event) (names : Renaming) (p q a b : ℕ) (d e f g : Event) → IsSameHold old new names p a d f
    → IsSameHold old new names q b e g → is_same_kind f g ≡ is_same_kind d e
kind_alike old new names p q a b d e f g one other =
    rw (
      said_alike (IsSameCall old new names p a) (call_in d) (call_in f) (calls_alike old new names p a d f one),
      said_alike (IsSameCall old new names q b) (call_in e) (call_in g) (calls_alike old new names q b e g other),
      timed_alike (wait_in d) (wait_in f) (waits_alike old new names p a d f one),
      timed_alike (wait_in e) (wait_in g) (waits_alike old new names q b e g other),
      said_alike AreDueAlike (delay_in d) (delay_in f) (delays_alike old new names p a d f one),
      said_alike AreDueAlike (delay_in e) (delay_in g) (delays_alike old new names q b e g other),
      said_alike (IsSameStart old new names) (start_in d) (start_in f) (starts_alike old new names p a d f one),
      said_alike (IsSameStart old new names) (start_in e) (start_in g) (starts_alike old new names q b e g other),
      said_alike (AreClosesAlike names) (closing_in d) (closing_in f) (closes_alike old new names p a d f one),
      said_alike (AreClosesAlike names) (closing_in e) (closing_in g) (closes_alike old new names q b e g other),
    ) refl

module _ (first second third : List Event) (names more : Renaming) (here : StandsIn first second names) where
  call_chain : (p q r : ℕ) (c d e : Call) → IsSameCall first second names p q c d → IsSameCall second third more q r d e
      → IsSameCall first third (chained names more) p r c e
  call_chain p q r c d e one other = record {
    callee = ap (option_and_then more.task) one.callee ∙ other.callee;
    entry = other.entry ∙ one.entry;
    met = other.met ∙ one.met;
    conditional = λ queued. other.conditional (one.met ∙ queued) ∙ one.conditional queued;
    due = λ queued. other.due (one.met ∙ queued) ∙ one.due queued;
  }

  start_chain : (s r t : Start) → IsSameStart first second names s r → IsSameStart second third more r t
      → IsSameStart first third (chained names more) s t
  start_chain s r t one other = record {
    pending = λ u w named waits.
        let (v, is, has) = option_and_then-some more.task (names.task u) w named in
        other.pending v w has (sym (done_one first second names u v here is) ∙ waits) ∙ one.pending u v is waits;
    failed = other.failed ∙ one.failed;
  }

  pub hold_chain : (p q r : ℕ) (d e f : Event) → IsSameHold first second names p q d e → IsSameHold second third more q r e f
      → IsSameHold first third (chained names more) p r d f
  hold_chain p q r d e f (IsSameHold.call c b is has same) other =
      let (x, says, also) = other_said (IsSameCall second third more q r) (call_in e) (call_in f) b (calls_alike second third more q r e f other) has in
      IsSameHold.call c x is says (call_chain p q r c b x same also)
  hold_chain p q r d e f (IsSameHold.wait w v is has same) other =
      let (x, says, also) = other_said IsSameWait (wait_in e) (wait_in f) v (waits_alike second third more q r e f other) has in
      IsSameHold.wait w x is says
      (record { choices = also.choices ∙ same.choices; tail = also.tail ∙ same.tail; pick = also.pick ∙ same.pick })
  hold_chain p q r d e f (IsSameHold.pause a b is has same) other =
      let (x, says, also) = other_said AreDueAlike (delay_in e) (delay_in f) b (delays_alike second third more q r e f other) has in
      IsSameHold.pause a x is says (also ∙ same)
  hold_chain p q r d e f (IsSameHold.start s t is has same) other =
      let (x, says, also) = other_said (IsSameStart second third more) (start_in e) (start_in f) t (starts_alike second third more q r e f other) has in
      IsSameHold.start s x is says (start_chain s t x same also)
  hold_chain p q r d e f (IsSameHold.close a b is has same) other =
      let (x, says, also) = other_said (AreClosesAlike more) (closing_in e) (closing_in f) b (closes_alike second third more q r e f other) has in
      IsSameHold.close a x is says (ap (option_and_then more.position) same ∙ also)
