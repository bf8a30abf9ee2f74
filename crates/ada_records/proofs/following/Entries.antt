-- The entries of a task by number, and that a call names an entry of its callee.
use Rattle.std.proofs.Common.{◌≡◌, ℕ, pos, suc, ◌+◌, ◌-◌, ◌<◌, ◌+ℤ◌, ◌-ℤ◌, Bool, true, false, not, eqb, Option, Some, None, is_none, List, [], ◌∷◌, take, refl}
use Rattle.std.proofs.Common.{sym, ap, ◌∙◌, subst, arith, inl, inr}
use Rattle.std.specs.Prelude.{slice_get, unsigned_abs, if◌then◌else◌}
use Rattle.std.specs.Option.{option_map_or, option_len}
use Rattle.std.specs.Bool.{then_some}
use Rattle.std.proofs.lemmas.Bool.{lt-ltb, le-ltb, cases_lt, ne_eqb, eqb-true}
use Rattle.std.proofs.lemmas.Option.{none-some, same_Some}
use Rattle.ada_events.specs.declared.event.Event.{Event}
use Rattle.ada_events.specs.declared.request.Request.{Request}
use Rattle.ada_events.specs.declared.request.Request.TheVariants as request
use Rattle.ada_events.specs.declared.names.Entry.{Entry}
use Rattle.ada_events.specs.declared.names.Family.{Family}
use Rattle.ada_events.specs.Search.{event_at}
use Rattle.ada_events.specs.Says.{Creation, Call, creation_in, call_in}
use Rattle.ada_events.specs.Entries.{is_in_range, entry_count, entries_in}
use Rattle.ada_events.specs.Tasks.{task_count, creation_of, families_of}
use Rattle.ada_events.specs.Asks.{asked_event}
use Rattle.ada_events.specs.Refusals.{refusal, lacks_family, is_outside, names_no_family, breaks_constraint}
use Rattle.ada_events.specs.Slots.{number_within, entry_within}
use Rattle.ada_events.specs.Lawful.{IsLawful, MayFollow}
use Rattle.ada_laws.proofs.searching.Searching.{option_or-some, if_some, event_at-cases}
use Rattle.ada_laws.proofs.entries.SlotPlaces.{entries_in-cons, entry_is, none_in}
use Rattle.ada_laws.proofs.asking.Accepting.{is_accepted}
use Rattle.ada_laws.proofs.forced.Stepping.{forced-step}
use Rattle.ada_laws.proofs.searching.Saying.{held_in-call}

some_within : (p : ℕ) (fs : List Family) (n : ℕ) → n < entries_in fs → (e : Entry) × (entry_within p fs n ≡ Some e)
unfolding entry_within
some_within p [] n below = absurd (omega (arith, none_in))
some_within p (g ∷ rest) n below =
    let sum : entries_in (g ∷ rest) ≡ entry_count g + entries_in rest = entries_in-cons g rest in
    elim (cases_lt n (entry_count g)) [
      | inl here ↦ (record { family = p; index = g.low +ℤ pos n }, rw (lt-ltb n (entry_count g) here) refl)
      | inr past ↦
          let found = some_within (suc p) rest (n - entry_count g) (omega arith) in
          (found.0, rw (le-ltb n (entry_count g) past) found.1)
    ]

-- each number below how many entries there are is that of an entry
pub numbered : (fs : List Family) (n : ℕ) → n < entries_in fs → (e : Entry) × (number_within fs e ≡ Some n)
numbered fs n below =
    let found = some_within 0 fs n below in
    (found.0, entry_is fs found.0 n found.1)

-- an entry of a family that is declared, within its range, has a number
pub has_number : (fs : List Family) (e : Entry) (o : Option Family) → slice_get fs e.family ≡ o → is_none o ≡ false
    → option_map_or (λ (f : Family). not (is_in_range f e.index)) o false ≡ false → (n : ℕ) × (number_within fs e ≡ Some n)
unfolding number_within
has_number fs e None is known within = absurd (cc)
has_number fs e (Some f) is known within = (
  entries_in (take e.family fs) + unsigned_abs (e.index -ℤ f.low),
  rw is
      (in_range (is_in_range f e.index) (entries_in (take e.family fs) + unsigned_abs (e.index -ℤ f.low)) within),
)
  where
    in_range : (b : Bool) (n : ℕ) → not b ≡ false → then_some b n ≡ Some n
    in_range true n within = refl
    in_range false n within = absurd (cc)

pub creation_exists : (journal : List Event) (task : ℕ) (c : Creation) → creation_of journal task ≡ Some c → task < task_count journal
unfolding creation_of task_count
creation_exists [] task c made = absurd (none-some c made)
creation_exists (event ∷ before) task c made =
    elim (option_or-some (if eqb task (task_count before) then creation_in event else None) (creation_of before task) c made) [
      | inl now ↦
          let parts = if_some (eqb task (task_count before)) (creation_in event) c now in
          let same : task ≡ task_count before = eqb-true task (task_count before) parts.0 in
          omega (arith, ap option_len parts.1)
      | inr was ↦ omega (arith, creation_exists before task c was)
    ]

declared_by : (fs : Option Creation) (e : Entry) (n : ℕ) → number_within (option_map_or (λ (c : Creation). c.families) fs []) e ≡ Some n → (c : Creation)
    × (fs ≡ Some c)
unfolding number_within
declared_by None e n number = absurd (none-some n number)
declared_by (Some c) e n number = (c, refl)

-- who has an entry exists
pub declarer_exists : (journal : List Event) (task : ℕ) (e : Entry) (n : ℕ) → number_within (families_of journal task) e ≡ Some n → task < task_count journal
unfolding families_of
declarer_exists journal task e n number =
    let by = declared_by (creation_of journal task) e n number in
    creation_exists journal task by.0 by.1

pub families_stay : (event : Event) (before : List Event) (task : ℕ) → task < task_count before → families_of (event ∷ before) task ≡ families_of before task
unfolding families_of creation_of
families_stay event before task below = rw (ne_eqb task (task_count before) (λ same. omega (arith, same, below))) refl

abbrev pub HasNumber : List Event → Call → Type 0
HasNumber journal c = (n : ℕ) × (number_within (families_of journal c.callee) c.entry ≡ Some n)

number_stays : (event : Event) (before : List Event) (c : Call) → HasNumber before c → HasNumber (event ∷ before) c
number_stays event before c has = (
  has.0,
  ap (λ (fs : List Family). number_within fs c.entry)
      (families_stay event before c.callee (declarer_exists before c.callee c.entry has.0 has.1)) ∙ has.1,
)

asked_number : (journal : List Event) (r : Request) (c : Call) → refusal journal r ≡ None → call_in (asked_event journal r) ≡ Some c → HasNumber journal c
unfolding asked_event call_in names_no_family breaks_constraint lacks_family is_outside
asked_number journal (request.Call by callee entry patience) c accepted says =
    let same = same_Some _ c says in
    let is = is_accepted journal (request.Call by callee entry patience) accepted in
    subst (HasNumber journal) same (has_number (families_of journal callee.0) entry (slice_get (families_of journal callee.0) entry.family) refl
    is.families_known is.in_range)
asked_number journal _ c accepted says = absurd (none-some c says)

pub new_number : (event : Event) (before : List Event) (c : Call) → MayFollow refusal before event → call_in event ≡ Some c → HasNumber before c
new_number event before c (inl forces) says = absurd (none-some c.by (sym (forced-step before event forces).holds_none ∙ held_in-call event c says))
new_number event before c (inr asked) says = asked_number before asked.request c asked.accepted (ap call_in (sym asked.becomes) ∙ says)

-- in a lawful journal a call names an entry of its callee
pub call_names_entry : (journal : List Event) (p : ℕ) (event : Event) (c : Call) → IsLawful journal → event_at journal p ≡ Some event → call_in event ≡ Some c
    → (n : ℕ) × (number_within (families_of journal c.callee) c.entry ≡ Some n)
unfolding event_at
call_names_entry [] p event c lawful at says = absurd (none-some event at)
call_names_entry (newest ∷ before) p event c lawful at says =
    elim (event_at-cases newest before p event at) [
      | inl now ↦ number_stays newest before c (new_number newest before c lawful.1 (ap call_in now.1 ∙ says))
      | inr was ↦ number_stays newest before c (call_names_entry before p event c lawful.0 was says)
    ]
