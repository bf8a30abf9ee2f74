-- What the masters that a task holds may force, in an agenda.
use Rattle.std.proofs.Common.{◌≡◌, ℕ, ◌+◌, ◌<◌, ◌≤◌, true, false, List, Option, Some, None, Bool, length, sym, ap, ◌∙◌, arith, inl, inr}
use Rattle.std.specs.Prelude.{slice_get}
use Rattle.std.proofs.lemmas.Bool.{eqb-true, false≢true}
use Rattle.std.proofs.lemmas.Option.{none-some, same_Some, slice_get-get_or, get_or_from_slice_get, slice_get_cases}
use Rattle.ada_events.specs.declared.event.Event.{Event}
use Rattle.ada_events.specs.declared.limits.TheConstants.{MOST_EVENTS}
use Rattle.ada_events.specs.declared.names.Master.{Master}
use Rattle.ada_events.specs.declared.names.Master.TheVariants.{Body, Block}
use Rattle.ada_events.specs.declared.names.Member.{Member}
use Rattle.ada_events.specs.declared.names.Member.TheVariants.{Block as BlockMember, Rendezvous}
use Rattle.ada_events.specs.Phases.{is_completed}
use Rattle.ada_events.specs.Nests.{nest}
use Rattle.ada_events.specs.Lawful.{IsLawful}
use Rattle.ada_laws.proofs.searching.Searching.{event_at-within}
use Rattle.ada_laws.proofs.asking.LimitLaws.{events_are_few}
use Rattle.ada_laws.proofs.within.Framing.{IsBlockOf}
use Rattle.ada_step_laws.specs.declared.row.Row.{Row}
use Rattle.ada_step_laws.specs.declared.row.Row.TheVariants.{Terminating, QuittingBody, QuittingBlock, Leaving}
use Rattle.ada_events.specs.Holders.{has_block, holds}
use Rattle.ada_agenda.specs.declared.numbers.TheConstants.{MOST_KEYS}
use Rattle.ada_agenda.specs.Keeping.{has_key, Puts, When, AsKey}
use Rattle.ada_agenda.specs.internal.Keeping.{Both}
use Rattle.ada_step_laws.specs.Kinds.{quitting_row, quitting_key}
use Rattle.ada_agenda.proofs.Noting.{grows_same}
use Rattle.ada_laws.proofs.within.Owners.{block_in_nest, contains_block, has_contained}
use Rattle.ada_tables.specs.declared.layers.Layer.{Layer}
use Rattle.ada_tables.specs.Layers.{member_of, members}
use Rattle.std.proofs.lemmas.List.{length-map}
use Rattle.ada_triggers.proofs.Putting.{puts_more, puts_all}
use Rattle.ada_triggers.specs.internal.Keys.{OfFirst, AsHeld, AsMember, AsBlock, AsHolder, may_go, may_quit}
use Rattle.ada_agenda.specs.Keeping.AsKey.{itself}
use Rattle.ada_agenda.specs.Keeping.When.{holds_so}
use Rattle.ada_triggers.specs.internal.Keys.AsHeld.{held}
use Rattle.ada_triggers.specs.internal.Keys.AsMember.{block}
use Rattle.ada_triggers.specs.internal.Keys.AsHolder.{quits, goes, leaves}

number_of : Member → ℕ
number_of (BlockMember p) = p
number_of _ = 0

block_number : {p q : ℕ} → BlockMember p ≡ BlockMember q → p ≡ q
unfolding number_of
block_number same = ap number_of same

-- the position of a block finds room in a row
pub block_fits : (journal : List Event) (task p : ℕ) → IsLawful journal → IsBlockOf journal task p → p < MOST_KEYS
block_fits journal task p lawful of =
    let within : p ≤ length journal = event_at-within journal p of.event of.stands in
    let few : length journal ≤ MOST_EVENTS = events_are_few journal lawful in
    omega (arith, within, few)

member_is : (members : List Member) (place b : ℕ) → slice_get members place ≡ Some (BlockMember b) → has_block b members ≡ true
member_is members place b is =
    elim (slice_get_cases members place).1 [
      | inl there ↦ has_contained members b place there.1 (get_or_from_slice_get members place (BlockMember b) (BlockMember b) is)
      | inr past ↦ absurd (none-some (BlockMember b) (sym past.1 ∙ is))
    ]

pub member_fits : (journal : List Event) (task place p : ℕ) → IsLawful journal → slice_get (nest journal task) place ≡ Some (BlockMember p) → p < MOST_KEYS
member_fits journal task place p lawful is = block_fits journal task p lawful (block_in_nest journal task p (member_is (nest journal task) place p is)).0

-- a block of a nest stands at a place of it
pub block_place : (members : List Member) (b : ℕ) → has_block b members ≡ true → (k : ℕ) × (k < length members) × (slice_get members k ≡ Some (BlockMember b))
block_place members b has =
    let (k, below, is) = contains_block members b has in
    (k, below, slice_get-get_or members k (BlockMember b) below ∙ ap Some is)

-- what a task that holds masters has put in
abbrev pub HolderKeys : List Event → ℕ → Row → ℕ → Type 0
HolderKeys journal task =
    Both (Both (Both (When (may_go journal task) (AsKey Terminating task)) (When (is_completed journal task) (AsKey QuittingBody task)))
    (AsHeld journal Leaving task))
    (OfFirst (AsBlock (nest journal task)) (length (nest journal task)))

held_key : (journal : List Event) (task : ℕ) (m : Master) → holds task (nest journal task) m ≡ true → may_quit journal m ≡ true
    → HolderKeys journal task (quitting_row m) (quitting_key m)
held_key journal task (Body t) has may =
    let same : t.0 ≡ task = eqb-true t.0 task has in
    inl (inl (inr (rw same (holds_so (ap (is_completed journal) (sym same) ∙ may) itself))))
held_key journal task (Block b) has may =
    let (k, below, is) = block_place (nest journal task) b has in
    inr (record { task = k; among = below; of = block b is })

holder_key : (journal : List Event) (task : ℕ) (row : Row) (key : ℕ) → AsHolder journal task row key → HolderKeys journal task row key
holder_key journal task row key (quits m has may) = held_key journal task m has may
holder_key journal task row key (goes may) = inl (inl (inl (holds_so may itself)))
holder_key journal task row key (leaves event p stands closes suspended) = inl (inr (held event p stands closes suspended))

pub holder_put : (journal : List Event) (old new : List (List ℕ)) (task : ℕ) → Puts old new (HolderKeys journal task) → Puts old new (AsHolder journal task)
holder_put journal old new task puts = record { grows = puts.grows; here = λ row key of. puts.here row key (holder_key journal task row key of) }

member_key : (p : ℕ) (row : Row) (key : ℕ) → AsMember (Some (BlockMember p)) row key → AsKey QuittingBlock p row key
member_key p row key (block q same) =
    let one : p ≡ q = block_number (same_Some (BlockMember p) (BlockMember q) same) in
    rw (← one) itself

pub member_put : (old new : List (List ℕ)) (p : ℕ) → Puts old new (AsKey QuittingBlock p) → Puts old new (AsMember (Some (BlockMember p)))
member_put old new p puts = record { grows = puts.grows; here = λ row key of. puts.here row key (member_key p row key of) }

is_block_member : Member → Bool
is_block_member (BlockMember p) = true
is_block_member _ = false

no_rendezvous : (call p : ℕ) → Rendezvous call ≡ BlockMember p → ⊥
unfolding is_block_member
no_rendezvous call p same = false≢true (ap is_block_member same)

rendezvous_key : (new : List (List ℕ)) (call : ℕ) (row : Row) (key : ℕ) → AsMember (Some (Rendezvous call)) row key → has_key new row key ≡ true
rendezvous_key new call row key (block q same) = absurd (no_rendezvous call q (same_Some (Rendezvous call) (BlockMember q) same))

pub rendezvous_put : (old : List (List ℕ)) (call : ℕ) → Puts old old (AsMember (Some (Rendezvous call)))
rendezvous_put old call = record { grows = grows_same old; here = λ row key of. rendezvous_key old call row key of }

none_key : (new : List (List ℕ)) (row : Row) (key : ℕ) → AsMember None row key → has_key new row key ≡ true
none_key new row key (block q same) = absurd (none-some (BlockMember q) same)

pub none_put : (old : List (List ℕ)) → Puts old old (AsMember None)
none_put old = record { grows = grows_same old; here = λ row key of. none_key old row key of }

-- the masters that a task holds, after its blocks
pub blocks_put : (old mid new : List (List ℕ)) (members all : List Member) (place : ℕ) (member : Option Member)
    → Puts old mid (OfFirst (AsBlock all) place) → members ≡ all → member ≡ slice_get members place → Puts mid new (AsMember member)
    → Puts old new (OfFirst (AsBlock all) (place + 1))
blocks_put old mid new members all place member so_far same got one =
    puts_more old mid new (AsBlock all) place so_far (rw (← same) (rw (← got) one))

pub all_blocks_put : (old new : List (List ℕ)) (all : List Member) (layers : List Layer) (place : ℕ) → Puts old new (OfFirst (AsBlock all) place)
    → members layers ≡ all → length layers ≤ place → Puts old new (OfFirst (AsBlock all) (length all))
all_blocks_put old new all layers place puts same enough =
    let many : length all ≡ length layers = sym (ap length same) ∙ length-map layers member_of in
    puts_all old new (AsBlock all) place (length all) puts (omega (arith, many, enough))

pub got_fits : (journal : List Event) (task place p : ℕ) (members : List Member) (member : Option Member) → IsLawful journal → members ≡ nest journal task
    → member ≡ slice_get members place → member ≡ Some (BlockMember p) → p < MOST_KEYS
got_fits journal task place p members member lawful same got is =
    member_fits journal task place p lawful (ap (λ m. slice_get m place) (sym same) ∙ (sym got ∙ is))
