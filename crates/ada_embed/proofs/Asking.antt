-- A kernel that lives on is asked with or without a clock of its host's, and answers in numbers.
use Rattle.std.proofs.Common.{◌≡◌, ℕ, ℤ, pos, true, false, Result, Ok, Err, List, [], ◌∷◌, length, get_or}
use Rattle.std.proofs.Common.{IfOk, IfErr, inl, inr, subst, sym, refl, ap, ◌∙◌, arith}
use Rattle.ada_events.specs.declared.event.Event.{Event}
use Rattle.ada_events.specs.declared.request.Request.{Request}
use Rattle.ada_border.specs.declared.bad.Bad.{Bad}
use Rattle.ada_border.specs.declared.parts.PlainChoice.{PlainChoice}
use Rattle.ada_border.specs.declared.parts.PlainPause.{PlainPause}
use Rattle.ada_lasting.specs.declared.failure.NotDone.{NotDone}
use Rattle.ada_lasting.specs.Clock.{IsSteppedAt, IsRefusedAt}
use Rattle.ada_lasting.specs.Following.{Long, Follows, IsStepped}
use Rattle.ada_lasting.specs.GivingUp.{GivesUpOnly}
use Rattle.ada_lasting.specs.Refusing.{IsRefused}
use Rattle.ada_embed.specs.declared.host_kernel.HostKernel.{HostKernel}
use Rattle.ada_embed.specs.declared.host_kernel.HostKernel.TheVariants.{Lasting}
use Rattle.ada_embed.specs.Answers.{has_clock, IsSteppedNow, IsRefusedNow, IsAnsweredLasting, IsAnsweredBy, IsChangedBy}
use Rattle.ada_embed.specs.Codes.{lasting_code}
use Rattle.ada_embed.specs.Requests.{Asked, wait_in}

-- ---- with or without a clock

pub stepped_by_clock : (old new : Long) (now passed : ℤ) (request : Request) (result : Result ℕ NotDone) → has_clock now ≡ true → passed ≡ now
    → IfOk result (λ at. (journal : List Event) → Follows journal old → IsSteppedAt journal passed request old at new)
    → IfOk result (λ at. (journal : List Event) → Follows journal old → IsSteppedNow journal now request old at new)
stepped_by_clock old new now passed request (Ok at) has same stepped = λ journal follows. inr (
  has,
  subst (λ moment. IsSteppedAt journal moment request old at new) same (stepped journal follows),
)
stepped_by_clock old new now passed request (Err cause) has same stepped = tt

pub refused_by_clock : (old new : Long) (now passed : ℤ) (request : Request) (result : Result ℕ NotDone) → has_clock now ≡ true → passed ≡ now
    → IfErr result (λ cause. (journal : List Event) → Follows journal old → IsRefusedAt journal passed request cause old new)
    → IfErr result (λ cause. (journal : List Event) → Follows journal old → IsRefusedNow journal now request cause old new)
refused_by_clock old new now passed request (Err cause) has same refused = λ journal follows. inr (
  has,
  subst (λ moment. IsRefusedAt journal moment request cause old new) same (refused journal follows),
)
refused_by_clock old new now passed request (Ok at) has same refused = tt

pub stepped_without : (old new : Long) (now : ℤ) (request : Request) (result : Result ℕ NotDone) → has_clock now ≡ false
    → ((journal : List Event) → Follows journal old → GivesUpOnly journal old.names new.names)
    → IfOk result (λ at. (journal : List Event) → Follows journal old → IsStepped journal request at new)
    → IfOk result (λ at. (journal : List Event) → Follows journal old → IsSteppedNow journal now request old at new)
stepped_without old new now request (Ok at) none given stepped = λ journal follows. inl (none, given journal follows, stepped journal follows)
stepped_without old new now request (Err cause) none given stepped = tt

pub refused_without : (old new : Long) (now : ℤ) (request : Request) (result : Result ℕ NotDone) → has_clock now ≡ false
    → ((journal : List Event) → Follows journal old → GivesUpOnly journal old.names new.names)
    → IfErr result (λ cause. (journal : List Event) → Follows journal old → IsRefused journal request cause old new)
    → IfErr result (λ cause. (journal : List Event) → Follows journal old → IsRefusedNow journal now request cause old new)
refused_without old new now request (Err cause) none given refused = λ journal follows. inl (none, given journal follows, refused journal follows)
refused_without old new now request (Ok at) none given refused = tt

-- ---- answers

pub accepted : (old new : Long) (read : Result Request Bad) (request : Request) (passed now : ℤ) (was at : ℕ) → read ≡ Ok request → passed ≡ now
    → ((journal : List Event) → Follows journal old → IsSteppedNow journal passed request old at new)
    → (journal : List Event) → Follows journal old → IsAnsweredLasting journal read now (pos 0) was at old new
accepted old new read request passed now was at is same stepped journal follows =
    subst (λ r. IsAnsweredLasting journal r now (pos 0) was at old new) (sym is) (inl (
      refl,
      subst (λ moment. IsSteppedNow journal moment request old at new) same (stepped journal follows),
    ))

pub refused : (old new : Long) (read : Result Request Bad) (request : Request) (cause : NotDone) (passed now code : ℤ) (was : ℕ)
    → read ≡ Ok request → passed ≡ now → code ≡ lasting_code cause
    → ((journal : List Event) → Follows journal old → IsRefusedNow journal passed request cause old new)
    → (journal : List Event) → Follows journal old → IsAnsweredLasting journal read now code was was old new
refused old new read request cause passed now code was is same coded not journal follows =
    subst (λ r. IsAnsweredLasting journal r now code was was old new) (sym is) (inr (
      cause,
      coded,
      subst (λ moment. IsRefusedNow journal moment request cause old new) same (not journal follows),
      refl,
    ))

-- without a clock

pub accepted_without : (old new : Long) (read : Result Request Bad) (request : Request) (was at : ℕ) → read ≡ Ok request
    → ((journal : List Event) → Follows journal old → GivesUpOnly journal old.names new.names)
    → ((journal : List Event) → Follows journal old → IsStepped journal request at new)
    → (now : ℤ) → has_clock now ≡ false → (journal : List Event) → Follows journal old
    → IsAnsweredLasting journal read now (pos 0) was at old new
accepted_without old new read request was at is given stepped now none =
    accepted old new read request now now was at is refl (λ journal follows. inl (none, given journal follows, stepped journal follows))

pub refused_without_clock : (old new : Long) (read : Result Request Bad) (request : Request) (cause : NotDone) (code : ℤ) (was : ℕ)
    → read ≡ Ok request → code ≡ lasting_code cause
    → ((journal : List Event) → Follows journal old → GivesUpOnly journal old.names new.names)
    → ((journal : List Event) → Follows journal old → IsRefused journal request cause old new)
    → (now : ℤ) → has_clock now ≡ false → (journal : List Event) → Follows journal old
    → IsAnsweredLasting journal read now code was was old new
refused_without_clock old new read request cause code was is coded given not now none =
    refused old new read request cause now now code was is refl coded (λ journal follows. inl (none, given journal follows, not journal follows))

-- the same answer, where what was read is what was asked, and numbers come back as they went
pub answered_alike : (old new : Long) (read asked : Result Request Bad) (passed now code said : ℤ) (was at : ℕ)
    → read ≡ asked → passed ≡ now → code ≡ said
    → ((journal : List Event) → Follows journal old → IsAnsweredLasting journal read passed code was at old new)
    → (journal : List Event) → Follows journal old → IsAnsweredLasting journal asked now said was at old new
answered_alike old new read asked passed now code said was at is same also answered journal follows =
    subst (λ c. IsAnsweredLasting journal asked now c was at old new) also (
    subst (λ m. IsAnsweredLasting journal asked m code was at old new) same (
    subst (λ r. IsAnsweredLasting journal r passed code was at old new) is (answered journal follows)
    )
    )

pub answered_alike_without : (old new : Long) (read asked : Result Request Bad) (code said : ℤ) (was at : ℕ) → read ≡ asked → code ≡ said
    → ((now : ℤ) → has_clock now ≡ false → (journal : List Event) → Follows journal old
    → IsAnsweredLasting journal read now code was at old new)
    → (now : ℤ) → has_clock now ≡ false → (journal : List Event) → Follows journal old
    → IsAnsweredLasting journal asked now said was at old new
answered_alike_without old new read asked code said was at is also answered now none =
    answered_alike old new read asked now now code said was at is refl also (answered now none)

-- what a kernel that lives on answered to what was read is what a host is answered
pub answered_by : (home : HostKernel) (old new : Long) (asked : Asked) (read : Result Request Bad) (passed now code said : ℤ) (was at : ℕ)
    → home ≡ Lasting old → read ≡ asked.lasting → passed ≡ now → code ≡ said
    → ((journal : List Event) → Follows journal old → IsAnsweredLasting journal read passed code was at old new)
    → IsAnsweredBy home asked now said was at (Lasting new)
answered_by home old new asked read passed now code said was at kind is same also answered =
    subst (λ h. IsAnsweredBy h asked now said was at (Lasting new)) (sym kind) (
      new,
      refl,
      answered_alike old new read asked.lasting passed now code said was at is same also answered,
    )

-- the same without a clock
pub answered_by_without : (home : HostKernel) (old new : Long) (asked : Asked) (read : Result Request Bad) (now code said : ℤ) (was at : ℕ)
    → home ≡ Lasting old → read ≡ asked.lasting → has_clock now ≡ false → code ≡ said
    → ((now : ℤ) → has_clock now ≡ false → (journal : List Event) → Follows journal old
    → IsAnsweredLasting journal read now code was at old new)
    → IsAnsweredBy home asked now said was at (Lasting new)
answered_by_without home old new asked read now code said was at kind is none also answered =
    answered_by home old new asked read now now code said was at kind is refl also (answered now none)

-- what a kernel that lives on changed is what is changed for a host
pub changed_by : (home : HostKernel) (old new : Long) (changes : List Event → ℤ → Long → Long → Type 0) (code said : ℤ)
    → home ≡ Lasting old → code ≡ said → ((journal : List Event) → Follows journal old → changes journal code old new)
    → IsChangedBy home changes said (Lasting new)
changed_by home old new changes code said kind also changed =
    subst (λ h. IsChangedBy h changes said (Lasting new)) (sym kind) (
      new,
      refl,
      λ journal follows. subst (λ c. changes journal c old new) also (changed journal follows),
    )

one_item : {A : Type 0} (items : List A) (default : A) → length items ≡ 1 → items ≡ get_or items 0 default ∷ []
one_item [] default is = absurd (omega (arith, is))
one_item (item ∷ []) default is = refl
one_item (item ∷ other ∷ more) default is = absurd (omega (arith, is))

no_items : {A : Type 0} (items : List A) → length items ≡ 0 → items ≡ []
no_items [] is = refl
no_items (item ∷ more) is = absurd (omega (arith, is))

-- an accept statement is a selective wait with one alternative and no last part
pub accept_alone : (by pick tail : ℕ) (default : PlainChoice) (choices : List PlainChoice) (delays : List PlainPause)
    → length choices ≡ 1 → tail ≡ 0 → length delays ≡ 0
    → (wait_in by (get_or choices 0 default ∷ []) 0 [] pick).lasting ≡ (wait_in by choices tail delays pick).lasting
accept_alone by pick tail default choices delays one none empty =
    ap (λ cs. (wait_in by cs 0 [] pick).lasting) (sym (one_item choices default one)) ∙ ap (λ t. (wait_in by choices t [] pick).lasting) (sym none)
    ∙ ap (λ ds. (wait_in by choices tail ds pick).lasting) (sym (no_items delays empty))
