-- A slab that is copied has the same slots.
use Rattle.std.proofs.Common.{◌≡◌, ℕ, Option, Some, None, List, ap, ◌∙◌}
use Rattle.std.proofs.lemmas.List.Elements.{same_from_all_zip}
use Rattle.slab.specs.Slab.{Slab, IsSlotClone, IsSlabClone}

module _ {T : Type 0} (is_clone : T → T → Type 0) (same : (x y : T) → is_clone x y → y ≡ x) where
  same_slot : (slot copy : Option T) → IsSlotClone is_clone slot copy → copy ≡ slot
  same_slot None copy is = is
  same_slot (Some value) None is = absurd is
  same_slot (Some value) (Some copy) is = ap Some (same value copy is)

  -- the copy has the same slots, and gives out the same key next
  pub same_slab : (slab copy : Slab T) → IsSlabClone is_clone slab copy → copy ≡ record slab { capacity = copy.capacity }
  same_slab slab copy is =
      ap (λ (slots : List (Option T)). record copy { slots = slots }) (same_from_all_zip (IsSlotClone is_clone) slab.slots copy.slots is.slots same_slot)
      ∙ ap (λ (key : ℕ). record slab { vacant_key = key; capacity = copy.capacity }) is.vacant_key
