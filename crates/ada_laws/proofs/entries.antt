-- Entries and their slots.
pub mod SlotLaws
pub mod SlotPlaces
pub mod SlotOrder
