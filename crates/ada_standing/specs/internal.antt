-- What only proofs and private functions cite: no caller meets it.
pub mod Next
pub mod Suspending
