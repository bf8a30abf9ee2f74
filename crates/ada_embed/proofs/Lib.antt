pub mod ReadBack
pub mod AsBox
pub mod AsThreadsBox
pub mod Asking
pub mod Told
pub mod Listed
