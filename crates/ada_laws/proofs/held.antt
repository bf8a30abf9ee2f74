-- What holds a task up, and what lasts.
pub mod Suspending
pub mod Releasing
pub mod OutcomeLaws
pub mod LastingLaws
