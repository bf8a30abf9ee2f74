-- What holds of a request that is not refused, and what it leads to.
pub mod Accepting
pub mod CauseParts
pub mod Limitless
pub mod LimitLaws
pub mod RequestLaws
pub mod GroupLaws
