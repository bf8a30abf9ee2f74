-- What only the fields of a handle and what it lends cite: no caller meets it.
pub mod Coded
pub mod CodedThreads
pub mod Follows
pub mod FollowsThreads
pub mod Outcomes
