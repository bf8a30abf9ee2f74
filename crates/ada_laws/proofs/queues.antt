-- Calls, their queues, and the rendezvous that take them.
pub mod Queueing
pub mod Counting
pub mod Meeting
pub mod CallLaws
