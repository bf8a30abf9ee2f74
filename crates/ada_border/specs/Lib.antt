pub mod Answers
pub mod Boards
pub mod Codes
pub mod Events
pub mod Outcomes
pub mod Requests
