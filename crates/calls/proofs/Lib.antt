pub mod Handed
pub mod Answered
pub mod Searched
pub mod Judged
pub mod Outcomes
