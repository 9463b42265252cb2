pub mod Paper
pub mod Outcome
pub mod Accepted
