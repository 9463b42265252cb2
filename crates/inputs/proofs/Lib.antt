pub mod Lines
pub mod Answered
