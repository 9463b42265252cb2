pub mod Answers
pub mod Joins
pub mod FindingSources
pub mod Counts
pub mod Placement
