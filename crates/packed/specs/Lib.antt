pub mod Graph
pub mod Packed
pub mod Refusals
pub mod Table
pub mod Determined
pub mod Paper
pub mod Examples
