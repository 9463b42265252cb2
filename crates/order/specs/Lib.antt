pub mod Order
pub mod Renumber
pub mod Claims
pub mod Arrays
pub mod Held
pub mod Ordered
pub mod Paper
pub mod Examples
