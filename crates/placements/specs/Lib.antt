pub mod Listed
pub mod Calls
pub mod Claims
pub mod Examples
