pub mod Sessions
pub mod Promises
pub mod Examples
