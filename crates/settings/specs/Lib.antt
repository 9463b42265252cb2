pub mod Settings
pub mod Table
pub mod Examples
pub mod Paper
