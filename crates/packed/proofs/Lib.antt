pub mod First
pub mod Accepted
pub mod Table
pub mod Determined
pub mod Numbered
