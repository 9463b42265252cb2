pub mod Walk
pub mod Within
pub mod Words
pub mod Matrix
