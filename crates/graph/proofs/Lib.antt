pub mod Walk
pub mod Matrix
pub mod Words
pub mod Files
