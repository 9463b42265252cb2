pub mod Paths
pub mod Parts
