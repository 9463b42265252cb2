pub mod Fit
pub mod Lines
