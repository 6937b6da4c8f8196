pub mod Samples
pub mod Pairs
