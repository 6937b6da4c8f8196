pub mod Pairs
pub mod Highest
pub mod Filling
pub mod Raised
