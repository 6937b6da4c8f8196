pub mod Occurrences
pub mod Sums
pub mod Bins
pub mod CountedIndices
pub mod Estimates
