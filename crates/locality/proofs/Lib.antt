pub mod Parts
pub mod SharedPart
pub mod CutOuts
pub mod Spots
pub mod Distances
pub mod NoLess
pub mod Cases
