pub mod Reach
pub mod Parts
pub mod Locality
pub mod LocalityCases
