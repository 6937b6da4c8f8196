pub mod Passes
pub mod Steps
pub mod BandRows
