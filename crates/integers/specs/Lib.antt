pub mod Parts
pub mod Lists
pub mod Slices
