pub mod Quarters
pub mod Spaces
pub mod Calls
pub mod Parts
pub mod Matrices
pub mod Theorems
pub mod PreviewCases
