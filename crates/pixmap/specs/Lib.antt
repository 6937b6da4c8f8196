pub mod Parts
pub mod HeaderFields
pub mod Parsed
pub mod Agreement
