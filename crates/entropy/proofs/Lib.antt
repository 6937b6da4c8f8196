pub mod Cases
pub mod Bounds
pub mod Answers
