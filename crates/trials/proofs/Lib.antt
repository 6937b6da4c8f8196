pub mod TrialSteps
pub mod Filters
pub mod Rounds
