pub mod Table
pub mod TransformPasses
pub mod Quarter
pub mod Turns
pub mod Readiness
pub mod BandRows
pub mod StepRows
