pub mod Text
pub mod Report
pub mod Found
pub mod Promises
pub mod Cases
