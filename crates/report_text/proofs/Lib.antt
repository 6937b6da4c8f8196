pub mod Filters
pub mod Replies
pub mod Pictures
pub mod Reports
pub mod Cases
