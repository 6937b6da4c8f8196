mod Exact
mod Sums
mod Fractions
mod Cuts
mod Compared
mod Rows
mod Stored
pub mod Values
mod RoundTrips
mod Found
mod Replies
mod Cases
