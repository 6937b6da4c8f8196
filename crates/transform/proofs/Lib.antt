pub mod Refusals
pub mod Calls
pub mod Theorems
pub mod LocalCalls
