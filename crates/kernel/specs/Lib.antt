pub mod Pass
pub mod Centre
pub mod Window
pub mod Lifting
