pub mod Written
pub mod Numerals
pub mod Parts
pub mod Numbers
pub mod ReadBack
pub mod Cases
