pub mod Written
pub mod Numbers
pub mod ReadBack
pub mod Cases
