pub mod Returned
pub mod Previews
