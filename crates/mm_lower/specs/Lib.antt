pub mod Needed
pub mod Written
