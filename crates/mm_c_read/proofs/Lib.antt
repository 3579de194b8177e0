pub mod Stops
pub mod Broken
