pub mod Units
pub mod Bounds
pub mod Reading
