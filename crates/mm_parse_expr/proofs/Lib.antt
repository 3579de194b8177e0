pub mod Turns
pub mod Exits
pub mod Longest
pub mod Count
