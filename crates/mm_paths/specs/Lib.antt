pub mod Stored
pub mod Names
pub mod Reach
pub mod Ends
