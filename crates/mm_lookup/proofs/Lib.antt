pub mod Declaring
pub mod Finding
pub mod Chains
pub mod Collapse
pub mod Using
