pub mod Numbering
pub mod Held
pub mod Named
