pub mod Entries
pub mod Bases
pub mod Naming
pub mod Completing
