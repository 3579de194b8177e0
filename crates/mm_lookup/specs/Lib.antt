pub mod Lookup
pub mod Access
