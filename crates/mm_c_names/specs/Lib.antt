pub mod Words
pub mod Entries
pub mod Tables
pub mod Scopes
