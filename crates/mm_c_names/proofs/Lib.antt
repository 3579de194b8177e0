pub mod Words
pub mod Named
pub mod Entries
pub mod Shown
pub mod Defined
pub mod Rules
