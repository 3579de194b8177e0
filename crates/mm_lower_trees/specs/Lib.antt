pub mod Named
pub mod Scopes
pub mod Steps
