pub mod Scopes
pub mod Keeps
pub mod Locals
pub mod Places
