pub mod Locals
pub mod Places
pub mod Placed
pub mod Seen
pub mod Near
pub mod Does
pub mod Laws
