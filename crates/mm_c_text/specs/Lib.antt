pub mod Places
pub mod Scan
pub mod Classes
pub mod Cursor
