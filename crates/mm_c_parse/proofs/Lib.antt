pub mod Steps
pub mod Words
pub mod Skips
pub mod Ops
pub mod Lists
pub mod Many
pub mod Seen
