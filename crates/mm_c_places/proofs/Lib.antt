pub mod Seen
pub mod Nears
pub mod Do
pub mod Runs
pub mod Whole
pub mod Ready
