pub mod Overriders
pub mod Results
pub mod Finals
pub mod Kept
