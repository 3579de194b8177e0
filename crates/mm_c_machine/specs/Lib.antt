pub mod Answers
pub mod Frames
pub mod State
pub mod Ready
pub mod Goes
pub mod Parts
pub mod Runs
