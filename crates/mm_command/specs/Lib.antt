pub mod Command
pub mod Outside
pub mod Due
pub mod Answers
pub mod Writing
